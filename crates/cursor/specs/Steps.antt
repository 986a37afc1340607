-- For the proofs of the code alone: what receiving with a cursor takes down before the call, and what it makes of what
-- was decided without one.
use Rattle.std.specs.Prelude.{ℕ, ◌≡◌, Bool, true, false, cond, List, ltb, length}
use Rattle.woot.specs.declared.Character.{Character}
use Rattle.woot.specs.declared.Operation.{Operation}
use Rattle.woot.specs.declared.ReceiptAt.{ReceiptAt}
use Rattle.answers.specs.declared.Refusal.TheVariants.{Position}
use Rattle.answers.specs.declared.Answer.{Answer}
use Rattle.answers.specs.declared.Answer.TheVariants.{Done, Deferred, Duplicate, Refused}
use Rattle.answers.specs.Answers.{earlier}
use Rattle.woot.specs.Calls.{visibles}
use Rattle.woot.specs.Cursor.{left_of, receive_at_when}
use Rattle.woot.specs.Table.{key}
use Rattle.memory.specs.Columns.{Replica, meaning, replica_well_formed}
use Rattle.reception.specs.declared.Decision.{Decision}
use Rattle.reception.specs.declared.Decision.TheVariants.{Answered, Defer, Place, Toggle as toggleAt}
use Rattle.reception.specs.Decisions.{outcome_of, Feasible}
use Rattle.cursor.specs.declared.Anchor.{Anchor}
use Rattle.cursor.specs.declared.Judgement.{Judgement}
use Rattle.cursor.specs.declared.ReceivedAt.{ReceivedAt}
use Rattle.woot.specs.declared.Replica.{Replica as InMemory}

-- the key of what stands on the left of gap g, and whether the gap is beyond the visible characters
unfoldable pub anchor_of : List Character → ℕ → Anchor
anchor_of cs g = record { left = key (left_of cs g); beyond = ltb (length (visibles cs)) g }

-- the answer to receiving once the gap is known to be beyond or not: known stays, and of a refusal and 4 the earlier
-- one
unfoldable pub answer_at : Bool → Answer → Answer
answer_at true (Done n m) = Refused Position
answer_at true Deferred = Refused Position
answer_at true Duplicate = Duplicate
answer_at true (Refused q) = Refused (earlier q Position)
answer_at false (Done n m) = Done n m
answer_at false Deferred = Deferred
answer_at false Duplicate = Duplicate
answer_at false (Refused q) = Refused q

-- what is done once the gap is known to be beyond or not
unfoldable pub overruled : Bool → Decision → Decision
overruled b (Answered a) = Answered (answer_at b a)
overruled b Defer = cond b (Answered (Refused Position)) Defer
overruled b (Place k) = cond b (Answered (Refused Position)) (Place k)
overruled b (toggleAt k) = cond b (Answered (Refused Position)) (toggleAt k)

-- a decision that the rules make with the cursor at gap g, whether or not the replica is in form, and the key of what
-- stands on its left where it is
pub record JudgedAt (r : Replica) (o : Operation) (g : ℕ) (j : Judgement) : Type 0 where
  pub outcome : receive_at_when (replica_well_formed r) (meaning r) o g ≡ outcome_of (meaning r) o j.decision
  pub feasible : Feasible r o j.decision
  pub left : replica_well_formed r ≡ true → j.left ≡ key (left_of (meaning r).characters g)

-- what receiving with a cursor answers, with the replica that is left
abbrev pub receipt_in : InMemory → ReceivedAt → ReceiptAt
receipt_in r x = record { answer = x.answer; replica = r; shift = x.shift }
