-- For the proofs of the code alone: what is decided of a received operation before anything is changed, and what the
-- calls then know.
use Rattle.std.specs.Prelude.{ℕ, ◌+◌, ◌≤◌, ◌<◌, ◌≡◌, Bool, true, false, not, cond, List, ◌∷◌, leb, eqb, length}
use Rattle.lists.specs.Lists.{keep, distinct}
use Rattle.woot.specs.declared.Insert.{Insert}
use Rattle.woot.specs.declared.Toggle.{Toggle}
use Rattle.woot.specs.declared.Operation.{Operation}
use Rattle.woot.specs.declared.Operation.TheVariants.{Insert as insert, Toggle as toggle}
use Rattle.answers.specs.declared.Refusal.TheVariants.{Crossed, Unplaceable, SenderFull, DocumentFull}
use Rattle.answers.specs.declared.Answer.{Answer}
use Rattle.answers.specs.declared.Answer.TheVariants.{Done, Duplicate, Refused}
use Rattle.woot.specs.Limits.{capacity, share}
use Rattle.woot.specs.Identifiers.{same}
use Rattle.woot.specs.Operations.{sender, character, inserts}
use Rattle.woot.specs.State.{State}
use Rattle.woot.specs.Memory.{pending_slots, value_of}
use Rattle.woot.specs.Placing.{identifiers, insert_at, integrate_insert}
use Rattle.woot.specs.Clock.{heard, heard_all}
use Rattle.answers.specs.Answers.{changes}
use Rattle.woot.specs.Calls.{Outcome, unchanged, insert_carried, carry_out, defer, receive_when}
use Rattle.woot.specs.Table.{key}
use Rattle.memory.specs.Columns.{Replica, meaning, replica_well_formed}
use Rattle.convergence.specs.Invariants.{Sound}
use Rattle.std.specs.Prelude.{Some}
use Rattle.index.specs.Keys.{first_index}
use Rattle.integration.specs.declared.Placement.{Placement}
use Rattle.integration.specs.declared.Placement.TheVariants.{Missing, Crossed as crossing, Unplaceable as placeless}
use Rattle.integration.specs.declared.Placement.TheVariants.{Below}
use Rattle.pending.specs.Counts.{senders_of, has_toggle}
use Rattle.well_formed.specs.Examined.{Examined}
use Rattle.reception.specs.declared.Decision.{Decision}
use Rattle.reception.specs.declared.Decision.TheVariants.{Answered, Defer, Place, Toggle as toggleAt}

-- ---- on the numbers

-- condition 11, with n characters and the keys of the pending operations
unfoldable pub full_in : ℕ → List ℕ → Bool
full_in n own = leb capacity (n + length (keep (λ k. not (eqb k 0)) own))

-- it is asked of an insert
unfoldable pub full_with : ℕ → List ℕ → Operation → Bool
full_with n own (insert i) = full_in n own
full_with n own (toggle t) = false

-- an operation that lacks something: conditions 10 and 11
unfoldable pub lacking_in : ℕ → List ℕ → List ℕ → Operation → Decision
lacking_in n own values o =
    cond (leb share (length (keep (λ s. eqb s (sender o)) (senders_of own values)))) (Answered (Refused SenderFull))
    (cond (full_with n own o) (Answered (Refused DocumentFull)) Defer)

-- an insert with its place: conditions 8 to 11
unfoldable pub placed_in : ℕ → List ℕ → List ℕ → Insert → Placement → Decision
placed_in n own values i Missing = lacking_in n own values (insert i)
placed_in n own values i crossing = Answered (Refused Crossed)
placed_in n own values i placeless = Answered (Refused Unplaceable)
placed_in n own values i (Below k) = cond (full_in n own) (Answered (Refused DocumentFull)) (Place k)

-- a toggle whose target no character is
unfoldable pub absent_in : ℕ → List ℕ → List ℕ → List ℕ → Toggle → Decision
absent_in n own first values t =
    cond (has_toggle (key t.target) (value_of (toggle t)) own first values) (Answered Duplicate)
    (lacking_in n own values (toggle t))

-- ---- what a decision says

-- an insert goes in after the first k characters, for which there is room, and leaves the lists sound; what it releases
-- raises the clock no further
pub record Placed (s : State) (i : Insert) (k : ℕ) : Type 0 where
  pub place : k ≤ length s.characters
  pub room : length s.characters < capacity
  pub result : integrate_insert s.characters i ≡ insert_at k (character i) s.characters
  pub sound : Sound (integrate_insert s.characters i) s.pending
  pub still : heard_all s.site (i ∷ inserts (insert_carried s i).integrated) ≡ heard s.site i

-- the target of a toggle is the character with index k, and no other
pub record Target (s : State) (t : Toggle) (k : ℕ) : Type 0 where
  pub at : first_index (λ c. same t.target c.id) s.characters ≡ Some k
  pub apart : distinct same (identifiers s.characters) ≡ true

-- what the rules answer and leave by a decision
unfoldable pub outcome_of : State → Operation → Decision → Outcome Answer
outcome_of s o (Answered a) = unchanged s a
outcome_of s o Defer = defer s o
outcome_of s o (Place k) = carry_out Done s o
outcome_of s o (toggleAt k) = carry_out Done s o

-- the operation is carried out at the place, on a replica in form
unfoldable pub Executed : Replica → Operation → Decision → Type 0
Executed r o (Answered a) = ⊥
Executed r o Defer = ⊥
Executed r (insert i) (Place k) = Examined r × Placed (meaning r) i k
Executed r (toggle t) (Place k) = ⊥
Executed r (insert i) (toggleAt k) = ⊥
Executed r (toggle t) (toggleAt k) = Examined r × Target (meaning r) t k

-- or it is put off and has a slot, or nothing is changed
unfoldable pub Feasible : Replica → Operation → Decision → Type 0
Feasible r o (Answered a) = changes a ≡ false
Feasible r o Defer = Examined r × (length (meaning r).pending < pending_slots)
Feasible r o (Place k) = Executed r o (Place k)
Feasible r o (toggleAt k) = Executed r o (toggleAt k)

-- a decision that the rules make, whether or not the replica is in form
pub record Judged (r : Replica) (o : Operation) (d : Decision) : Type 0 where
  pub outcome : receive_when (replica_well_formed r) (meaning r) o ≡ outcome_of (meaning r) o d
  pub feasible : Feasible r o d
