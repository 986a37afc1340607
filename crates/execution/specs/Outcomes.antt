-- For the proofs of the code alone: what carrying out a decision on a replica leaves, and the answer to what was
-- received.
use Rattle.std.specs.Prelude.{ℕ, length}
use Rattle.woot.specs.declared.Operation.{Operation}
use Rattle.answers.specs.declared.Answer.{Answer}
use Rattle.answers.specs.declared.Answer.TheVariants.{Done, Deferred}
use Rattle.woot.specs.Calls.{Outcome, all_integrated, carry_out, defer}
use Rattle.memory.specs.Columns.{Replica, meaning, stored}
use Rattle.memory.specs.Lent.{viewed}
use Rattle.reception.specs.declared.Decision.{Decision}
use Rattle.reception.specs.declared.Decision.TheVariants.{Answered, Defer, Place, Toggle as toggleAt}
use Rattle.delivery.specs.declared.Counts.{Counts}
use Rattle.woot.specs.declared.Replica.{Replica as InMemory}

-- a replica, and how many operations were carried out and how many discarded
pub record Left : Type 0 where
  pub replica : Replica
  pub integrated : ℕ
  pub discarded : ℕ

-- in a replica in memory
abbrev pub left_in : InMemory → Counts → Left
left_in r c = record { replica = viewed r; integrated = c.integrated; discarded = c.discarded }

-- by the rules: the state as it is stored
unfoldable pub left_of : Outcome Answer → Left
left_of w =
    record {
      replica = stored w.state;
      integrated = length (all_integrated w);
      discarded = length w.discarded;
    }

-- by a decision: the very replica where nothing is changed
unfoldable pub left_by : Replica → Operation → Decision → Left
left_by r o (Answered a) = record { replica = r; integrated = 0; discarded = 0 }
left_by r o Defer = left_of (defer (meaning r) o)
left_by r o (Place k) = left_of (carry_out Done (meaning r) o)
left_by r o (toggleAt k) = left_of (carry_out Done (meaning r) o)

-- the answer to a received operation, of the decision and the counts
unfoldable pub answer_by : Decision → ℕ → ℕ → Answer
answer_by (Answered a) n m = a
answer_by Defer n m = Deferred
answer_by (Place k) n m = Done n m
answer_by (toggleAt k) n m = Done n m
