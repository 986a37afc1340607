-- What is looked at in the calls' order is what the rules answer, whether or not the replica is in form.
use Prim.Native.Nat.{◌<◌}
use mathlib.Core.Path.{◌≡◌, refl}
use mathlib.Core.Bool.{true, false}
use lib.ListN.{length}
use Rattle.woot.specs.declared.Operation.{Operation}
use Rattle.woot.specs.declared.Operation.TheVariants.{Insert as insert, Toggle as toggle}
use Rattle.answers.specs.declared.Refusal.TheVariants.{Range, Form}
use Rattle.answers.specs.declared.Answer.TheVariants.{Done, Refused}
use Rattle.woot.specs.Ranges.{in_range}
use Rattle.answers.specs.Answers.{changes, decided}
use Rattle.woot.specs.Memory.{pending_slots}
use Rattle.woot.specs.Calls.{unchanged, carry_out, defer, receive_checks, receive_when}
use Rattle.memory.specs.Columns.{Replica, meaning, replica_well_formed}
use Rattle.well_formed.specs.Examined.{Examined}
use Rattle.reception.specs.declared.Decision.{Decision}
use Rattle.reception.specs.declared.Decision.TheVariants.{Answered, Defer, Place, Toggle as toggleAt}
use Rattle.reception.specs.Decisions.{Placed, Target, outcome_of, Executed, Feasible, Judged}

module _ (r : Replica) (o : Operation) where
  pub unranged : in_range o ≡ false → Judged r o (Answered (Refused Range))
  unfolding receive_when receive_checks decided outcome_of Feasible changes
  unranged e = record { outcome = rw e; feasible = refl }

  pub unformed : in_range o ≡ true → replica_well_formed r ≡ false → Judged r o (Answered (Refused Form))
  unfolding receive_when receive_checks decided outcome_of Feasible changes
  unformed ranged e = record { outcome = rw (ranged, e); feasible = refl }

-- what is decided of a replica in form
unfoldable pub Decided : Replica → Operation → Decision → Type 0
Decided r o (Answered a) = (receive_when true (meaning r) o ≡ unchanged (meaning r) a) × (changes a ≡ false)
Decided r o Defer =
    (receive_when true (meaning r) o ≡ defer (meaning r) o) × (length (meaning r).pending < pending_slots)
Decided r (insert i) (Place k) =
    (receive_when true (meaning r) (insert i) ≡ carry_out Done (meaning r) (insert i)) × Placed (meaning r) i k
Decided r (toggle t) (Place k) = ⊥
Decided r (insert i) (toggleAt k) = ⊥
Decided r (toggle t) (toggleAt k) =
    (receive_when true (meaning r) (toggle t) ≡ carry_out Done (meaning r) (toggle t)) × Target (meaning r) t k

-- it is what is judged
pub judged : (r : Replica) (o : Operation) (d : Decision) → Examined r → Decided r o d → Judged r o d
unfolding Decided outcome_of Feasible Executed
judged r o (Answered a) x h = record { outcome = rw x.form h.0; feasible = h.1 }
judged r o Defer x h = record { outcome = rw x.form h.0; feasible = (x, h.1) }
judged r (insert i) (Place k) x h = record { outcome = rw x.form h.0; feasible = (x, h.1) }
judged r (toggle t) (Place k) x h = absurd h
judged r (insert i) (toggleAt k) x h = absurd h
judged r (toggle t) (toggleAt k) x h = record { outcome = rw x.form h.0; feasible = (x, h.1) }
