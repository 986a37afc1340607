-- What loading for use answers, by whether the replica is in form and its characters are loadable.
use mathlib.Core.Path.{◌≡◌, sym, ap, ◌∙◌}
use mathlib.Core.Bool.{Bool, true, false}
use Rattle.answers.specs.declared.Refusal.TheVariants.{Form, Unreachable}
use Rattle.answers.specs.declared.Answer.{Answer}
use Rattle.answers.specs.declared.Answer.TheVariants.{Done, Refused}
use Rattle.woot.specs.declared.Replica.{Replica}
use Rattle.answers.specs.Answers.{decided}
use Rattle.woot.specs.State.{State, initial}
use Rattle.bulk.specs.Loading.{loadable, use_checks, unused, use_when}
use Rattle.woot.specs.Memory.{meaning, stored, replica_well_formed}
use Rattle.admission.specs.declared.Admitted.{Admitted}
use Rattle.admission.specs.Calls.{used_after, admitted_as, admitted_by}

module _ (b : Bool) (s : State) where
  pub use_unformed : b ≡ false → Refused Form ≡ (use_when b s).answer
  unfolding use_when use_checks decided unused
  use_unformed e = rw e

  pub use_unreachable : b ≡ true → loadable s.characters ≡ false → Refused Unreachable ≡ (use_when b s).answer
  unfolding use_when use_checks decided unused
  use_unreachable e f = rw (e, f)

  pub use_done : b ≡ true → loadable s.characters ≡ true → Done 0 0 ≡ (use_when b s).answer
  unfolding use_when use_checks decided unused
  use_done e f = rw (e, f)

-- ---- what comes back

module _ (r : Replica) where
  -- of a replica out of form
  pub admitted_unformed : replica_well_formed r ≡ false
      → record { answer = Refused Form; replica = stored (initial 0) } ≡ admitted_by r
  unfolding admitted_by admitted_as used_after
  admitted_unformed e = rw (← use_unformed (replica_well_formed r) (meaning r) e)

  -- of one in form that is not loadable
  pub admitted_unreachable : replica_well_formed r ≡ true → loadable (meaning r).characters ≡ false
      → record { answer = Refused Unreachable; replica = stored (initial 0) } ≡ admitted_by r
  unfolding admitted_by admitted_as used_after
  admitted_unreachable e f = rw (← use_unreachable (replica_well_formed r) (meaning r) e f)

  -- of one that is
  pub admitted_done : replica_well_formed r ≡ true → loadable (meaning r).characters ≡ true
      → record { answer = Done 0 0; replica = r } ≡ admitted_by r
  unfolding admitted_by admitted_as used_after
  admitted_done e f = rw (← use_done (replica_well_formed r) (meaning r) e f)

  -- of any answer
  pub admitted_so : {a : Answer} → a ≡ (admitted_by r).answer → record { answer = a; replica = used_after r a } ≡ admitted_by r
  unfolding admitted_by admitted_as
  admitted_so told = ap (admitted_as r) told

  pub admitted-by : {a b : Answer} → a ≡ (admitted_by r).answer → a ≡ b → record { answer = a; replica = used_after r b } ≡ admitted_by r
  admitted-by {a} told e = (λ j. record { answer = a; replica = used_after r (sym e j) }) ∙ admitted_so told
