-- The promises about loading for use on replicas in memory: the answer tells which of the two tests came out how.
use Prim.Native.Nat.{ℕ}
use native.Mathlib.Omega.{arith}
use mathlib.Core.Path.{◌≡◌, sym, ap, ◌∙◌}
use mathlib.Core.Bool.{Bool, true, false}
use mathlib.Core.Logic.{◌⊎◌, inl, inr}
use Rattle.lists.proofs.Tests.{either}
use Rattle.answers.specs.declared.Refusal.TheVariants.{Form, Unreachable}
use Rattle.answers.specs.declared.Answer.{Answer}
use Rattle.answers.specs.declared.Answer.TheVariants.{Done, Refused}
use Rattle.woot.specs.declared.Replica.{Replica}
use Rattle.answers.specs.Answers.{reply}
use Rattle.bulk.specs.Loading.{loadable}
use Rattle.woot.specs.Memory.{meaning, replica_well_formed}
use Rattle.convergence.proofs.Replies.{never-refused}
use Rattle.admission.specs.declared.Admitted.{Admitted}
use Rattle.admission.specs.Calls.{admitted_by}
use Rattle.admission.specs.Theorems.{AdmittedSame, AdmittedExactly, AdmittedFormed}
use Rattle.admission.proofs.Answering.{admitted_unformed, admitted_unreachable, admitted_done}

-- 3 is not 16
apart : Refused Form ≡ Refused Unreachable → ⊥
unfolding reply
apart e = let f : ◌≡◌ {A = ℕ} 3 16 = ap (λ (a : Answer). (reply a).refusal) e in omega (arith, f)

module _ (r : Replica) where
  unformed : replica_well_formed r ≡ false → (admitted_by r).answer ≡ Refused Form
  unformed e = sym (ap (λ (a : Admitted). a.answer) (admitted_unformed r e))

  unreachable : replica_well_formed r ≡ true → loadable (meaning r).characters ≡ false
      → (admitted_by r).answer ≡ Refused Unreachable
  unreachable e f = sym (ap (λ (a : Admitted). a.answer) (admitted_unreachable r e f))

  done : replica_well_formed r ≡ true → loadable (meaning r).characters ≡ true → (admitted_by r).answer ≡ Done 0 0
  done e f = sym (ap (λ (a : Admitted). a.answer) (admitted_done r e f))

  -- how the tests came out
  abbrev Formed : Type 0
  Formed = (replica_well_formed r ≡ true) ⊎ (replica_well_formed r ≡ false)

  abbrev Loadable : Type 0
  Loadable = (loadable (meaning r).characters ≡ true) ⊎ (loadable (meaning r).characters ≡ false)

  same : Formed → Loadable → (admitted_by r).answer ≡ Done 0 0
      → (replica_well_formed r ≡ true) × (loadable (meaning r).characters ≡ true)
      × (admitted_by r ≡ record { answer = Done 0 0; replica = r })
  same (inr e) f h = absurd (never-refused Form (sym h ∙ unformed e))
  same (inl e) (inr f) h = absurd (never-refused Unreachable (sym h ∙ unreachable e f))
  same (inl e) (inl f) h = (e, f, sym (admitted_done r e f))

  exactly : Formed → Loadable → (admitted_by r).answer ≡ Refused Unreachable
      → (replica_well_formed r ≡ true) × (loadable (meaning r).characters ≡ false)
  exactly (inr e) f h = absurd (apart (sym (unformed e) ∙ h))
  exactly (inl e) (inr f) h = (e, f)
  exactly (inl e) (inl f) h = absurd (never-refused Unreachable (sym (done e f) ∙ h))

  formed : Formed → Loadable → (admitted_by r).answer ≡ Refused Form → replica_well_formed r ≡ false
  formed (inr e) f h = e
  formed (inl e) (inr f) h = absurd (apart (sym h ∙ unreachable e f))
  formed (inl e) (inl f) h = absurd (never-refused Form (sym (done e f) ∙ h))

pub admitted_same : AdmittedSame
admitted_same r = (
  same r (either (replica_well_formed r)) (either (loadable (meaning r).characters)),
  λ w. ap (λ (a : Admitted). a.answer) w.2,
)

pub admitted_exactly : AdmittedExactly
admitted_exactly r = (
  exactly r (either (replica_well_formed r)) (either (loadable (meaning r).characters)),
  λ w. unreachable r w.0 w.1,
)

pub admitted_formed : AdmittedFormed
admitted_formed r = (
  formed r (either (replica_well_formed r)) (either (loadable (meaning r).characters)),
  λ e. unformed r e,
)
