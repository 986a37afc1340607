-- What `admission::admit` returned by value is saved, or its answer told alone.
use Prim.Native.Nat.{ℕ}
use mathlib.Core.Path.{◌≡◌, sym, ap, ◌∙◌}
use mathlib.Core.Bool.{true, false}
use mathlib.Core.List.{List, []}
use Rattle.woot.specs.declared.Replica.{Replica}
use Rattle.answers.specs.Answers.{changes}
use Rattle.woot.specs.Memory.{replica_well_formed}
use Rattle.admission.specs.declared.Admitted.{Admitted}
use Rattle.admission.specs.Calls.{admitted_by}
use Rattle.saved.specs.Calls.{bytes_of}
use Rattle.effects.specs.Effects.{quiet, writing}
use Rattle.c_calls.specs.Steps.{replica_used}
use Rattle.c_calls.proofs.Loaded.{admitted_formed}

module _ (r : Replica) (x : Admitted) (e : x ≡ admitted_by r) where
  told : x.answer ≡ (admitted_by r).answer
  told = ap (λ (a : Admitted). a.answer) e

  held : x.replica ≡ (admitted_by r).replica
  held = ap (λ (a : Admitted). a.replica) e

  pub use_savable : changes x.answer ≡ true → replica_well_formed x.replica ≡ true
  use_savable h = ap replica_well_formed held ∙ admitted_formed r (ap changes (sym told) ∙ h)

  pub use_refused : (out : List ℕ) → changes x.answer ≡ false → replica_used r out ≡ quiet out [] x.answer
  unfolding replica_used
  use_refused out h = rw (← told, h)

  pub use_saved : (out : List ℕ) → changes x.answer ≡ true →
      replica_used r out ≡ writing x.answer (bytes_of x.replica) out
  unfolding replica_used
  use_saved out h = rw (← told, ← held, h)
