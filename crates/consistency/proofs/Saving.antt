-- Saving what means a state writes the bytes of that state at the front of the slice, or refuses.
use Rattle.std.proofs.Common.{Ok, Err}
use Prim.Native.Nat.{ℕ, ◌≤◌, ◌<◌}
use mathlib.Core.Path.{◌≡◌, refl, sym, ap, ◌∙◌}
use mathlib.Core.Bool.{Bool, true, false}
use mathlib.Core.Logic.{◌⊎◌, inl, inr}
use mathlib.Core.List.{List, []}
use lib.ListN.{length, take}
use Rattle.answers.specs.declared.Refusal.{Refusal}
use Rattle.answers.specs.declared.Refusal.TheVariants.{Output}
use Rattle.woot.specs.State.{State}
use Rattle.woot.specs.declared.Replica.{Replica}
use Rattle.woot.specs.Form.{well_formed}
use Rattle.lists.proofs.Tests.{side}
use Rattle.convergence.proofs.Writing.{too_short, has_room_lem}
use Rattle.saved.specs.Format.{saved_bytes}
use Rattle.saved.specs.Calls.{bytes_of, saved, saved_out}
use Rattle.saved.proofs.Refusals.{unformed, formed}
use Rattle.c_calls.proofs.Fitting.{front}
use Rattle.consistency.proofs.Holding.{Means}

-- what saving comes to
pub data Saving (r : Replica) (s : State) (out : List ℕ) : Type 0 where
  fits : {n : ℕ} → well_formed s ≡ true → saved r out ≡ Ok n →
      take n (saved_out r out) ≡ saved_bytes s → Saving r s out
  refuses : {q : Refusal} → saved r out ≡ Err q → Saving r s out

pub saving : (r : Replica) (s : State) → Means r s → (out : List ℕ) → Saving r s out
saving r s m out = go (well_formed s) refl (side (length (bytes_of r)) (length out))
  where
    go : (f : Bool) → well_formed s ≡ f → (length (bytes_of r) ≤ length out) ⊎ (length out < length (bytes_of r)) → Saving r s out
    go false e h = refuses (sym (unformed r out (m.form ∙ e)).0)
    go true e (inr low) = refuses {q = Output} (sym (formed r out (m.form ∙ e)).0 ∙ (too_short [] (bytes_of r) out refl low).0)
    go true e (inl room) =
        let bytes : List ℕ = bytes_of r in
        let d = formed r out (m.form ∙ e) in
        let t = has_room_lem [] bytes out refl room in
        fits {n = length bytes} e (sym d.0 ∙ t.0)
        (ap (take (length bytes)) (sym d.1 ∙ t.1) ∙ front out bytes room ∙ ap saved_bytes m.meant)
