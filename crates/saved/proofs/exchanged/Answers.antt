-- `saved::exchanged` meets its contract: two numbers are exchanged, and any other is above them.
use native.Mathlib.Omega.{arith}
use mathlib.Core.Path.{◌≡◌, refl}
use Prim.Native.Nat.{ℕ, zero, suc}
use Rattle.saved.specs.declared.Version.TheVariants.{First}
use Rattle.saved.specs.Format.{toggle_field}
use Rattle.saved.proofs.exchanged.Goals as goal

neither : (n : ℕ) → (n ≡ 0 → ⊥) → (n ≡ 1 → ⊥) → n ≡ toggle_field First n
unfolding toggle_field
neither zero h k = absurd (h refl)
neither (suc zero) h k = absurd (k refl)
neither (suc (suc n)) h k = refl

pub returns-in-0 : goal.returns-in-0
unfolding toggle_field
returns-in-0 c = rw c.in-0.is

pub returns-in-1 : goal.returns-in-1
unfolding toggle_field
returns-in-1 c = rw c.in-1.is

pub returns-in_default : goal.returns-in_default
returns-in_default c = neither _ (λ e. omega (arith, e)) (λ e. omega (arith, e))
