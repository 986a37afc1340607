-- Whole numbers as the machine has them in 32 bits: what it reads back from the bits of one that fits is that one.
use Prim.Native.Nat.{ℕ, zero, suc, ◌+◌, ◌-◌, ◌^◌, ◌≤◌, ◌<◌, min}
use native.Mathlib.Omega.{arith}
use mathlib.Core.Path.{◌≡◌, refl, ap, sym, ◌∙◌, subst}
use mathlib.Core.Bool.{Bool, true, false, not, cond}
use lib.Dec.{T, ltb, ltb→lt}
use lib.IntN.{ℤ, pos, negsuc, sub_ℕ, ◌-ℤ◌, nat_abs}
use lib.Signed.{non_neg, lt_z, ◌≤ℤ◌, ◌<ℤ◌, lt_z_no}
use borrow.Author.Tests.{ltb-true}
use mir.Syntax.{w32, w64}
use mir.Val.{Fits, SFits, to_z, of_z}
use mir.ValLaws.{to_z_pos, to_z-of_z}
use Rattle.woot.specs.Cursor.{last_number, nearest, moved_by}
use Rattle.lists.proofs.Tests.{fails}

-- ---- differences

minus_is : (a b : ℕ) → pos a -ℤ pos b ≡ sub_ℕ a b
minus_is a zero =
    let none : ltb a 0 ≡ false = fails (ltb a 0) (λ e. omega (arith, ltb-true a 0 e)) in
    let whole : a + 0 ≡ a - 0 = omega arith in
    rw none (ap pos whole)
minus_is a (suc b) = refl

difference-fits : (a b : ℕ) → a ≤ 1024 → b ≤ 1024 → SFits w32 (sub_ℕ a b)
difference-fits a b h k = go (ltb a b)
  where
    go : (c : Bool) → SFits w32 (cond c (negsuc (b - suc a)) (pos (a - b)))
    go true = record { sfits = omega arith }
    go false = record { sfits = omega arith }

module _ (a b : ℕ) (h : a ≤ 1024) (k : b ≤ 1024) where
  read-minus : to_z w32 a -ℤ to_z w32 b ≡ sub_ℕ a b
  read-minus = ap (λ (z : ℤ). z -ℤ to_z w32 b) (to_z_pos w32 a (omega arith)) ∙ ap (λ (z : ℤ). pos a -ℤ z) (to_z_pos w32 b (omega arith)) ∙ minus_is a b

  pub minus-fits : SFits w32 (to_z w32 a -ℤ to_z w32 b)
  minus-fits = subst (SFits w32) (sym read-minus) (difference-fits a b h k)

  pub minus-read : to_z w32 (of_z w32 (to_z w32 a -ℤ to_z w32 b)) ≡ sub_ℕ a b
  minus-read = to_z-of_z w32 (to_z w32 a -ℤ to_z w32 b) minus-fits ∙ read-minus

-- ---- either side of zero

module _ (v : ℤ) (f : SFits w32 v) where
  pub read : to_z w32 (of_z w32 v) ≡ v
  read = to_z-of_z w32 v f

  -- the number of steps from zero up
  from_zero : pos 0 ≤ℤ v → (n : ℕ) × (v ≡ pos n) × (n < 2 ^ 31)
  from_zero h = go v f h
    where
      go : (z : ℤ) → SFits w32 z → pos 0 ≤ℤ z → (n : ℕ) × (z ≡ pos n) × (n < 2 ^ 31)
      go (pos n) g l = (n, refl, g.sfits)
      go (negsuc n) g l = absurd l.le

  pub up_fits : pos 0 ≤ℤ v → T (non_neg (to_z w32 (of_z w32 v))) × Fits w64 (nat_abs (to_z w32 (of_z w32 v)))
  up_fits h = let w = from_zero h in subst (λ (z : ℤ). T (non_neg z) × Fits w64 (nat_abs z)) (sym (read ∙ w.1)) (tt, record { fits = omega (arith, w.2) })

  pub up_is : pos 0 ≤ℤ v → pos (nat_abs (to_z w32 (of_z w32 v))) ≡ v
  up_is h = let w = from_zero h in ap (λ (z : ℤ). pos (nat_abs z)) (read ∙ w.1) ∙ sym w.1

  -- the number of steps from -1 down
  from-minus-one : v <ℤ pos 0 → (n : ℕ) × (negsuc 0 -ℤ v ≡ pos n) × (v ≡ negsuc n) × (n < 2 ^ 31)
  from-minus-one h = go v f h
    where
      minus : (n : ℕ) → sub_ℕ (suc n) 1 ≡ pos n
      minus n =
          let over : ltb (suc n) 1 ≡ false = fails (ltb (suc n) 1) (λ e. omega (arith, ltb-true (suc n) 1 e)) in
          let less : suc n - 1 ≡ n = omega arith in
          rw over (ap pos less)

      go : (z : ℤ) → SFits w32 z → z <ℤ pos 0 → (n : ℕ) × (negsuc 0 -ℤ z ≡ pos n) × (z ≡ negsuc n) × (n < 2 ^ 31)
      go (pos n) g l = absurd (omega (arith, ltb→lt n 0 l.lt))
      go (negsuc n) g l = (n, minus n, refl, g.sfits)

  minus-down : (h : v <ℤ pos 0) → negsuc 0 -ℤ to_z w32 (of_z w32 v) ≡ pos (from-minus-one h).0
  minus-down h = ap (λ (z : ℤ). negsuc 0 -ℤ z) read ∙ (from-minus-one h).1

  pub down_fits : v <ℤ pos 0 → SFits w32 (negsuc 0 -ℤ to_z w32 (of_z w32 v))
  down_fits h = subst (SFits w32) (sym (minus-down h)) (record { sfits = (from-minus-one h).3 })

  down-read : (h : v <ℤ pos 0) → to_z w32 (of_z w32 (negsuc 0 -ℤ to_z w32 (of_z w32 v))) ≡ pos (from-minus-one h).0
  down-read h = to_z-of_z w32 _ (down_fits h) ∙ minus-down h

  pub down-cast : v <ℤ pos 0 → T (non_neg (to_z w32 (of_z w32 (negsuc 0 -ℤ to_z w32 (of_z w32 v))))) × Fits w64 (nat_abs (to_z w32 (of_z w32 (negsuc 0 -ℤ to_z w32 (of_z w32 v)))))
  down-cast h = subst (λ (z : ℤ). T (non_neg z) × Fits w64 (nat_abs z)) (sym (down-read h)) (tt, record { fits = omega (arith, (from-minus-one h).3) })

  pub down_is : v <ℤ pos 0 → negsuc (nat_abs (to_z w32 (of_z w32 (negsuc 0 -ℤ to_z w32 (of_z w32 v))))) ≡ v
  down_is h = ap (λ (z : ℤ). negsuc (nat_abs z)) (down-read h) ∙ sym (from-minus-one h).2

-- a test that fails
pub not-below : {z : ℤ} → lt_z z (pos 0) ≡ false → pos 0 ≤ℤ z
not-below e = lt_z_no (subst (λ (b : Bool). T (not b)) (sym e) tt)

-- ---- a number moved

pub moved_up : (g n : ℕ) (z : ℤ) → pos n ≡ z → min (g + n) last_number ≡ moved_by g z
unfolding moved_by nearest
moved_up g n z e = ap (moved_by g) e

-- the shift is -1 for n = 0
pub moved_down : (g n : ℕ) (z : ℤ) → g ≤ last_number → negsuc n ≡ z → g - suc n ≡ moved_by g z
unfolding moved_by nearest
moved_down g n z few e = go (ltb g (suc n)) refl ∙ ap (moved_by g) e
  where
    go : (b : Bool) → ltb g (suc n) ≡ b → g - suc n ≡ nearest (cond b (negsuc (suc n - suc g)) (pos (g - suc n)))
    go true h = omega (arith, ltb-true g (suc n) h)
    go false h = omega arith
