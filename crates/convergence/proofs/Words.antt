-- The bits of a word, from the lowest up: bit j + 1 of a number is bit j of its half, so each law goes by halving.
use Prim.Native.Nat.{ℕ, zero, suc, ◌+◌, ◌/◌, ◌%◌, ◌^◌, ◌≤◌, ◌<◌}
use native.Mathlib.Omega.{arith}
use native.Mathlib.Nat.{zero-add, div-one, div-div-eq-div-mul, pow-succ'}
use mathlib.Core.Path.{◌≡◌, ap, sym, ◌∙◌}
use mathlib.Core.Bool.{Bool, true, false, ◌||◌, or-false}
use mathlib.Core.Logic.{⊎_elim}
use lib.Count.{ones, ones_step}
use lib.Dec.{eqb, eqb-zero-suc, eqb-suc-zero, eqb-suc-suc}
use borrow.Author.Tests.{eqb-true, eqb-false, eq-eqb}
use Rattle.bulk.specs.Catching.{bit_of}
use Rattle.lists.proofs.Tests.{either}

pub bit_zero : (w : ℕ) → bit_of 0 w ≡ eqb (w % 2) 1
unfolding bit_of
bit_zero w = ap (λ (n : ℕ). eqb (n % 2) 1) (div-one w)

pub bit_suc : (j w : ℕ) → bit_of (suc j) w ≡ bit_of j (w / 2)
unfolding bit_of
bit_suc j w =
    ap (λ (n : ℕ). eqb (n % 2) 1)
    (ap (λ (m : ℕ). w / m) (pow-succ' 2 j) ∙ sym (div-div-eq-div-mul w 2 (2 ^ j)))

-- the lowest bit is the remainder
lowest_set : (w : ℕ) → bit_of 0 w ≡ true → w % 2 ≡ 1
lowest_set w h = eqb-true (w % 2) 1 (sym (bit_zero w) ∙ h)

lowest-clear : (w : ℕ) → bit_of 0 w ≡ false → w % 2 ≡ 0
lowest-clear w h = omega (arith, eqb-false (w % 2) 1 (sym (bit_zero w) ∙ h))

-- no bit of 0 is set
pub bit_of-zero : (j : ℕ) → bit_of j 0 ≡ false
bit_of-zero zero = bit_zero 0
bit_of-zero (suc j) = bit_suc j 0 ∙ bit_of-zero j

-- two words with the same bits are one
pub same_bits : (n w v : ℕ) → w < 2 ^ n → v < 2 ^ n → ((j : ℕ) → j < n → bit_of j w ≡ bit_of j v) → w ≡ v
same_bits zero w v h k f = omega arith
same_bits (suc n) w v h k f =
    let up = same_bits n (w / 2) (v / 2) (omega arith) (omega arith)
    (λ j l. sym (bit_suc j w) ∙ f (suc j) (omega arith) ∙ bit_suc j v) in
    ⊎_elim (λ e. omega (arith, up, lowest_set w e, lowest_set v (sym (f 0 (omega arith)) ∙ e)))
    (λ e. omega (arith, up, lowest-clear w e, lowest-clear v (sym (f 0 (omega arith)) ∙ e)))
    (either (bit_of 0 w))

-- a word that is not 0 has a bit that is set
pub some_bit : (n w : ℕ) → w < 2 ^ n → 1 ≤ w → (j : ℕ) × (j < n) × (bit_of j w ≡ true)
some_bit zero w h k = absurd (omega arith)
some_bit (suc n) w h k =
    ⊎_elim (λ e. (0, omega arith, e))
    (λ e. let r = some_bit n (w / 2) (omega arith) (omega (arith, lowest-clear w e)) in
    (suc r.0, omega (arith, r.1), bit_suc r.0 w ∙ r.2))
    (either (bit_of 0 w))

-- ---- a bit that was clear, set

-- the two halves of w with bit j + 1 set
added_half : (j w : ℕ) → (w + 2 ^ suc j) / 2 ≡ w / 2 + 2 ^ j
added_half j w = omega arith

added_lowest : (j w : ℕ) → (w + 2 ^ suc j) % 2 ≡ w % 2
added_lowest j w = omega arith

pub bit_added : (i j w : ℕ) → bit_of j w ≡ false → bit_of i (w + 2 ^ j) ≡ (eqb i j || bit_of i w)
bit_added zero zero w h =
    bit_zero (w + 1) ∙ eq-eqb ((w + 1) % 2) 1 (omega (arith, lowest-clear w h))
bit_added (suc i) zero w h =
    let e : (w + 1) / 2 ≡ w / 2 = omega (arith, lowest-clear w h) in
    bit_suc i (w + 1) ∙ ap (bit_of i) e ∙ sym (bit_suc i w) ∙ rw (eqb-suc-zero i)
bit_added zero (suc j) w h =
    bit_zero (w + 2 ^ suc j) ∙ ap (λ (n : ℕ). eqb n 1) (added_lowest j w) ∙ sym (bit_zero w) ∙ rw (eqb-zero-suc j)
bit_added (suc i) (suc j) w h =
    bit_suc i (w + 2 ^ suc j) ∙ ap (bit_of i) (added_half j w) ∙ bit_added i j (w / 2) (sym (bit_suc j w) ∙ h)
    ∙ rw (eqb-suc-suc i j, bit_suc i w)

-- the word of one bit
pub bit_alone : (i j : ℕ) → bit_of i (2 ^ j) ≡ eqb i j
bit_alone i j =
    ap (bit_of i) (sym (zero-add (2 ^ j))) ∙ bit_added i j 0 (bit_of-zero j)
    ∙ ap (λ (b : Bool). eqb i j || b) (bit_of-zero i) ∙ or-false (eqb i j)

-- it stays as short
pub added_below : (n j w : ℕ) → j < n → w < 2 ^ n → bit_of j w ≡ false → w + 2 ^ j < 2 ^ n
added_below zero j w l h e = absurd (omega arith)
added_below (suc n) zero w l h e = omega (arith, lowest-clear w e)
added_below (suc n) (suc j) w l h e =
    let r = added_below n j (w / 2) (omega arith) (omega arith) (sym (bit_suc j w) ∙ e) in
    omega (arith, r)

-- and has one more
pub ones_added : (j w : ℕ) → bit_of j w ≡ false → ones (w + 2 ^ j) ≡ suc (ones w)
ones_added zero w e =
    let h : (w + 1) / 2 ≡ w / 2 = omega (arith, lowest-clear w e) in
    omega (arith, ones_step (w + 1), ones_step w, ap ones h, lowest-clear w e)
ones_added (suc j) w e =
    omega (
      arith,
      ones_step (w + 2 ^ suc j),
      ones_step w,
      ap ones (added_half j w),
      added_lowest j w,
      ones_added j (w / 2) (sym (bit_suc j w) ∙ e),
    )
