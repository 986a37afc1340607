-- A loop that tests index by index: what it has passed, where it stops, and what it has tested at the end.
use Prim.Native.Nat.{ℕ, zero, suc, ◌+◌, ◌≤◌, ◌<◌}
use native.Mathlib.Nat.{not-suc-le-zero}
use native.Mathlib.Numerals.{add-one}
use native.Mathlib.Omega.{arith}
use mathlib.Core.Path.{◌≡◌, refl, ap₂}
use mathlib.Core.Bool.{Bool, true, false, ◌&&◌, and-false}
use mathlib.Core.Logic.{⊎_elim}
use Rattle.lists.specs.Lists.{throughout}
use Rattle.lists.proofs.Tests.{and_intro, side, passes, clash}

module _ (p : ℕ → Bool) where
  pub throughout-more : (i : ℕ) → throughout p i ≡ true → p i ≡ true → throughout p (i + 1) ≡ true
  throughout-more i h e = rw (add-one i) (and_intro h e)

  pub throughout-fails : (n i : ℕ) → i < n → p i ≡ false → throughout p n ≡ false
  throughout-fails zero i h e = absurd (not-suc-le-zero h)
  throughout-fails (suc n) i h e = ⊎_elim (λ k. rw (last k) (and-false (throughout p n))) (λ k. rw (throughout-fails n i k e)) (side n i)
    where
      last : n ≤ i → p n ≡ false
      last k = let same : n ≡ i = omega arith in rw same e

  -- what is passed throughout is passed at each
  pub throughout-at : (n i : ℕ) → i < n → throughout p n ≡ true → p i ≡ true
  throughout-at n i h e = passes (p i) (λ f. clash e (throughout-fails n i h f))

  pub throughout-all : (n : ℕ) → ((i : ℕ) → i < n → p i ≡ true) → throughout p n ≡ true
  throughout-all zero f = refl
  throughout-all (suc n) f = and_intro (throughout-all n (λ i h. f i (omega arith))) (f n (omega arith))

-- tests that agree at each index
pub throughout_cong : (p q : ℕ → Bool) (n : ℕ) → ((i : ℕ) → i < n → p i ≡ q i) → throughout p n ≡ throughout q n
throughout_cong p q zero f = refl
throughout_cong p q (suc n) f = ap₂ (λ (a b : Bool). a && b) (throughout_cong p q n (λ i h. f i (omega arith))) (f n (omega arith))
