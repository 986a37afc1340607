-- A loop that tests each number from 1 to n.
use Prim.Native.Nat.{ℕ, zero, suc, ◌+◌, ◌-◌, ◌≤◌, ◌<◌}
use native.Mathlib.Omega.{arith}
use mathlib.Core.Path.{◌≡◌}
use mathlib.Core.Bool.{Bool, true, false, and-false}
use mathlib.Core.Logic.{⊎_elim}
use Rattle.lists.specs.Lists.{every}
use Rattle.lists.proofs.Tests.{and_intro, side}
use Rattle.woot.specs.Form.{countdown}

module _ (p : ℕ → Bool) where
  pub numbers_more : (k : ℕ) → 0 < k → every p (countdown (k - 1)) ≡ true → p k ≡ true → every p (countdown (k + 1 - 1)) ≡ true
  numbers_more zero h e f = absurd (omega arith)
  numbers_more (suc k) h e f =
      let back : suc k - 1 ≡ k = omega arith in
      let here : suc k + 1 - 1 ≡ suc k = omega arith in
      rw here (and_intro f (rw back at e))

  pub numbers_fail : (n k : ℕ) → 0 < k → k ≤ n → p k ≡ false → every p (countdown n) ≡ false
  numbers_fail zero k h g e = absurd (omega arith)
  numbers_fail (suc n) k h g e =
      ⊎_elim last (λ l. rw (numbers_fail n k h (omega arith) e) (and-false (p (suc n)))) (side (suc n) k)
    where
      last : suc n ≤ k → every p (countdown (suc n)) ≡ false
      last l = let same : k ≡ suc n = omega arith in let f : p (suc n) ≡ false = rw same at e in rw f
