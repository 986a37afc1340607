-- What `width` and `write` take out of the array in which a number's digits are aligned.
use mathlib.Core.Path.{◌≡◌, ap}
use Prim.Native.Nat.{ℕ, ◌-◌, ◌^◌, ◌<◌}
use native.Mathlib.Omega.{arith}
use lib.ListN.{length, take, drop, replicate, length-replicate, length-append}
use lib.Seq.{drop_at, take_all}
use Rattle.decimal.specs.declared.Aligned.{Aligned}
use Rattle.decimal.specs.Numeral.{digits}
use Rattle.decimal.specs.Answers.{aligned}
use Rattle.decimal.proofs.Laws.{one-le-width, width-le}

module _ (a : Aligned) (n : ℕ) (h : n < 2 ^ 64) (e : a ≡ aligned n) where
  start_is : a.start ≡ 20 - length (digits n)
  unfolding aligned
  start_is = ap (λ (x : Aligned). x.start) e

  pub start-lt : a.start < 20
  start-lt = omega (arith, start_is, one-le-width n)

  pub width_is : 20 - a.start ≡ length (digits n)
  width_is = omega (arith, start_is, width-le n h)

  pub length-is : length a.bytes ≡ 20
  unfolding aligned
  length-is = rw (e, length-append, length-replicate) (omega (arith, width-le n h))

  pub part-is : take (20 - a.start) (drop a.start a.bytes) ≡ digits n
  unfolding aligned
  part-is =
      let gap = 20 - length (digits n) in
      rw (e, drop_at (replicate gap 0) (digits n) gap (length-replicate gap 0))
      (take_all (20 - gap) (digits n) (omega (arith, width-le n h)))
