-- `integration::outside` is its two tests, of places that are sought where they are wanted.
use Prim.Native.Nat.{ℕ, ◌≤◌, ◌<◌}
use mathlib.Core.Path.{◌≡◌}
use mathlib.Core.Bool.{false}
use borrow.Author.Tests.{le-leb, lt-leb}
use lib.Dec.{leb}
use Rattle.integration.specs.declared.Interval.{Interval}
use Rattle.integration.specs.Passes.{outside}
use Rattle.integration.proofs.outside.Goals as goal

module _ (a b : ℕ) (v : Interval) {p : ℕ} (e : p ≡ a) where
  inside : v.upper < p → false ≡ outside a b v
  unfolding outside
  inside h = rw (← e, lt-leb p v.upper h)

  below-only : {q : ℕ} → q ≡ b → p ≤ v.upper → leb v.lower q ≡ outside a b v
  unfolding outside
  below-only f h = rw (← e, ← f, le-leb p v.upper h)

pub returns-then-interval-above : goal.returns-then-interval-above
returns-then-interval-above c = inside _ _ _ c.place_near-above.ensures c.if-interval-above.true

pub returns : goal.returns
returns c =
    let above = c.place_near-above.ensures in
    below-only _ _ _ above c.place_near-below.ensures c.if-interval-above.false
