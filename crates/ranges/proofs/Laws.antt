-- The tests of a range at a number that is under it, in it or above it, and at one that is known not to be above.
use Rattle.std.proofs.Common.{◌≡◌, refl, Bool, true, false, ◌&&◌, ℕ, ◌≤◌, ◌<◌}
use Prim.Native.Nat.{zero-le}
use lib.Dec.{leb}
use borrow.Author.Tests.{le-leb, lt-leb}
use Rattle.woot.specs.Ranges.{within}

pub and_true : (b : Bool) → b && true ≡ b
and_true true = refl
and_true false = refl

pub within-under : (low high n : ℕ) → n < low → within low high n ≡ false
unfolding within
within-under low high n h = rw (lt-leb low n h)

-- a number that is not above the range is in it unless it is under
pub within-below : (low high n : ℕ) → n ≤ high → within low high n ≡ leb low n
unfolding within
within-below low high n h = rw (le-leb n high h) (and_true (leb low n))

-- every number that is not above a range that begins with 0
pub within_first : (high n : ℕ) → n ≤ high → within 0 high n ≡ true
unfolding within
within_first high n h = rw (le-leb 0 n zero-le, le-leb n high h)

pub within-above : (low high n : ℕ) → high < n → within low high n ≡ false
unfolding within
within-above low high n h = rw (lt-leb n high h) (and-false (leb low n))
  where
    and-false : (b : Bool) → b && false ≡ false
    and-false true = refl
    and-false false = refl
