-- `listing::reading::marks_zero` meets its contract: of index 0, the bit of weight 1.
use Prim.Native.Nat.{ℕ, ◌/◌, ◌%◌}
use native.Mathlib.Omega.{arith}
use mathlib.Core.Path.{◌≡◌, ap}
use lib.Dec.{eqb}
use borrow.Author.Tests.{eq-eqb, ne_eqb}
use Rattle.bulk.specs.Catching.{marks_zero, bit_of}
use Rattle.chunks.specs.Columns.{chunk_as}
use Rattle.listing.proofs.reading.marks_zero.Goals as goal

pub returns-then-head-eq0 : goal.returns-then-head-eq0
unfolding marks_zero chunk_as bit_of
returns-then-head-eq0 c =
    let w = c.args.word in
    let whole : w % 2 ≡ w / 1 % 2 = omega arith in
    rw (eq-eqb (c.args.head % 1024) 0 c.if-head-eq0.true) (ap (λ (n : ℕ). eqb n 1) whole)

pub returns-else-head-eq0 : goal.returns-else-head-eq0
unfolding marks_zero chunk_as
returns-else-head-eq0 c = rw (ne_eqb (c.args.head % 1024) 0 c.if-head-eq0.false)
