-- `saved_lines::placed_in_range` meets its contract: the limit is one end of the range, and the test of the code the other.
use native.Mathlib.Omega.{arith}
use borrow.Author.Tests.{le-leb, lt-leb}
use Rattle.woot.specs.Limits.{capacity}
use Rattle.woot.specs.Ranges.{within}
use Rattle.bulk.specs.Archiving.{place_in_range}
use Rattle.saved_lines.proofs.placed_in_range.Goals as goal

pub returns-else-place-ge1 : goal.returns-else-place-ge1
unfolding place_in_range within
returns-else-place-ge1 c = rw (lt-leb 1 c.args.place (omega (arith, c.if-place-ge1.false)))

pub returns-then-place-ge1 : goal.returns-then-place-ge1
unfolding place_in_range within
returns-then-place-ge1 c =
    rw (le-leb 1 c.args.place (omega (arith, c.if-place-ge1.true)), le-leb c.args.place capacity c.requires) c.character_in_range.ensures
