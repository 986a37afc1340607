-- `gathering::gather` meets its contract, by the invariant of `proofs/Gathering.antt`.
use mathlib.Core.Path.{ap, ◌∙◌}
use native.Mathlib.Omega.{arith}
use lib.ListN.{length}
use borrow.Author.Rules.{rules}
use borrow.Author.Tests.{not-true, not-false}
use Rattle.lists.proofs.Tests.{clash}
use Rattle.lines.proofs.Lines.{rest_shorter}
use Rattle.gathering.proofs.Gathering.{GatherLoop, gather_begun, gather_few, gather_end, gather_held}
use Rattle.gathering.proofs.Gathering.{gather_none, gather_more, no-range-told}
use Rattle.gathering.proofs.gather.Given as goal

abbrev pub invariant-loop-left : goal.invariant-loop-left
invariant-loop-left l = GatherLoop l.bytes l.inserts l.toggles l.at l.left

abbrev pub decreases-loop-left : goal.decreases-loop-left
decreases-loop-left l = length l.left
