-- `cycles::acyclic` meets its contract. The loop's invariant: so many rows are left, and every knot among them.
use mathlib.Core.Path.{◌≡◌}
use lib.ListN.{length}
use Rattle.neighbours.specs.Steps.{remaining}
use Rattle.neighbours.proofs.Passing.{AllSpared}
use Rattle.neighbours.proofs.cycles.acyclic.Given as goal

abbrev pub invariant-loop-left : goal.invariant-loop-left
invariant-loop-left l = (remaining l.flags l.n ≡ l.left) × AllSpared l.above l.below l.n l.flags × (length l.flags ≡ 1024)

abbrev pub decreases-loop-left : goal.decreases-loop-left
decreases-loop-left l = l.left
