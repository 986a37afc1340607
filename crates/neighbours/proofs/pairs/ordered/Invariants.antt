-- `pairs::ordered` meets its contract. The loop's invariant: no row above row k is out of order with one above it.
use mathlib.Core.Path.{◌≡◌}
use mathlib.Core.Bool.{true}
use Rattle.lists.specs.Lists.{throughout}
use Rattle.neighbours.specs.Steps.{row_at}
use Rattle.neighbours.proofs.pairs.ordered.Given as goal

abbrev pub invariant-loop-k : goal.invariant-loop-k
invariant-loop-k l = throughout (row_at l.ids l.above l.below) l.k ≡ true
