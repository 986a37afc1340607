-- `pairs::row_ordered` meets its contract. The loop's invariant: no row above row j is out of order with row k.
use mathlib.Core.Path.{◌≡◌}
use mathlib.Core.Bool.{true}
use Rattle.lists.specs.Lists.{throughout}
use Rattle.neighbours.specs.Steps.{pair_at}
use Rattle.neighbours.proofs.pairs.row_ordered.Given as goal

abbrev pub invariant-loop-j : goal.invariant-loop-j
invariant-loop-j l = throughout (pair_at l.ids l.below l.above l.k) l.j ≡ true
