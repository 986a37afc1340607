-- `numbers::operations_in_range` meets its contract: the flag says of the first j operations whether each passes.
use mathlib.Core.Path.{◌≡◌}
use Rattle.lists.specs.Lists.{throughout}
use Rattle.woot.specs.Ranges.{in_range}
use Rattle.woot.specs.Memory.{operation_at}
use Rattle.well_formed.proofs.numbers.operations_in_range.Given as goal

abbrev pub invariant-loop-j : goal.invariant-loop-j
invariant-loop-j l = l.kept ≡ throughout (λ i. in_range (operation_at l.own l.first l.second l.values i)) l.j
