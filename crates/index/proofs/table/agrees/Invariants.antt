-- `index::table::agrees` meets its contract. The loop's invariant: each of the first i keys is found at its own index.
use mathlib.Core.Path.{◌≡◌}
use mathlib.Core.Bool.{true}
use Rattle.lists.specs.Lists.{throughout}
use Rattle.woot.specs.Table.{found_at}
use Rattle.index.proofs.table.agrees.Given as goal

abbrev pub invariant-loop-i : goal.invariant-loop-i
invariant-loop-i l = throughout (found_at l.table l.keys) l.i ≡ true
