-- `order::all_between` meets its contract: the first i characters stand between their neighbours.
use mathlib.Core.Path.{◌≡◌}
use mathlib.Core.Bool.{true}
use Rattle.lists.specs.Lists.{throughout}
use Rattle.index.specs.Keys.{place_in}
use Rattle.well_formed.specs.Order.{between_at}
use Rattle.well_formed.proofs.order.all_between.Given as goal

abbrev pub invariant-loop-i : goal.invariant-loop-i
invariant-loop-i l = (l.end ≡ place_in l.ids 1) × (throughout (between_at l.ids l.previous l.next) l.i ≡ true)
