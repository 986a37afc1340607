-- `waiting::none_repeated` meets its contract. The loop's invariant: none of the first j operations repeats an earlier one.
use mathlib.Core.Path.{◌≡◌}
use mathlib.Core.Bool.{true}
use Rattle.well_formed.specs.PendingForm.{fresh_at}
use Rattle.lists.specs.Lists.{throughout}
use Rattle.well_formed.proofs.waiting.none_repeated.Given as goal

abbrev pub invariant-loop-j : goal.invariant-loop-j
invariant-loop-j l = throughout (fresh_at l.own l.first l.values) l.j ≡ true
