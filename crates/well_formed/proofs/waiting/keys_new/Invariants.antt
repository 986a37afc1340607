-- `waiting::keys_new` meets its contract. The loop's invariant: the first j keys are new.
use mathlib.Core.Path.{◌≡◌}
use mathlib.Core.Bool.{true}
use Rattle.well_formed.specs.PendingForm.{free_at}
use Rattle.lists.specs.Lists.{throughout}
use Rattle.well_formed.proofs.waiting.keys_new.Given as goal

abbrev pub invariant-loop-j : goal.invariant-loop-j
invariant-loop-j l = throughout (free_at l.ids l.own) l.j ≡ true
