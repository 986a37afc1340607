-- `visible::nth` meets its contract. The loop's invariant: what is left of the count, sought among the visible
-- ones that are left, gives what the whole search gives.
use mathlib.Core.Path.{◌≡◌}
use Rattle.visible.specs.Shown.{shown}
use Rattle.visible.proofs.Shown.{nth_left}
use Rattle.visible.proofs.nth.Given as goal

abbrev pub invariant-loop-i : goal.invariant-loop-i
invariant-loop-i l = nth_left shown l.toggles l.n l.i l.rest ≡ nth_left shown l.toggles l.n 0 l.k
