-- `counts::has_toggle` meets its contract. The loop's invariant: what is asked of the whole is asked of what is
-- left.
use mathlib.Core.Path.{◌≡◌}
use Rattle.pending.specs.Counts.{has_toggle}
use Rattle.pending.proofs.Searches.{toggle_left}
use Rattle.pending.proofs.counts.has_toggle.Given as goal

abbrev pub invariant-loop-i : goal.invariant-loop-i
invariant-loop-i l = has_toggle l.key l.stamp l.own l.first l.values ≡ toggle_left l.key l.stamp l.own l.first l.values l.i
