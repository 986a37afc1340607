-- `ready::ready` meets its contract. The loop's invariant: what is found in the whole is found in what is left.
use mathlib.Core.Path.{◌≡◌}
use Rattle.pending.specs.Ready.{ready_in}
use Rattle.pending.proofs.Earliest.{ready_left}
use Rattle.pending.proofs.ready.ready.Given as goal

abbrev pub invariant-loop-i : goal.invariant-loop-i
invariant-loop-i l = ready_in l.ids l.first l.second ≡ ready_left l.ids l.first l.second l.i
