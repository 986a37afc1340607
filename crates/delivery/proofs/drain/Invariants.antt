-- `delivery::drain` meets its contract. The loop's invariant: the lists are sound, and draining them ends as draining the first ones does.
use Rattle.std.proofs.Common.{◌≡◌}
use Rattle.memory.specs.Lent.{FullDocument}
use Rattle.delivery.specs.Work.{Workable, work_in, finished_in}
use Rattle.delivery.proofs.drain.Given as goal

abbrev pub invariant-loop-j : goal.invariant-loop-j
invariant-loop-j l =
    FullDocument l.document × Workable (work_in l.document l.done)
    × (finished_in (work_in l.document l.done) ≡ finished_in (work_in l.initial.document l.initial.done))

abbrev pub decreases-loop-j : goal.decreases-loop-j
decreases-loop-j l = l.document.waiting
