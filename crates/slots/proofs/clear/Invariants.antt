-- `slots::clear` meets its contract. The loop's invariant: the slots before the index are blank, and the others as they were.
use Rattle.std.proofs.Common.{◌≡◌, ◌++◌, drop, replicate}
use Rattle.slots.proofs.clear.Given as goal

abbrev pub invariant-loop-slot : goal.invariant-loop-slot
invariant-loop-slot g l = l.slot-items ≡ replicate l.slot-index l.blank ++ drop l.slot-index l.initial.slot-items
