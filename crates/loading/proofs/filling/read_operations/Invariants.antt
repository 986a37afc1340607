-- `loading::filling::read_operations` meets its contract, by the invariant of `proofs/Collecting.antt`.
use Rattle.loading.proofs.Collecting.{BackLoop}
use lib.ListN.{length}
use Rattle.loading.proofs.filling.read_operations.Given as goal

abbrev pub invariant-loop-left : goal.invariant-loop-left
invariant-loop-left l = BackLoop l.version l.bytes l.pending l.count l.in_range l.left

abbrev pub decreases-loop-left : goal.decreases-loop-left
decreases-loop-left l = length l.left
