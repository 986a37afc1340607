-- `loading::filling::read_rows_at` meets its contract, by the invariant of `proofs/Collecting.antt`.
use Rattle.loading.proofs.Collecting.{FrontLoop}
use lib.ListN.{length}
use Rattle.loading.proofs.filling.read_rows_at.Given as goal

abbrev pub invariant-loop-row : goal.invariant-loop-row
invariant-loop-row l = FrontLoop l.rows l.bytes (length l.initial.starts) l.starts (length l.initial.places) l.places l.characters l.toggles l.count l.in_range l.left

abbrev pub decreases-loop-row : goal.decreases-loop-row
decreases-loop-row l = length l.left
