-- `decimal::scan` meets its contract, by the invariant of `proofs/Scanning.antt`.
use Rattle.std.proofs.Common.{◌-◌, length}
use Rattle.decimal.proofs.Scanning.{Scanning}
use Rattle.decimal.proofs.scan.Given as goal

abbrev pub invariant-loop-digit : goal.invariant-loop-digit
invariant-loop-digit l = Scanning l.s l.from l.limit l.value l.above l.next

abbrev pub decreases-loop-digit : goal.decreases-loop-digit
decreases-loop-digit l = length l.s - l.next
