-- `lines::read_numbers` meets its contract, by the invariant of `proofs/Reading.antt`.
use Rattle.lines.proofs.Reading.{Reading}
use Rattle.lines.proofs.read_numbers.Given as goal

abbrev pub invariant-loop-i : goal.invariant-loop-i
invariant-loop-i l = Reading l.line l.limits l.from l.values l.above l.at l.i
