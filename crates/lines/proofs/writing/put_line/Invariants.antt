-- `lines::writing::put_line` meets its contract, by the invariant of `proofs/Rooms.antt`.
use Rattle.lines.proofs.Rooms.{Putting}
use Rattle.lines.proofs.writing.put_line.Given as goal

abbrev pub invariant-loop-number : goal.invariant-loop-number
invariant-loop-number l = Putting l.numbers l.initial.out l.initial.end l.out l.end l.number-index
