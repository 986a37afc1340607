-- `lines::read_ending` meets its contract, by the invariant of `proofs/Reading.antt` on the first line.
use Prim.Native.Nat.{◌≤◌}
use lib.ListN.{length}
use Rattle.lines.specs.Lines.{first_line}
use Rattle.lines.proofs.Reading.{Reading}
use Rattle.lines.proofs.read_ending.Given as goal

abbrev pub invariant-loop-i : goal.invariant-loop-i
invariant-loop-i l = Reading (first_line l.s) l.limits 0 l.values l.over l.at l.i × (l.at ≤ length (first_line l.s))
