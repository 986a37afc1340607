-- `pasting::read` stores one code point after another: what was read lies in the column, and with what is left it is all.
use Rattle.pasting.proofs.Reading.{Reading}
use Rattle.pasting.proofs.read.Given as goal

abbrev pub invariant-loop-i : goal.invariant-loop-i
invariant-loop-i l = Reading l.block l.typed l.at l.i
