-- `pasting::read` stores one code point after another: what was read lies in the column, and with what is left it is all.
use Rattle.std.proofs.Common.{sym, ◌∙◌, arith}
use Rattle.pasting.proofs.Reading.{reading-begun, reading-again, reading-ended, reading-malformed, reading-done}
use Rattle.pasting.proofs.read.Goals as goal

pub loop-i-init : goal.loop-i-init
loop-i-init c = let p = c.requires in reading-begun p.readable p.unwritten p.typed_len

pub bounds-typed-i : goal.bounds-typed-i
bounds-typed-i c = omega (arith, c.loop-i.invariant.size)

pub loop-i-preserved : goal.loop-i-preserved
loop-i-preserved c =
    let e = sym c.in-CodePoint.is ∙ c.decode-head.ensures in
    reading-again c.loop-i.invariant e

pub returns-in-End : goal.returns-in-End
returns-in-End c = reading-ended c.loop-i.invariant (sym c.in-End.is ∙ c.decode-head.ensures)

pub returns-in-Malformed : goal.returns-in-Malformed
returns-in-Malformed c = reading-malformed c.loop-i.invariant (sym c.in-Malformed.is ∙ c.decode-head.ensures)

pub returns : goal.returns
returns c = reading-done c.loop-i.invariant (omega arith)
