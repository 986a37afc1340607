-- `decoding::count` meets its contract: what is read from the offset on, with the characters before it, is the whole text.
use mathlib.Core.Path.{sym, ◌∙◌}
use native.Mathlib.Omega.{arith}
use Rattle.decoding.proofs.Offsets.{next-further, next-within, counting-begun, counting-again, counting-malformed, counting-ended, counting-done}
use Rattle.decoding.proofs.count.Goals as goal

pub overflow_add-count : goal.overflow_add-count
overflow_add-count c = omega (arith, c.loop-at.invariant.few, c.loop-at.invariant.within)

pub loop-at-smaller : goal.loop-at-smaller
loop-at-smaller c =
    let i = c.loop-at.invariant in
    let e = sym c.in-CodePoint.is ∙ c.decode.ensures in
    omega (arith, next-further _ _ _ _ e, next-within _ _ _ _ e i.within)

pub loop-at-preserved : goal.loop-at-preserved
loop-at-preserved c =
    let e = sym c.in-CodePoint.is ∙ c.decode.ensures in
    counting-again _ _ _ c.loop-at.invariant _ _ e

pub returns-in-End : goal.returns-in-End
returns-in-End c = counting-ended _ _ _ c.loop-at.invariant (sym c.in-End.is ∙ c.decode.ensures)

pub returns-in-Malformed : goal.returns-in-Malformed
returns-in-Malformed c =
    counting-malformed _ _ _ c.loop-at.invariant (sym c.in-Malformed.is ∙ c.decode.ensures)

pub returns : goal.returns
returns c = counting-done _ _ _ c.loop-at.invariant (omega arith)

pub loop-at-init : goal.loop-at-init
loop-at-init c = counting-begun _
