-- `decimal::scan` meets its contract, by the invariant of `proofs/Scanning.antt`.
use Rattle.std.proofs.Common.{sym, ◌∙◌, arith}
use borrow.Author.Tests.{ltb-false, not-false}
use Rattle.decimal.proofs.Scanning.{scan-begun, scan-more, scan-above, scan-done}
use Rattle.decimal.proofs.scan.Goals.{then-value-lt-ROOMY, else-value-lt-ROOMY, then-not-exceeds, else-not-exceeds}
use Rattle.decimal.proofs.scan.Goals as goal

pub loop-digit-init : goal.loop-digit-init
loop-digit-init c = scan-begun _ _ _

pub loop-digit-preserved : goal.loop-digit-preserved
loop-digit-preserved c =
    let l = c.loop-digit in
    elim c.if-not-exceeds.branch [
      | then-not-exceeds w ↦ rw (w.value-is, w.above-is) (scan-more l.invariant c.in-Some.ensures)
      | else-not-exceeds w ↦
          rw (w.value-is, w.above-is)
          (scan-above l.invariant c.in-Some.ensures
          (elim c.if-value-lt-ROOMY.branch [
            | then-value-lt-ROOMY v ↦ absurd (omega (arith, ltb-false _ _ (sym v.value-is ∙ w.if-not-exceeds.false)))
            | else-value-lt-ROOMY v ↦ sym v.exceeds.ensures ∙ not-false _ (sym v.value-is ∙ w.if-not-exceeds.false)
          ]))
    ]

pub returns : goal.returns
returns c = scan-done c.loop-digit.invariant c.in_default.ensures c.field_of-field.ensures
