-- `loading::reading::skip` meets its contract. The loop's invariant: i lines are taken off.
use mathlib.Core.Path.{◌≡◌, refl, ap, ◌∙◌}
use Prim.Native.Nat.{zero-le}
use native.Mathlib.Omega.{arith}
use Rattle.lines.specs.Lines.{lines, closed}
use Rattle.lines.proofs.Lines.{skip-lines, skip_closed}
use Rattle.loading.proofs.reading.skip.Goals as goal

pub loop-i-init : goal.loop-i-init
loop-i-init c = (zero-le, c.requires, refl, refl)

pub loop-i-preserved : goal.loop-i-preserved
loop-i-preserved c =
    let l = c.loop-i in
    let r = c.rest-next.ensures in (
      omega arith,
      l.invariant.1,
      ap lines r ∙ skip-lines c.args.bytes.now l.left.now l.i l.invariant.2,
      ap closed r ∙ skip_closed c.args.bytes.now l.left.now l.i l.invariant.2 (omega arith) ∙ l.invariant.3,
    )

pub returns : goal.returns
returns c =
    let l = c.loop-i in
    let all : l.i ≡ c.args.n = omega arith in
    record {
      result_value = rw all at l.invariant.2;
      result_value_2 = l.invariant.3;
    }
