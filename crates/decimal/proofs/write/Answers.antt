-- `decimal::write` meets its contract: the part of the array that is handed on is the digits.
use mathlib.Core.Path.{ap, ◌∙◌}
use native.Mathlib.Omega.{arith}
use Rattle.output.specs.Output.{placed, past}
use Rattle.decimal.proofs.Alignment.{start-lt, length-is, part-is}
use Rattle.decimal.proofs.write.Goals as goal

pub slice_bounds-put_all-count : goal.slice_bounds-put_all-count
slice_bounds-put_all-count c = omega (arith, start-lt _ c.args.n (omega arith) c.align-start.ensures)

pub slice_bounds-put_all-start : goal.slice_bounds-put_all-start
slice_bounds-put_all-start c = omega (arith, start-lt _ c.args.n (omega arith) c.align-start.ensures)

pub slice_bounds-put_all-end : goal.slice_bounds-put_all-end
slice_bounds-put_all-end c = omega (arith, length-is _ c.args.n (omega arith) c.align-start.ensures)

pub returns : goal.returns
returns c =
    let n = c.args.n in
    let p = c.put_all.ensures in
    let e = part-is _ n (omega arith) c.align-start.ensures in
    (p.0 ∙ ap (past _ _) e, p.1 ∙ ap (placed _ _) e)
