-- `lines::writing::put_line` meets its contract, by the invariant of `proofs/Rooms.antt`.
use mathlib.Core.Path.{sym, ap, ◌∙◌}
use Prim.Native.Nat.{◌+◌, ◌<◌, ◌≤◌}
use native.Mathlib.Omega.{arith}
use lib.ListN.{length}
use Rattle.output.proofs.Laws.{placed-short, past-short, length-placed}
use Rattle.lines.specs.Fields.{columns, line_of}
use Rattle.lines.proofs.Sizes.{line_length}
use Rattle.lines.proofs.Rooms.{until_tells, short_tells, begun, more, last, line_put}
use Rattle.lines.proofs.writing.put_line.Goals.{In_default}
use Rattle.lines.proofs.writing.put_line.Goals as goal

pub returns-in-None : goal.returns-in-None
returns-in-None c =
    let a = c.args in
    let line = line_of a.head.now a.numbers.now in
    let low : length a.out.now < a.at + length line = omega (arith, short_tells _ _ line c.measure-space.ensures c.in-None.is) in
    record {
      value = sym (past-short a.out.now a.at line low);
      out_after = sym (placed-short a.out.now a.at line low);
    }

-- there is room for the line
fits : (c : In_default)
    → c.args.at + (length c.args.head.now + (length (columns c.args.numbers.now) + 1)) ≤ length c.args.out.now
fits c =
    let a = c.args in
    let line = line_of a.head.now a.numbers.now in
    omega (arith, (until_tells _ _ line c.measure-space.ensures c.in_default.is).1, line_length a.head.now a.numbers.now)

pub loop-number-init : goal.loop-number-init
loop-number-init c =
    let a = c.args in
    let p = c.put_all-end.ensures in
    begun a.head.now a.numbers.now a.out.now a.at (fits (goal.at.loop-number-init c).In_default) p.0 p.1

pub loop-number-preserved : goal.loop-number-preserved
loop-number-preserved c =
    let p = c.put-end.ensures in
    let q = c.write-end.ensures in
    more c.loop-number.invariant c.loop-number-test.true p.0 p.1 q.0 q.1

pub returns : goal.returns
unfolding line_of
returns c =
    let a = c.args in
    let p = c.put_all-end.ensures in
    let q = c.put.ensures in
    let all = line_put a.head.now a.numbers.now a.out.now a.at (fits (goal.at.returns c).In_default) p.0 p.1
    (last c.loop-number.invariant c.loop-number-test.false q.0 q.1) in
    record {
      value = all.0;
      out_after = all.1;
    }

pub shape_of-out : goal.shape_of-out
shape_of-out c = ap length (returns c).out_after ∙ length-placed _ _ _
