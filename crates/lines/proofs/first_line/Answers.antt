-- `lines::first_line` meets its contract: the bytes before the line feed, where there is one.
use mathlib.Core.Path.{sym}
use native.Mathlib.Omega.{arith}
use lib.Seq.{length-take-le}
use Rattle.lines.proofs.Bytes.{front-none, front-some}
use Rattle.lines.proofs.first_line.Goals as goal

pub slice_bounds-result-end : goal.slice_bounds-result-end
slice_bounds-result-end c = sym (length-take-le _ _ (omega arith))

pub returns-then-end-s : goal.returns-then-end-s
returns-then-end-s c = front-some _ _ c.find-end.ensures c.if-end-s.true

pub returns : goal.returns
returns c = front-none _ _ c.find-end.ensures c.if-end-s.false
