-- `lines::rest` meets its contract: what follows the bytes before the line feed and the line feed itself, if it is there.
use Rattle.lines.specs.Lines.{line_feed}
use Rattle.lines.proofs.Bytes.{found-le}
use Rattle.lines.proofs.Bytes.{rest-none, rest_some}
use Rattle.lines.proofs.rest.Goals as goal

pub returns-then-end-s : goal.returns-then-end-s
returns-then-end-s c = rest_some _ _ c.find-end.ensures c.if-end-s.true

pub slice_bounds-result-count-2 : goal.slice_bounds-result-count-2
slice_bounds-result-count-2 c = found-le line_feed c.args.s.now _ c.find-end.ensures

pub slice_bounds-result-start-2 : goal.slice_bounds-result-start-2
slice_bounds-result-start-2 c = found-le line_feed c.args.s.now _ c.find-end.ensures

pub returns : goal.returns
returns c = rest-none _ _ c.find-end.ensures c.if-end-s.false
