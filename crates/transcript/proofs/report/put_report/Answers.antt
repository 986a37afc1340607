-- `transcript::report::put_report` meets its contract: the part of the array that is lent is the head of the line.
use mathlib.Core.Path.{refl, sym, ◌∙◌}
use mathlib.Core.List.{◌∷◌, ◌++◌}
use borrow.Author.Rules.{rules}
use lib.Seq.{length-take-le}
use Rattle.decimal.specs.Numeral.{digits}
use Rattle.lines.specs.Fields.{tab}
use Rattle.lines.proofs.Sizes.{line_some}
use Rattle.codec.proofs.Answers.{put-after, offset_fitted}
use Rattle.transcript.proofs.Heads.{Front, head-put}
use Rattle.transcript.proofs.report.put_report.Goals.{After-put_all-end}
use Rattle.transcript.proofs.report.put_report.Goals as goal

-- the head is in the array
head : (c : After-put_all-end) → Front (digits c.args.number ++ tab ∷ c.args.word.now) c.put_all-end.new.out c.put_all-end.result
head c =
    let p = c.write-end.ensures in
    let q = c.put-end.ensures in
    let r = c.put_all-end.ensures in
    head-put c.args.number c.args.word.now _ refl c.ranges.number.fits c.requires p.0 p.1 q.0 q.1 r.0 r.1

pub slice_bounds-head-end : goal.slice_bounds-head-end
slice_bounds-head-end c = (head (goal.at.slice_bounds-head-end c).After-put_all-end).fits

pub slice_bounds-put_line-end : goal.slice_bounds-put_line-end
slice_bounds-put_line-end c =
    sym (length-take-le _ _ (head (goal.at.slice_bounds-put_line-end c).After-put_all-end).fits)

pub returns : goal.returns
returns c =
    let p = c.put_line.ensures in
    record {
      value = rw (← (head (goal.at.returns c).After-put_all-end).bytes) (c.fitted.ensures ∙ offset_fitted _ _ (line_some _ _) p.value);
      out_after = rw (← (head (goal.at.returns c).After-put_all-end).bytes) (put-after _ _ p.out_after);
    }
