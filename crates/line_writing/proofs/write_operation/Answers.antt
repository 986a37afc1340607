-- `line_writing::write_operation` meets its contract: an offset that did not move is a line that had no room.
use mathlib.Core.Path.{sym, ◌∙◌}
use borrow.Author.Rules.{rules}
use borrow.Author.Tests.{not-true, not-false}
use Rattle.codec.proofs.Sizes.{operation_some}
use Rattle.codec.proofs.Answers.{put-after, offset_fitted, not_in_range, in_its_range}
use Rattle.line_writing.proofs.write_operation.Goals as goal

pub returns-then-not-in_range : goal.returns-then-not-in_range
returns-then-not-in_range c =
    let all = not_in_range _ _ (sym c.in_range.ensures ∙ c.if-not-in_range.true) in
    record {
      value = all.0;
      out_after = all.1;
    }

pub returns : goal.returns
returns c =
    let p = c.put_operation.ensures in
    let e = in_its_range _ _ (sym c.in_range.ensures ∙ c.if-not-in_range.false) in
    record {
      value = c.fitted.ensures ∙ offset_fitted _ _ (operation_some _) p.value ∙ e.0;
      out_after = put-after _ _ p.out_after ∙ e.1;
    }
