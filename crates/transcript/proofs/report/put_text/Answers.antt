-- `transcript::report::put_text` meets its contract: the part of the array that is lent holds the numbers of the line.
use mathlib.Core.Path.{sym, ◌∙◌}
use native.Mathlib.Omega.{arith}
use borrow.Author.Rules.{rules}
use lib.Seq.{length-take-le}
use Rattle.transcript.specs.Lines.{text_line}
use Rattle.lines.proofs.Sizes.{line_some}
use Rattle.codec.proofs.Answers.{put-after, offset_fitted}
use Rattle.transcript.proofs.Listings.{listing-front}
use Rattle.transcript.proofs.report.put_text.Goals as goal

pub overflow_add-size : goal.overflow_add-size
overflow_add-size c = omega (arith, c.list-listed.ensures.count_le_character_slots)

pub slice_bounds-values-end : goal.slice_bounds-values-end
slice_bounds-values-end c = let l = c.list-listed.ensures in omega (arith, l.count_le_character_slots, l.values_len)

pub slice_bounds-put_line-end-2 : goal.slice_bounds-put_line-end-2
slice_bounds-put_line-end-2 c =
    let l = c.list-listed.ensures in sym (length-take-le _ _ (omega (arith, l.count_le_character_slots, l.values_len)))

pub returns : goal.returns
unfolding text_line
returns c =
    let p = c.put_line.ensures in
    let l = c.list-listed.ensures in
    record {
      value = (λ cs e f. rw (← listing-front cs _ (l.value cs e f) l.count_le_character_slots) (c.fitted.ensures ∙ offset_fitted _ _ (line_some _ _) p.value));
      out_after = (λ cs e f. rw (← listing-front cs _ (l.value cs e f) l.count_le_character_slots) (put-after _ _ p.out_after));
    }
