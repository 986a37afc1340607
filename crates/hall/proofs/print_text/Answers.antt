-- `hall::print_text` is safe and ends: what is written is within the array.
use mathlib.Core.Path.{sym}
use borrow.Author.Rules.{rules}
use lib.Seq.{length-take-le}
use Rattle.codec.proofs.Answers.{fitted_within}
use Rattle.hall.proofs.print_text.Goals as goal

pub text_line-written-requires : goal.text_line-written-requires
text_line-written-requires g c = c.requires

pub slice_bounds-line-end : goal.slice_bounds-line-end
slice_bounds-line-end g c =
    let p = c.text_line-written.ensures in fitted_within _ _ p.value c.in-Ok.is p.out_after

pub slice_bounds-print-end : goal.slice_bounds-print-end
slice_bounds-print-end g c =
    let p = c.text_line-written.ensures in sym (length-take-le _ _ (fitted_within _ _ p.value c.in-Ok.is p.out_after))
