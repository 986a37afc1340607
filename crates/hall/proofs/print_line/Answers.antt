-- `hall::print_line` meets its contract, and is safe: what is written is within the array.
use mathlib.Core.Path.{sym}
use borrow.Author.Rules.{rules}
use lib.Seq.{length-take-le}
use Rattle.transcript.specs.Loop.{processed}
use Rattle.transcript.proofs.Looping.{processed-within}
use Rattle.hall.proofs.print_line.Goals as goal

pub slice_bounds-line-end : goal.slice_bounds-line-end
slice_bounds-line-end g c =
    let p = c.process_line-processed.ensures in processed-within _ _ _ _ p.value c.in-Ok.is p.out_after

pub slice_bounds-print-end : goal.slice_bounds-print-end
slice_bounds-print-end g c =
    let p = c.process_line-processed.ensures in sym (length-take-le _ _ (processed-within _ _ _ _ p.value c.in-Ok.is p.out_after))

pub returns-in_ok-print : goal.returns-in_ok-print
unfolding processed
returns-in_ok-print g c = rw c.process_line-processed.ensures.value

pub returns-in_default : goal.returns-in_default
unfolding processed
returns-in_default g c = rw c.process_line-processed.ensures.value
