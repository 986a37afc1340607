-- `transcript::process_line` meets its contract, by those of `answer_line` and `report_line`.
use mathlib.Core.Path.{refl}
use borrow.Author.Rules.{rules}
use Rattle.transcript.specs.Loop.{report_on, processed, processed_out}
use Rattle.transcript.proofs.process_line.Goals as goal

pub returns : goal.returns
unfolding processed processed_out report_on
returns c =
    let p = c.report_line-written.ensures in
    record {
      value = rw (← c.answer_line-receipt.ensures, p.value) refl;
      out_after = rw (← c.answer_line-receipt.ensures) p.out_after;
    }
