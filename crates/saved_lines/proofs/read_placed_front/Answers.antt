-- `saved_lines::read_placed_front` meets its contract: what is read is what the numbers say.
use Rattle.std.proofs.Common.{◌≡◌, ap, ◌∙◌}
use Rattle.lines.specs.Answers.{numbers_of}
use Rattle.lines.specs.Fields.{fields}
use Rattle.lines.proofs.Verdicts.{values-at_most}
use Rattle.lines.proofs.Lines.{front-line}
use Rattle.saved.specs.declared.Rows.TheVariants.{Archived}
use Rattle.saved.specs.Archive.{placed_head, placed_limits}
use Rattle.saved_lines.specs.Judging.{front_line, said_in, row_of, row_in_range, row_read}
use Rattle.saved_lines.proofs.Judging.{lacks-layout}
use Rattle.saved_lines.proofs.read_placed_front.Goals.{After-read_front-front}
use Rattle.saved_lines.proofs.read_placed_front.Goals as goal

-- the numbers, as they are read
numbers_read : (c : After-read_front-front) → c.read_front-front.result.numbers ≡ numbers_of placed_head placed_limits (fields (front_line c.args.bytes.now))
numbers_read c = c.read_front-front.ensures.numbers_value ∙ front-line _ _ _ _

pub placed_row-requires : goal.placed_row-requires
unfolding numbers_of
placed_row-requires c = values-at_most _ placed_limits _ _ (numbers_read (goal.at.placed_row-requires c).After-read_front-front)

pub returns : goal.returns
unfolding row_read
returns c =
    let r = c.read_front-front.ensures in
    record {
      line_value = c.placed_row.ensures ∙ ap (said_in (row_of Archived) (row_in_range Archived)) (numbers_read (goal.at.returns c).After-read_front-front);
      next_value = (λ h. r.next_value (lacks-layout (row_of Archived) (row_in_range Archived) c.placed_row.ensures h));
      next_in_bounds = r.next_in_bounds;
    }
