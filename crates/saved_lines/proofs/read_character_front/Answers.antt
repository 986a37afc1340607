-- `saved_lines::read_character_front` meets its contract: what is read is what the numbers say.
use Rattle.std.proofs.Common.{◌≡◌, ap, ◌∙◌}
use Rattle.lines.specs.Answers.{numbers_of}
use Rattle.lines.specs.Fields.{fields}
use Rattle.lines.proofs.Verdicts.{values-at_most}
use Rattle.lines.proofs.Lines.{front-line}
use Rattle.saved.specs.declared.Rows.TheVariants.{Saved}
use Rattle.saved.specs.Format.{character_head, character_limits}
use Rattle.saved_lines.specs.Judging.{front_line, said_in, row_of, row_in_range, row_read}
use Rattle.saved_lines.proofs.Judging.{lacks-layout, as_limits}
use Rattle.saved_lines.proofs.read_character_front.Goals.{After-read_front-front}
use Rattle.saved_lines.proofs.read_character_front.Goals as goal

-- the numbers, as they are read
numbers_read : (c : After-read_front-front) → let a = c.args in
    c.read_front-front.result.numbers ≡ numbers_of character_head (character_limits a.version) (fields (front_line a.bytes.now))
numbers_read c =
    let a = c.args in
    as_limits a.version (front_line a.bytes.now) c.last_toggle_field-most.ensures (c.read_front-front.ensures.numbers_value ∙ front-line _ _ _ _)

pub character_row-requires : goal.character_row-requires
unfolding numbers_of
character_row-requires c =
    values-at_most _ (character_limits c.args.version) _ _ (numbers_read (goal.at.character_row-requires c).After-read_front-front)

pub returns : goal.returns
unfolding row_read
returns c =
    let k = Saved c.args.version in
    let r = c.read_front-front.ensures in
    record {
      line_value = c.character_row.ensures ∙ ap (said_in (row_of k) (row_in_range k)) (numbers_read (goal.at.returns c).After-read_front-front);
      next_value = (λ h. r.next_value (lacks-layout (row_of k) (row_in_range k) c.character_row.ensures h));
      next_in_bounds = r.next_in_bounds;
    }
