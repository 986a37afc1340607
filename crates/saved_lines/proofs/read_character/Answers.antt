-- `saved_lines::read_character` meets its contract: what is read is what the numbers say.
use Rattle.std.proofs.Common.{◌≡◌, ap, ◌∙◌}
use Rattle.lines.specs.Answers.{numbers_of}
use Rattle.lines.specs.Fields.{fields}
use Rattle.lines.proofs.Verdicts.{values-at_most}
use Rattle.saved.specs.declared.Rows.TheVariants.{Saved}
use Rattle.saved.specs.Format.{character_head, character_limits}
use Rattle.saved_lines.specs.Judging.{said_in, row_of, row_in_range, row_read}
use Rattle.saved_lines.proofs.Judging.{as_limits}
use Rattle.saved_lines.proofs.read_character.Goals.{After-read}
use Rattle.saved_lines.proofs.read_character.Goals as goal

-- the numbers, as they are read
numbers_read : (c : After-read) → c.read.result ≡ numbers_of character_head (character_limits c.args.version) (fields c.args.line.now)
numbers_read c = as_limits c.args.version c.args.line.now c.last_toggle_field-last.ensures c.read.ensures

pub character_row-requires : goal.character_row-requires
unfolding numbers_of
character_row-requires c =
    values-at_most _ (character_limits c.args.version) _ _ (numbers_read (goal.at.character_row-requires c).After-read)

pub returns : goal.returns
unfolding row_read
returns c =
    let k = Saved c.args.version in
    c.character_row.ensures ∙ ap (said_in (row_of k) (row_in_range k)) (numbers_read (goal.at.returns c).After-read)
