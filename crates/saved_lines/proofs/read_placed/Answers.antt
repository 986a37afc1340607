-- `saved_lines::read_placed` meets its contract: what is read is what the numbers say.
use Rattle.std.proofs.Common.{ap, ◌∙◌}
use Rattle.lines.specs.Answers.{numbers_of}
use Rattle.lines.proofs.Verdicts.{values-at_most}
use Rattle.saved.specs.declared.Rows.TheVariants.{Archived}
use Rattle.saved.specs.Archive.{placed_limits}
use Rattle.saved_lines.specs.Judging.{said_in, row_of, row_in_range, row_read}
use Rattle.saved_lines.proofs.read_placed.Goals as goal

pub placed_row-requires : goal.placed_row-requires
unfolding numbers_of
placed_row-requires c = values-at_most _ placed_limits _ _ c.read.ensures

pub returns : goal.returns
unfolding row_read
returns c = c.placed_row.ensures ∙ ap (said_in (row_of Archived) (row_in_range Archived)) c.read.ensures
