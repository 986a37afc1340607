-- `saving::site_line::measure_site_with` meets its contract: the head word is the form's, and the numbers the site's.
use mathlib.Core.Path.{◌∙◌}
use Rattle.lines.specs.Fields.{line_of}
use Rattle.lines.specs.Room.{room_for}
use Rattle.saved.specs.Format.{site_line}
use Rattle.saving.proofs.site_line.measure_site_with.Goals as goal

pub returns : goal.returns
unfolding site_line
returns c =
    c.measure.ensures ∙ λ j. room_for c.args.size 0 (line_of (c.site_head.ensures j) (c.site_numbers_with-numbers.ensures j))
