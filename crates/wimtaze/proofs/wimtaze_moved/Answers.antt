-- `wimtaze::wimtaze_moved` meets its contract: what is read back of the shift is the shift.
use mathlib.Core.Path.{ap, ◌∙◌}
use mir.Facts.{to_z-of_z}
use mir.Syntax.{w32}
use borrow.Author.Rules.{rules}
use Rattle.woot.specs.Cursor.{moved_by}
use Rattle.wimtaze.proofs.wimtaze_moved.Goals as goal

pub returns : goal.returns
returns c = c.moved.ensures ∙ ap (moved_by c.args.point) (to_z-of_z {w = w32} c.ranges.shift)
