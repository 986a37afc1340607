-- `cursor::moved` meets its contract, by the sign of the shift.
use mathlib.Core.Path.{◌∙◌}
use borrow.Author.Rules.{rules}
use native.Mathlib.Omega.{arith}
use Rattle.cursor.proofs.Signed.{read, not-below, moved_up, moved_down}
use Rattle.cursor.proofs.moved.Goals as goal

pub returns-then-shift-lt0 : goal.returns-then-shift-lt0
returns-then-shift-lt0 c =
    c.lowered.ensures ∙ moved_down _ _ _ (omega arith) (c.down.ensures ∙ read _ c.ranges.shift)

pub up-requires : goal.up-requires
up-requires c = not-below c.if-shift-lt0.false

pub returns : goal.returns
returns c = c.raised.ensures ∙ moved_up _ _ _ (c.up.ensures ∙ read _ c.ranges.shift)
