-- `cursor::bits` meets its contract, by the sign of the shift.
use mathlib.Core.Path.{ap, ◌∙◌}
use borrow.Author.Rules.{rules}
use Rattle.cursor.specs.Bits.{shift_bits}
use Rattle.cursor.proofs.Signed.{read, not-below}
use Rattle.cursor.proofs.bits.Goals as goal

pub returns-then-shift-lt0 : goal.returns-then-shift-lt0
unfolding shift_bits
returns-then-shift-lt0 c = ap shift_bits (c.down.ensures ∙ read _ c.ranges.shift)

pub up-requires : goal.up-requires
up-requires c = not-below c.if-shift-lt0.false

pub returns : goal.returns
unfolding shift_bits
returns c = ap shift_bits (c.up.ensures ∙ read _ c.ranges.shift)
