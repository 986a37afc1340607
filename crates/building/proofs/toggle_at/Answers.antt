-- `building::toggle_at` reads the slot of each column.
use native.Mathlib.Omega.{arith}
use Rattle.building.proofs.Toggling.{toggle_slotted, slotted_bits}
use borrow.Author.Rules.{rules}
use Rattle.building.proofs.toggle_at.Goals as goal

pub identifier-target-requires : goal.identifier-target-requires
identifier-target-requires c =
    (slotted_bits c.args.changes.now c.args.j c.requires.j_lt_character_slots c.requires.j_value).target

pub overflow_cast-result : goal.overflow_cast-result
overflow_cast-result c =
    omega (arith, (slotted_bits c.args.changes.now c.args.j c.requires.j_lt_character_slots c.requires.j_value).sender)

pub returns : goal.returns
returns c =
    rw c.identifier-target.ensures (toggle_slotted c.args.changes.now c.args.j c.requires.j_lt_character_slots)
