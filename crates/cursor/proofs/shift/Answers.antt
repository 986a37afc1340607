-- `cursor::shift` meets its contract: what is read back of the difference is the difference.
use Prim.Native.Nat.{ℕ}
use mathlib.Core.Path.{ap, ◌∙◌}
use lib.IntN.{sub_ℕ}
use mir.Facts.{to_z-of_z}
use mir.Syntax.{w32}
use borrow.Author.Rules.{rules}
use native.Mathlib.Omega.{arith}
use Rattle.cursor.proofs.shift.Goals as goal

pub difference-requires : goal.difference-requires
difference-requires c =
    record {
      after_le_character_slots = omega (arith, c.visible_through.ensures.upper_bound);
      before_le_character_slots = c.requires.point_le_character_slots;
    }

pub returns : goal.returns
returns c cs k t small =
    to_z-of_z {w = w32} {z = c.difference.result} (record { sfits = c.difference.type_inv })
    ∙ c.difference.ensures
    ∙ ap (λ (n : ℕ). sub_ℕ n c.args.point) (c.visible_through.ensures.value cs k t small)
