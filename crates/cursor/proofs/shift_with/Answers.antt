-- `cursor::shift_with` asks whether the answer changes the replica.
use mathlib.Core.Path.{refl, ◌∙◌}
use mir.Facts.{to_z-of_z}
use mir.Syntax.{w32}
use borrow.Author.Rules.{rules}
use native.Mathlib.Omega.{arith}
use Rattle.lists.proofs.Tests.{failed, passed, clash}
use Rattle.cursor.proofs.shift_with.Goals as goal

pub returns-then-not-is_change : goal.returns-then-not-is_change
returns-then-not-is_change c =
    record {
      value = λ e. refl;
      value_2 = λ e. clash e (failed c.is_change.ensures c.if-not-is_change.true-raw);
    }

pub shift-requires : goal.shift-requires
shift-requires c =
    let few = c.requires.n_le_character_slots (passed c.is_change.ensures c.if-not-is_change.false-raw) in
    record {
      n_le_character_slots = few.0;
      n_in_bounds = omega (arith, few.0, c.requires.ids_len);
      n_in_bounds_2 = omega (arith, few.0, c.requires.toggles_len);
      point_le_character_slots = few.1;
    }

pub returns : goal.returns
returns c =
    record {
      value = λ e. clash (passed c.is_change.ensures c.if-not-is_change.false-raw) e;
      value_2 = λ e cs k t small. to_z-of_z {w = w32} {z = c.shift.result} (record { sfits = c.shift.type_inv }) ∙ c.shift.ensures cs k t small;
    }
