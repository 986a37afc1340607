-- `delivery::find_place` lends the columns that the passes read.
use native.Mathlib.Omega.{arith}
use Rattle.memory.proofs.Fullness.{column-length}
use Rattle.delivery.proofs.find_place.Goals as goal

pub slice_bounds-find_place-end : goal.slice_bounds-find_place-end
slice_bounds-find_place-end c =
    omega (arith, column-length 1024 0 c.args.characters.now (omega (arith, c.requires.characters_len)))

pub find_place-requires : goal.find_place-requires
find_place-requires c =
    record {
      n_in_bounds = omega (arith, c.requires.n_le_character_slots, column-length 1024 0 c.args.characters.now (omega (arith, c.requires.characters_len)));
      n_in_bounds_2 = omega (arith, c.requires.n_le_character_slots, column-length 1024 1 c.args.characters.now (omega (arith, c.requires.characters_len)));
      n_in_bounds_3 = omega (arith, c.requires.n_le_character_slots, column-length 1024 2 c.args.characters.now (omega (arith, c.requires.characters_len)));
      tabled = c.requires.tabled;
    }
