-- What measuring bytes answers, as a value of its type.
use Rattle.std.specs.Prelude.{ℕ, ◌+◌, List, cond, length, Some, None, Option}
use Rattle.output.specs.Output.{has_room}

-- where bytes end that are put at an offset, or nothing where there is no room for them
abbrev pub Room : Type 0
Room = Option ℕ

-- the offset just past bytes in a slice of the given size from the offset on, or that they have no room
unfoldable pub room_for : ℕ → ℕ → List ℕ → Room
room_for size at bytes = cond (has_room size at (length bytes)) (Some (at + length bytes)) None
