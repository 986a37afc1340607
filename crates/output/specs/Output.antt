-- Bytes put into a lent slice, one run after another. What has no room is not written at all, so that a slice that is
-- too short keeps every byte.
use Rattle.std.specs.Prelude.{ℕ, ◌+◌, List, ◌++◌, Bool, cond, length, take, drop, leb}

-- whether a slice of the given size has room for count bytes from the offset at on
unfoldable pub has_room : ℕ → ℕ → ℕ → Bool
has_room size at count = leb (at + count) size

-- the slice with the bytes put at the offset; as it was where they have no room
unfoldable pub placed : List ℕ → ℕ → List ℕ → List ℕ
unfolding has_room
placed out at bytes =
    cond (has_room (length out) at (length bytes)) (take at out ++ bytes ++ drop (at + length bytes) out) out

-- the offset just past the bytes; the same offset where they have no room
unfoldable pub past : List ℕ → ℕ → List ℕ → ℕ
unfolding has_room
past out at bytes = cond (has_room (length out) at (length bytes)) (at + length bytes) at
