-- A list in an array: the arrays of the code have a fixed number of slots, of which a list takes the first.
use Rattle.std.specs.Prelude.{ℕ, ◌-◌, List, ◌++◌, length, replicate}

-- a list in an array of m slots, z in those that are left
unfoldable pub pad : {A : Type 0} → ℕ → A → List A → List A
pad m z xs = xs ++ replicate (m - length xs) z
