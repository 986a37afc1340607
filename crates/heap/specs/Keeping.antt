-- For the proofs of the code alone: what stands in the columns of inserts once a slot is written.
use Rattle.std.specs.Prelude.{ℕ, ◌≡◌, List, length, get_or, set}
use Rattle.woot.specs.Memory.{key_column, previous_column, next_column, code_point_column}

-- four numbers are put into slot i, one into each column
pub record PutAt (xs : List ℕ) (i w x y z : ℕ) (ys : List ℕ) : Type 0 where
  pub size : length ys ≡ length xs
  pub ids : key_column ys ≡ set (key_column xs) i w
  pub previous : previous_column ys ≡ set (previous_column xs) i x
  pub next : next_column ys ≡ set (next_column xs) i y
  pub points : code_point_column ys ≡ set (code_point_column xs) i z

-- the numbers in one slot are put into another
abbrev pub Moved : List ℕ → ℕ → ℕ → List ℕ → Type 0
Moved xs from to ys =
    PutAt xs to (get_or (key_column xs) from 0) (get_or (previous_column xs) from 0) (get_or (next_column xs) from 0)
    (get_or (code_point_column xs) from 0) ys
