-- For the proofs of the code alone: the operations of an answer, in columns as long as the characters'.
use Rattle.std.specs.Prelude.{ℕ, ◌≤◌, ◌<◌, ◌≡◌, List, length, get_or}
use Rattle.woot.specs.Memory.{character_numbers, each, operation_at, characters_of}
use Rattle.bulk.specs.Loading.{turnings}
use Rattle.saving.specs.Documents.{operations_among}

-- the arrays have the rows at the first n indices
pub record HasRows (ids previous next points order : List ℕ) (n : ℕ) : Type 0 where
  pub previous-hold : length ids ≤ length previous
  pub next-hold : length ids ≤ length next
  pub points-hold : length ids ≤ length points
  pub order-hold : n ≤ length order
  pub rows : (i : ℕ) → i < n → get_or order i 0 < length ids

-- the columns hold the inserts of those rows, in that order
pub record InsertsOf (ids previous next points order : List ℕ) (n : ℕ) (numbers : List ℕ) : Type 0 where
  pub size : length numbers ≡ character_numbers
  pub inserts : operations_among numbers n ≡ each (λ i. operation_at ids previous next points (get_or order i 0)) n

-- they hold the toggles of the first n rows, from the site
pub record TogglesOf (ids toggles : List ℕ) (n sender : ℕ) (numbers : List ℕ) (r : ℕ) : Type 0 where
  pub size : length numbers ≡ character_numbers
  pub few : r ≤ n
  pub toggled : (previous next points : List ℕ)
      → operations_among numbers r ≡ turnings sender (characters_of ids previous next points toggles n)
