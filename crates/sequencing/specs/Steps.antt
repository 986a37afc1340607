-- For the proofs of the code alone: which of the rows that are left is sent next, by the places of their neighbours. A
-- place is 0 for the begin mark, one past the last row for the end mark, and one more than its index for a row. The
-- flag of a place is 0 but where a row is left.
use Rattle.std.specs.Prelude.{ℕ, ◌+◌, ◌≤◌, ◌<◌, ◌≡◌, Bool, true, false, ◌&&◌, not, List, ◌⊎◌, eqb, length, get_or}
use Rattle.lists.specs.Lists.{keep}
use Rattle.woot.specs.declared.Character.{Character}
use Rattle.woot.specs.Memory.{each, previous_keys, next_keys}
use Rattle.woot.specs.Placing.{place_of}
use Rattle.woot.specs.State.{blank_character}
use Rattle.woot.specs.Table.{keys}
use Rattle.bulk.specs.Catching.{sequenced}
use Rattle.convergence.specs.Agreement.{Standing}
use Rattle.index.specs.Keys.{AllSmall}

-- the place is that of a row which is left
unfoldable pub left_at : List ℕ → ℕ → Bool
left_at flags p = not (eqb (get_or flags p 0) 0)

-- row k is left
abbrev pub row_left : List ℕ → ℕ → Bool
row_left flags k = left_at flags (k + 1)

-- and neither of its neighbours at these places
unfoldable pub free_beside : List ℕ → ℕ → ℕ → ℕ → Bool
free_beside flags k above below =
    (row_left flags k && not (left_at flags above)) && not (left_at flags below)

-- the same by the places in their arrays
abbrev pub row_free : List ℕ → List ℕ → List ℕ → ℕ → Bool
row_free above below flags k = free_beside flags k (get_or above k 0) (get_or below k 0)

-- no place but a row's has a flag
pub record RowsAlone (flags : List ℕ) (n : ℕ) : Type 0 where
  pub begin : left_at flags 0 ≡ false
  pub behind : (p : ℕ) → n < p → left_at flags p ≡ false

-- ---- one scan

-- a number that is no key's
abbrev pub no_key : ℕ
no_key = 4294967295

-- so each is below it
abbrev pub KeysLow : List ℕ → Type 0
KeysLow ids = (k : ℕ) → k < length ids → get_or ids k 0 < no_key

-- the arrays can be scanned, with so many flags
pub record Scannable (ids above below : List ℕ) (size : ℕ) : Type 0 where
  pub above-hold : length ids ≤ length above
  pub below-hold : length ids ≤ length below
  pub flags-hold : length ids < size
  pub above-flagged : (k : ℕ) → k < length ids → get_or above k 0 < size
  pub below-flagged : (k : ℕ) → k < length ids → get_or below k 0 < size
  pub keys-low : KeysLow ids

-- of the rows that pass, r has the lowest key; where none passes it is no row
pub record Lowest (passes : ℕ → Bool) (ids : List ℕ) (r : ℕ) : Type 0 where
  pub passed : r < length ids → passes r ≡ true
  pub least : (k : ℕ) → k < length ids → passes k ≡ true → (r < length ids) × (get_or ids r 0 ≤ get_or ids k 0)

-- r is the row that is sent next: the lowest of those that are free or, where none is, of all that are left
abbrev pub NextRow : List ℕ → List ℕ → List ℕ → List ℕ → ℕ → Type 0
NextRow ids above below flags r =
    ((r < length ids) × Lowest (row_free above below flags) ids r)
    ⊎ (((k : ℕ) → k < length ids → row_free above below flags k ≡ false) × Lowest (row_left flags) ids r)

-- ---- all of them

-- the characters whose rows are left
unfoldable pub left_rows : List ℕ → List Character → List Character
left_rows flags cs = keep (λ c. left_at flags (place_of cs c.id)) cs

-- the characters at the first n indices
unfoldable pub at_rows : List Character → List ℕ → ℕ → List Character
at_rows cs order n = each (λ i. get_or cs (get_or order i 0) blank_character) n

-- the rows of characters with these keys, and the places of their neighbours
pub record RowsOf (cs : List Character) (ids above below : List ℕ) : Type 0 where
  pub standing : Standing cs
  pub small : AllSmall cs
  pub keyed : ids ≡ keys cs
  pub previous : (i : ℕ) → i < length cs → get_or above i 0 ≡ place_of cs (get_or cs i blank_character).previous
  pub next : (i : ℕ) → i < length cs → get_or below i 0 ≡ place_of cs (get_or cs i blank_character).next

-- r rows were taken away, and the characters in that order are those that were left in the sequence in which they are
-- sent
pub record TakenRows (ids above below flags order : List ℕ) (r : ℕ) : Type 0 where
  pub few : r ≤ length ids
  pub held : r ≤ length order
  pub rows : (i : ℕ) → i < r → get_or order i 0 < length ids
  pub sequence : (cs : List Character) → RowsOf cs ids above below
      → at_rows cs order r ≡ sequenced (length (left_rows flags cs)) (left_rows flags cs)

-- the same by the keys of their neighbours
pub record SentRows (ids previous next flags order : List ℕ) (r : ℕ) : Type 0 where
  pub few : r ≤ length ids
  pub held : r ≤ length order
  pub rows : (i : ℕ) → i < r → get_or order i 0 < length ids
  pub sequence : (cs : List Character) → Standing cs → AllSmall cs → ids ≡ keys cs → previous ≡ previous_keys cs
      → next ≡ next_keys cs → at_rows cs order r ≡ sequenced (length (left_rows flags cs)) (left_rows flags cs)
