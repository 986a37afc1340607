-- For the proofs of the code alone: the test of the rows, by the places of their neighbours. A place is 0 for the begin
-- mark, one past the last row for the end mark, and one more than its index for a row.
use Rattle.std.specs.Prelude.{ℕ, zero, suc, ◌+◌, ◌-◌, ◌<◌, ◌≡◌, Bool, true, false, ◌&&◌, ◌||◌, not, cond, List, eqb, ltb, length, get_or}
use Rattle.lists.specs.Lists.{throughout}
use Rattle.index.specs.Keys.{place_in}

-- in each slot the place of a key among those of the rows
pub record Placed (ids keys places : List ℕ) : Type 0 where
  pub at : (i : ℕ) → i < length ids → get_or places i 0 ≡ place_in ids (get_or keys i 0)

-- ---- pairs

-- row j stands above row k, whose previous is at the place p: it stands above p too, or row k does not stand above the
-- next of row j, or has no lower key
unfoldable pub pair_at : List ℕ → List ℕ → ℕ → ℕ → ℕ → Bool
pair_at ids below p k j = ltb j p || not (ltb (k + 1) (get_or below j 0) && ltb (get_or ids k 0) (get_or ids j 0))

-- so do all above row k
abbrev pub row_at : List ℕ → List ℕ → List ℕ → ℕ → Bool
row_at ids above below k = throughout (pair_at ids below (get_or above k 0) k) k

-- and above any row
abbrev pub pairs_in : List ℕ → List ℕ → List ℕ → Bool
pairs_in ids above below = throughout (row_at ids above below) (length ids)

-- ---- cycles

-- of n rows some are left: the place is a mark's, or that of a row which is not
unfoldable pub settled : (ℕ → Bool) → ℕ → ℕ → Bool
settled left n p = eqb p 0 || (ltb n p || not (left (p - 1)))

-- so are both neighbours of row k
unfoldable pub free_at : List ℕ → List ℕ → ℕ → (ℕ → Bool) → ℕ → Bool
free_at above below n left k = settled left n (get_or above k 0) && settled left n (get_or below k 0)

-- a row is left where its flag is 0
unfoldable pub unflagged : List ℕ → ℕ → Bool
unflagged flags k = eqb (get_or flags k 0) 0

-- how many of the first n are
unfoldable pub remaining : List ℕ → ℕ → ℕ
remaining flags zero = 0
remaining flags (suc n) = remaining flags n + cond (unflagged flags n) 1 0

-- none of the rows that are left is free, so that none can be taken away before another
abbrev pub Knotted : List ℕ → List ℕ → ℕ → (ℕ → Bool) → Type 0
Knotted above below n left = (k : ℕ) → k < n → left k ≡ true → free_at above below n left k ≡ false

-- none of the rows has a flag
abbrev pub Spared : ℕ → (ℕ → Bool) → List ℕ → Type 0
Spared n rows flags = (k : ℕ) → k < n → rows k ≡ true → unflagged flags k ≡ true

-- the rows that were seen got a flag where they were free at that moment, and so many got one
pub record Passed (above below : List ℕ) (n : ℕ) (Seen : ℕ → Type 0) (flags after : List ℕ) (taken : ℕ) : Type 0 where
  pub size : length after ≡ length flags
  pub spares : (rows : ℕ → Bool) → Knotted above below n rows → Spared n rows flags → Spared n rows after
  pub counted : remaining after n + taken ≡ remaining flags n
  pub same : taken ≡ 0 → after ≡ flags
  pub stuck : taken ≡ 0 → (k : ℕ) → Seen k → unflagged flags k ≡ true
      → free_at above below n (unflagged flags) k ≡ false

-- there are no such rows
abbrev pub Unknotted : List ℕ → List ℕ → ℕ → Type 0
Unknotted above below n = (rows : ℕ → Bool) → Knotted above below n rows → (k : ℕ) → k < n → rows k ≡ false

-- there are some
pub record Knot (above below : List ℕ) (n : ℕ) : Type 0 where
  pub rows : ℕ → Bool
  pub knotted : Knotted above below n rows
  pub one : ℕ
  pub within : one < n
  pub there : rows one ≡ true
