-- For the proofs of the code alone: inserts of which those that are repeated are dropped, where their columns lie.
use Rattle.std.specs.Prelude.{ℕ, ◌+◌, ◌≡◌, List, Bool, true, false, ◌&&◌, cond, eqb, length, get_or}
use Rattle.std.specs.Prelude.{Option, Some, None, MatchOption}
use Rattle.woot.specs.declared.Insert.{Insert}
use Rattle.woot.specs.declared.Table.{Table}
use Rattle.bulk.specs.Building.{disagreeing}
use Rattle.woot.specs.Table.{entered}
use Rattle.woot.specs.Memory.{key_column, previous_column, next_column, code_point_column}
use Rattle.convergence.specs.Passes.{firsts}
use Rattle.heap.specs.Columns.{InsertsIn}
use Rattle.heap.specs.Keeping.{Moved}

-- the numbers in two slots are the same, but for the keys
unfoldable pub same_fields : List ℕ → ℕ → ℕ → Bool
same_fields xs i j =
    eqb (get_or (previous_column xs) i 0) (get_or (previous_column xs) j 0)
    && eqb (get_or (next_column xs) i 0) (get_or (next_column xs) j 0)
    && eqb (get_or (code_point_column xs) i 0) (get_or (code_point_column xs) j 0)

-- ---- an insert

-- what is done with the insert in slot i by where its key is found among the n that were kept: it is compared, or put
-- behind them and entered. How many are kept then is told, or nothing where the two disagree
abbrev pub Sifted : List ℕ → Table → ℕ → ℕ → List ℕ → Table → Option ℕ → Option ℕ → Type 0
Sifted xs t i n ys u r (Some j) =
    (ys ≡ xs) × (u ≡ t) × (r ≡ cond (same_fields xs i j) (Some n) None)
Sifted xs t i n ys u r None =
    Moved xs i n ys × (u ≡ entered t n (get_or (key_column xs) i 0)) × (r ≡ Some (n + 1))

-- ---- all of them

-- no two of them disagree: the first with each identifier, and how many they are
pub record KeptFirsts (is : List Insert) (ys : List ℕ) (n : ℕ) : Type 0 where
  pub agree : disagreeing is ≡ false
  pub kept : InsertsIn ys (firsts is)
  pub count : n ≡ length (firsts is)

-- or two of them do
abbrev pub KeptOnce : List Insert → List ℕ → Option ℕ → Type 0
KeptOnce is ys r = MatchOption r (disagreeing is ≡ true) (KeptFirsts is ys)
