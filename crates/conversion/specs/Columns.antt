-- For the proofs of the code alone: what the first form can say, by the numbers of a document's arrays.
use Rattle.std.specs.Prelude.{ℕ, ◌%◌, Bool, true, cond, eqb, leb}

-- a count of toggles that it can say
abbrev pub count_within : ℕ → Bool
count_within t = leb t 1

-- an own key and a value of a pending operation that it can say: a toggle's count is in its value
unfoldable pub numbers_within : ℕ → ℕ → Bool
numbers_within own value = cond (eqb own 0) (count_within (value % 256)) true
