-- What the functions answer, as values of their types.
use Rattle.std.specs.Prelude.{ℕ, ◌+◌, ◌-◌, List, [], ◌∷◌, ◌++◌, Bool, ◌&&◌, ◌||◌, cond, eqb, ltb, leb, true, ◌≡◌, ◌<◌, length, drop, get_or, replicate, Result, Ok, Err}
use Rattle.decimal.specs.declared.Fault.{Fault}
use Rattle.decimal.specs.declared.Fault.TheVariants.{Above, Malformed}
use Rattle.decimal.specs.declared.Aligned.{Aligned}
use Rattle.decimal.specs.declared.Scanned.{Scanned}
use Rattle.decimal.specs.Numeral.{is_digit, is_numeral, value_of, digits}

-- a field of digits is its number where that is at most the limit
unfoldable pub field_of : List ℕ → ℕ → Result ℕ Fault
field_of s limit = cond (is_numeral s) (cond (leb (value_of s) limit) (Ok (value_of s)) (Err Above)) (Err Malformed)

-- the digits at the front
abbrev pub digits_front : List ℕ → List ℕ
digits_front [] = []
digits_front (b ∷ bs) = cond (is_digit b) (b ∷ digits_front bs) []

-- for the code: d is the digit at an offset
pub record DigitAt (s : List ℕ) (at d : ℕ) : Type 0 where
  pub there : at < length s
  pub digit : is_digit (get_or s at 0) ≡ true
  pub is : d ≡ get_or s at 0 - 48

-- what the digits at an offset say, and the offset just past them
unfoldable pub scan_of : List ℕ → ℕ → ℕ → Scanned
scan_of s from limit =
    let ds : List ℕ = digits_front (drop from s) in
    record { field = field_of ds limit; next = from + length ds }

-- for the code: the same of their first, their number, and a value unless they are told to be above the limit
unfoldable pub field_by : ℕ → ℕ → ℕ → Bool → ℕ → Result ℕ Fault
field_by first count value above limit =
    cond (eqb count 0 || (eqb first 48 && ltb 1 count)) (Err Malformed) (cond (above || ltb limit value) (Err Above) (Ok value))

-- the digits at the end of an array of 20, zeros before them, and the index where they start
unfoldable pub aligned : ℕ → Aligned
aligned n = record { bytes = replicate (20 - length (digits n)) 0 ++ digits n; start = 20 - length (digits n) }
