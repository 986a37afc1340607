-- Numbers as text: decimal digits, the highest first, with no sign and no leading zero. Zero is one `0`.
use Rattle.std.specs.Prelude.{ℕ, zero, suc, ◌+◌, ◌-◌, ◌*◌, ◌/◌, ◌%◌, List, [], ◌∷◌, ◌++◌, Bool, true, not, cond, ◌&&◌, length, get_or, leb, ltb, eqb}

-- the bytes `0` to `9`
unfoldable pub is_digit : ℕ → Bool
is_digit byte = leb 48 byte && leb byte 57

-- no other bytes
abbrev pub all_digits : List ℕ → Bool
all_digits [] = true
all_digits (b ∷ bs) = is_digit b && all_digits bs

-- `0` with anything after it
unfoldable pub leading_zero : List ℕ → Bool
leading_zero s = ltb 1 (length s) && eqb (get_or s 0 0) 48

-- the layout of a number
unfoldable pub is_numeral : List ℕ → Bool
is_numeral s = ltb 0 (length s) && not (leading_zero s) && all_digits s

-- the number that the digits form after those that formed v
abbrev pub value_from : ℕ → List ℕ → ℕ
value_from v [] = v
value_from v (b ∷ bs) = value_from (v * 10 + (b - 48)) bs

-- the number that the digits form, however many they are
unfoldable pub value_of : List ℕ → ℕ
value_of s = value_from 0 s

-- the digits of n, of which there are at most as many as the first number says
unfoldable pub digits_in : ℕ → ℕ → List ℕ
digits_in zero n = []
digits_in (suc most) n = let above = digits_in most (n / 10) in cond (ltb n 10) [] above ++ ((48 + n % 10) ∷ [])

-- the digits of n
unfoldable pub digits : ℕ → List ℕ
digits n = digits_in (suc n) n
