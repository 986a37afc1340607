-- A line of numbers and its fields: a head word, and then numerals. (Document 01, "Lines": fields parted by one tab.)
use Rattle.std.specs.Prelude.{ℕ, List, [], ◌∷◌, ◌++◌, map, Bool, true, false, ◌&&◌, cond, eqb, leb, length}
use Rattle.lists.specs.Lists.{every}
use Rattle.decimal.specs.Numeral.{is_numeral, value_of, digits}
use Rattle.lines.specs.Lines.{line_feed}

-- "one tab (byte 9)"
abbrev pub tab : ℕ
tab = 9

-- ---- read

-- a byte more at the front of the first field
abbrev pub on_first : ℕ → List (List ℕ) → List (List ℕ)
on_first b [] = (b ∷ []) ∷ []
on_first b (f ∷ fs) = (b ∷ f) ∷ fs

-- the fields of a line: one more than it has tabs, and any of them may be empty
abbrev pub fields : List ℕ → List (List ℕ)
fields [] = [] ∷ []
fields (b ∷ bs) = cond (eqb b tab) ([] ∷ fields bs) (on_first b (fields bs))

-- the same bytes
abbrev pub equal : List ℕ → List ℕ → Bool
equal [] [] = true
equal [] (y ∷ ys) = false
equal (x ∷ xs) [] = false
equal (x ∷ xs) (y ∷ ys) = eqb x y && equal xs ys

-- as many numerals as given
unfoldable pub numerals : ℕ → List (List ℕ) → Bool
numerals count fs = eqb (length fs) count && every is_numeral fs

-- the layout of a line: the head word, and then as many numerals as given
unfoldable pub has_layout : List ℕ → ℕ → List (List ℕ) → Bool
has_layout head count [] = false
has_layout head count (f ∷ fs) = equal f head && numerals count fs

-- the numbers after the first field, however large
unfoldable pub values_of : List (List ℕ) → List ℕ
values_of [] = []
values_of (f ∷ fs) = map value_of fs

-- each number is at most its limit
abbrev pub at_most : List ℕ → List ℕ → Bool
at_most [] ns = true
at_most (l ∷ ls) [] = true
at_most (l ∷ ls) (n ∷ ns) = leb n l && at_most ls ns

-- ---- written

-- numbers as they are written, each after a tab
abbrev pub columns : List ℕ → List ℕ
columns [] = []
columns (n ∷ ns) = tab ∷ digits n ++ columns ns

-- the line of a head word and numbers, with its line feed
unfoldable pub line_of : List ℕ → List ℕ → List ℕ
line_of head ns = head ++ (columns ns ++ (line_feed ∷ []))
