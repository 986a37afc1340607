-- The lines of bytes, and lists taken apart by a test or put one after another. (Document 01, "Lines": ended by one
-- line feed.)
use Rattle.std.specs.Prelude.{ℕ, List, [], ◌∷◌, ◌++◌, Bool, cond, eqb}
use Rattle.lists.specs.Lists.{any}

-- "one line feed (byte 10)"
abbrev pub line_feed : ℕ
line_feed = 10

-- whether a byte b is there
abbrev pub has : ℕ → List ℕ → Bool
has b s = any (λ x. eqb x b) s

-- the bytes before the first b, or all of them
abbrev pub before : ℕ → List ℕ → List ℕ
before b [] = []
before b (x ∷ xs) = cond (eqb x b) [] (x ∷ before b xs)

-- the bytes from just after the first b, or none
abbrev pub after : ℕ → List ℕ → List ℕ
after b [] = []
after b (x ∷ xs) = cond (eqb x b) xs (after b xs)

-- ---- the first line

-- a line feed ends it
unfoldable pub ended : List ℕ → Bool
ended s = has line_feed s

-- the line, without its line feed
unfoldable pub first_line : List ℕ → List ℕ
first_line s = before line_feed s

-- "the rest of its own bytes, from just after the line feed (the first; with none, the empty end of them)"
unfoldable pub rest : List ℕ → List ℕ
rest s = after line_feed s

-- ---- all lines

-- a byte more at the front of the first line; where no line feed follows it is part of none
abbrev pub on_line : ℕ → List (List ℕ) → List (List ℕ)
on_line b [] = []
on_line b (l ∷ ls) = (b ∷ l) ∷ ls

-- the lines that a line feed ends, each without it
abbrev pub lines : List ℕ → List (List ℕ)
lines [] = []
lines (b ∷ bs) = cond (eqb b line_feed) ([] ∷ lines bs) (on_line b (lines bs))

-- the last byte, or z where there is none
abbrev pub last : ℕ → List ℕ → ℕ
last z [] = z
last z (b ∷ bs) = last b bs

-- no byte stands after the last line feed
unfoldable pub closed : List ℕ → Bool
closed s = eqb (last line_feed s) line_feed

-- ---- lines of several kinds, one after another

module _ {A : Type 0} where
  -- the elements before the first that fails the test
  abbrev pub leading : (A → Bool) → List A → List A
  leading p [] = []
  leading p (x ∷ xs) = cond (p x) (x ∷ leading p xs) []

  -- the elements from the first that fails the test on
  abbrev pub trailing : (A → Bool) → List A → List A
  trailing p [] = []
  trailing p (x ∷ xs) = cond (p x) (trailing p xs) (x ∷ xs)

  -- the bytes of the elements one after another
  abbrev pub concatenated : (A → List ℕ) → List A → List ℕ
  concatenated f [] = []
  concatenated f (x ∷ xs) = f x ++ concatenated f xs
