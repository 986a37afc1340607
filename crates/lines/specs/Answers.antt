-- What reading a line answers, as values of its types.
use Rattle.std.specs.Prelude.{ℕ, List, [], ◌∷◌, Bool, false, not, ◌&&◌, cond, eqb, ltb, length, get_or, Result, Ok, Err}
use Rattle.lists.specs.Padding.{pad}
use Rattle.decimal.specs.declared.Fault.{Fault}
use Rattle.decimal.specs.declared.Fault.TheVariants.{Above, Malformed}
use Rattle.lines.specs.Lines.{ended, first_line}
use Rattle.lines.specs.Fields.{tab, fields, numerals, has_layout, values_of, at_most}

-- how many numbers a line that is read can have
abbrev pub slots : ℕ
slots = 9

-- the numbers of a line with zeros after them, or why they are not taken
abbrev pub Numbers : Type 0
Numbers = Result (List ℕ) Fault

-- the numbers where the layout holds and each is at most its limit
unfoldable pub verdict_on : Bool → List ℕ → List ℕ → Numbers
verdict_on laid limits ns =
    cond laid (cond (at_most limits ns) (Ok (pad slots 0 ns)) (Err Above)) (Err Malformed)

-- what is answered to a line by the fault of its numbers, or by what they say
abbrev pub by_numbers : {A : Type 0} → Numbers → A → A → (List ℕ → A) → A
by_numbers (Ok ns) malformed above within = within ns
by_numbers (Err Malformed) malformed above within = malformed
by_numbers (Err Above) malformed above within = above

-- what the fields of a line are read as, with the head word and one number for each limit
unfoldable pub numbers_of : List ℕ → List ℕ → List (List ℕ) → Numbers
numbers_of head limits fs = verdict_on (has_layout head (length limits) fs) limits (values_of fs)

-- the same from the end of a field on, for the code: bytes that end it, and go on with as many numerals as given
unfoldable pub goes_on : ℕ → List (List ℕ) → Bool
goes_on count [] = false
goes_on count (f ∷ fs) = eqb (length f) 0 && numerals count fs

-- a byte at an offset that ends no field
unfoldable pub goes_on_at : List ℕ → ℕ → Bool
goes_on_at line at = ltb at (length line) && not (eqb (get_or line at 0) tab)

unfoldable pub numbers_after : List ℕ → List (List ℕ) → Numbers
numbers_after limits fs = verdict_on (goes_on (length limits) fs) limits (values_of fs)

-- numbers that were read, unless one was above its limit
unfoldable pub unless : Bool → List ℕ → Numbers
unless above values = cond above (Err Above) (Ok values)

-- what the line at the front of bytes is read as: with no line feed there is none
unfoldable pub front_of : List ℕ → List ℕ → List ℕ → Numbers
front_of head limits s = cond (ended s) (numbers_of head limits (fields (first_line s))) (Err Malformed)
