-- What holds of numbers as text, of every size. Each is proved in `proofs/Laws.antt`.
use Rattle.std.specs.Prelude.{ℕ, ◌^◌, ◌≤◌, ◌<◌, ◌≡◌, ◌↔◌, List, true, cond, leb, length, get_or, Ok, Err}
use Rattle.decimal.specs.declared.Fault.TheVariants.{Above}
use Rattle.decimal.specs.Numeral.{is_numeral, value_of, digits}
use Rattle.decimal.specs.Answers.{field_of}

-- what is written has the layout
abbrev pub DigitsAreNumeral : Type 0
DigitsAreNumeral = (n : ℕ) → is_numeral (digits n) ≡ true

-- and is read as the number that was written
abbrev pub DigitsReadBack : Type 0
DigitsReadBack = (n : ℕ) → value_of (digits n) ≡ n

abbrev pub FieldReadsBack : Type 0
FieldReadsBack = (n limit : ℕ) → field_of (digits n) limit ≡ cond (leb n limit) (Ok n) (Err Above)

-- what has the layout is written back as the same bytes
abbrev pub NumeralWritesBack : Type 0
NumeralWritesBack = (s : List ℕ) → is_numeral s ≡ true → digits (value_of s) ≡ s

-- so is a field that is read as a number, whatever the limit
abbrev pub FieldWritesBack : Type 0
FieldWritesBack = (s : List ℕ) (n limit : ℕ) → field_of s limit ≡ Ok n → digits n ≡ s

-- how many digits there are
abbrev pub WidthByPower : Type 0
WidthByPower = (n k : ℕ) → 1 ≤ k → (length (digits n) ≤ k) ↔ (n < 10 ^ k)

abbrev pub WidthMonotone : Type 0
WidthMonotone = (m n : ℕ) → m ≤ n → length (digits m) ≤ length (digits n)

-- none of the bytes is a tab or a line feed
abbrev pub DigitBytes : Type 0
DigitBytes = (n i : ℕ) → i < length (digits n) → (48 ≤ get_or (digits n) i 0) × (get_or (digits n) i 0 ≤ 57)
