-- The promises about the lines and the whole output, each proved in proofs/ under its name in small letters.
use Rattle.std.specs.Prelude.{ℕ, ◌+◌, ◌^◌, ◌<◌, ◌≤◌, ◌≡◌, true, List, [], ◌∷◌, ◌++◌, length, take}
use Rattle.answers.specs.declared.Answer.{Answer}
use Rattle.woot.specs.declared.Replica.{Replica}
use Rattle.answers.specs.Answers.{reply}
use Rattle.woot.specs.Memory.{meaning, replica_well_formed}
use Rattle.lines.specs.Lines.{rest}
use Rattle.transcript.specs.Lines.{report_line, text_line}
use Rattle.transcript.specs.Calls.{received_line, printed_from, whole_output, input_most, hall_output}
use Rattle.transcript.specs.Loop.{looped}

-- ---- the lines

-- 70 bytes have room for a report with any numbers of 64 bits
abbrev pub ReportFits : Type 0
ReportFits =
    (n : ℕ) (a : Answer) → n < 2 ^ 64 → (reply a).integrated < 2 ^ 64 → (reply a).discarded < 2 ^ 64 →
    length (report_line n a) ≤ 70

-- 8,199 bytes have room for the text of any replica that is well formed
abbrev pub TextFits : Type 0
TextFits = (r : Replica) → replica_well_formed r ≡ true → length (text_line (meaning r).characters) ≤ 8199

-- ---- the whole output

-- with no bytes left the text is printed; else the report on the first line, and then what the rest gives
abbrev pub PrintedByLines : Type 0
PrintedByLines =
    (n : ℕ) (r : Replica) →
    (printed_from 0 n r [] ≡ text_line (meaning r).characters)
    × ((s : List ℕ) → 0 < length s →
    printed_from (length s) n r s
    ≡ report_line n (received_line r s).answer
    ++ printed_from (length (rest s)) (n + 1) (received_line r s).replica (rest s))

-- the loop of the program prints the whole output, on lent slices of any bytes, 70 or more for a line and 8,199 at last
abbrev pub LoopPrints : Type 0
LoopPrints =
    (out last input : List ℕ) → 70 ≤ length out → 8199 ≤ length last →
    looped out last (take input_most input) ≡ hall_output input

-- document 01's example: the input, and the whole output
abbrev pub example_input : List ℕ
example_input =
    73 ∷ 9 ∷ 50 ∷ 9 ∷ 49 ∷ 9 ∷ 54 ∷ 54 ∷ 9 ∷ 49 ∷ 9 ∷ 49 ∷ 9 ∷ 48 ∷ 9 ∷ 49 ∷ 10 ∷
    73 ∷ 9 ∷ 49 ∷ 9 ∷ 49 ∷ 9 ∷ 54 ∷ 53 ∷ 9 ∷ 48 ∷ 9 ∷ 48 ∷ 9 ∷ 48 ∷ 9 ∷ 49 ∷ 10 ∷
    68 ∷ 9 ∷ 51 ∷ 9 ∷ 49 ∷ 9 ∷ 49 ∷ 10 ∷
    73 ∷ 9 ∷ 49 ∷ 9 ∷ 49 ∷ 9 ∷ 54 ∷ 53 ∷ 9 ∷ 48 ∷ 9 ∷ 48 ∷ 9 ∷ 48 ∷ 9 ∷ 49 ∷ 10 ∷
    73 ∷ 9 ∷ 49 ∷ 9 ∷ 49 ∷ 9 ∷ 54 ∷ 55 ∷ 9 ∷ 48 ∷ 9 ∷ 48 ∷ 9 ∷ 48 ∷ 9 ∷ 49 ∷ 10 ∷ []

abbrev pub example_output : List ℕ
example_output =
    49 ∷ 9 ∷ 119 ∷ 97 ∷ 105 ∷ 116 ∷ 115 ∷ 9 ∷ 48 ∷ 9 ∷ 48 ∷ 9 ∷ 48 ∷ 10 ∷
    50 ∷ 9 ∷ 100 ∷ 111 ∷ 110 ∷ 101 ∷ 9 ∷ 50 ∷ 9 ∷ 48 ∷ 9 ∷ 48 ∷ 10 ∷
    51 ∷ 9 ∷ 100 ∷ 111 ∷ 110 ∷ 101 ∷ 9 ∷ 49 ∷ 9 ∷ 48 ∷ 9 ∷ 48 ∷ 10 ∷
    52 ∷ 9 ∷ 107 ∷ 110 ∷ 111 ∷ 119 ∷ 110 ∷ 9 ∷ 48 ∷ 9 ∷ 48 ∷ 9 ∷ 48 ∷ 10 ∷
    53 ∷ 9 ∷ 114 ∷ 101 ∷ 102 ∷ 117 ∷ 115 ∷ 101 ∷ 100 ∷ 9 ∷ 48 ∷ 9 ∷ 48 ∷ 9 ∷ 55 ∷ 10 ∷
    84 ∷ 9 ∷ 49 ∷ 9 ∷ 54 ∷ 54 ∷ 10 ∷ []

abbrev pub Example : Type 0
Example = whole_output example_input ≡ example_output

-- document 02, Req 05: an `E` line with turn 2 brings back a character that a `D` line hid, and a second `D` line,
-- "read as turn 1", is known then and hides nothing
abbrev pub restored_input : List ℕ
restored_input =
    73 ∷ 9 ∷ 49 ∷ 9 ∷ 49 ∷ 9 ∷ 54 ∷ 53 ∷ 9 ∷ 48 ∷ 9 ∷ 48 ∷ 9 ∷ 48 ∷ 9 ∷ 49 ∷ 10 ∷
    68 ∷ 9 ∷ 51 ∷ 9 ∷ 49 ∷ 9 ∷ 49 ∷ 10 ∷
    69 ∷ 9 ∷ 52 ∷ 9 ∷ 49 ∷ 9 ∷ 49 ∷ 9 ∷ 50 ∷ 10 ∷
    68 ∷ 9 ∷ 53 ∷ 9 ∷ 49 ∷ 9 ∷ 49 ∷ 10 ∷ []

abbrev pub restored_output : List ℕ
restored_output =
    49 ∷ 9 ∷ 100 ∷ 111 ∷ 110 ∷ 101 ∷ 9 ∷ 49 ∷ 9 ∷ 48 ∷ 9 ∷ 48 ∷ 10 ∷
    50 ∷ 9 ∷ 100 ∷ 111 ∷ 110 ∷ 101 ∷ 9 ∷ 49 ∷ 9 ∷ 48 ∷ 9 ∷ 48 ∷ 10 ∷
    51 ∷ 9 ∷ 100 ∷ 111 ∷ 110 ∷ 101 ∷ 9 ∷ 49 ∷ 9 ∷ 48 ∷ 9 ∷ 48 ∷ 10 ∷
    52 ∷ 9 ∷ 107 ∷ 110 ∷ 111 ∷ 119 ∷ 110 ∷ 9 ∷ 48 ∷ 9 ∷ 48 ∷ 9 ∷ 48 ∷ 10 ∷
    84 ∷ 9 ∷ 49 ∷ 9 ∷ 54 ∷ 53 ∷ 10 ∷ []

abbrev pub RestoredExample : Type 0
RestoredExample = whole_output restored_input ≡ restored_output
