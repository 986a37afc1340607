-- The promises about operation lines, each proved in proofs/ under its name in small letters.
use Rattle.std.specs.Prelude.{ℕ, suc, ◌≤◌, ◌<◌, ◌≡◌, ◌↔◌, true, false, List, [], ◌∷◌, ◌++◌, length, get_or, Ok, Err}
use Rattle.std.proofs.Math.Option.{some}
use Rattle.woot.specs.declared.Identifier.{Identifier}
use Rattle.woot.specs.declared.Insert.{Insert}
use Rattle.woot.specs.declared.Toggle.{Toggle}
use Rattle.woot.specs.declared.Operation.{Operation}
use Rattle.woot.specs.declared.Operation.TheVariants.{Insert as insert, Toggle as toggle}
use Rattle.answers.specs.declared.Refusal.{Refusal}
use Rattle.answers.specs.Answers.{Reported}
use Rattle.woot.specs.Ranges.{in_range}
use Rattle.woot.specs.Writing.{writing_checks, written_number, written_length}
use Rattle.lines.specs.Lines.{line_feed, first_line, rest}
use Rattle.lines.specs.Fields.{fields, line_of}
use Rattle.codec.specs.Operations.{delete_head, is_delete, operation_line}
use Rattle.codec.specs.Calls.{laid_out, said_by, read_checks, read_as, read_operation, read_number, read_value}
use Rattle.codec.specs.Calls.{write_checks, written, written_out}

-- ---- round trips

-- the line of any operation, its numbers in range or not, has the layout and says it, whatever bytes follow
abbrev pub LineSays : Type 0
LineSays = (o : Operation) (bytes : List ℕ) → read_operation (operation_line o ++ bytes) ≡ read_as true o

-- document 02, Req 05: "a `D` line is read as turn 1"
abbrev pub DeleteSays : Type 0
DeleteSays =
    (n : ℕ) (x : Identifier) (bytes : List ℕ) →
    read_operation (line_of delete_head (n ∷ x.site ∷ x.clock ∷ []) ++ bytes)
    ≡ read_as true (toggle (record { sender = n; target = x; toggles = 1 }))

-- so what is written is read as it was, and the bytes that follow are the rest
abbrev pub WrittenReadsBack : Type 0
WrittenReadsBack =
    (o : Operation) → in_range o ≡ true → (bytes : List ℕ) →
    (read_operation (operation_line o ++ bytes) ≡ Ok o) × (rest (operation_line o ++ bytes) ≡ bytes)

-- and what is read was written so: the first line with its line feed is the operation's. A `D` line "is written no
-- more, so the same-bytes claim leaves it out"
abbrev pub ReadWritesBack : Type 0
ReadWritesBack =
    (s : List ℕ) (o : Operation) → read_operation s ≡ Ok o → is_delete (fields (first_line s)) ≡ false →
    s ≡ operation_line o ++ rest s

-- ---- one line of each kind, with fields that all differ, so that letters and order show

-- `I 2 7 66 3 5 4 8`
abbrev pub example_insert : Operation
example_insert =
    insert (record {
      id = record { site = 2; clock = 7 };
      code_point = 66;
      previous = record { site = 3; clock = 5 };
      next = record { site = 4; clock = 8 };
    })

abbrev pub example_insert_bytes : List ℕ
example_insert_bytes =
    73 ∷ 9 ∷ 50 ∷ 9 ∷ 55 ∷ 9 ∷ 54 ∷ 54 ∷ 9 ∷ 51 ∷ 9 ∷ 53 ∷ 9 ∷ 52 ∷ 9 ∷ 56 ∷ 10 ∷ []

-- the toggle of `E 6 4 9 k`
abbrev pub example_toggle : ℕ → Operation
example_toggle k = toggle (record { sender = 6; target = record { site = 4; clock = 9 }; toggles = k })

-- `E 6 4 9 5`
abbrev pub example_toggle_bytes : List ℕ
example_toggle_bytes = 69 ∷ 9 ∷ 54 ∷ 9 ∷ 52 ∷ 9 ∷ 57 ∷ 9 ∷ 53 ∷ 10 ∷ []

-- `D 6 4 9`
abbrev pub example_delete_bytes : List ℕ
example_delete_bytes = 68 ∷ 9 ∷ 54 ∷ 9 ∷ 52 ∷ 9 ∷ 57 ∷ 10 ∷ []

-- `I` and `E` are written and read so, and "a `D` line is read as turn 1"
abbrev pub LinesExample : Type 0
LinesExample =
    (operation_line example_insert ≡ example_insert_bytes) × (read_operation example_insert_bytes ≡ Ok example_insert)
    × (operation_line (example_toggle 5) ≡ example_toggle_bytes)
    × (read_operation example_toggle_bytes ≡ Ok (example_toggle 5))
    × (read_operation example_delete_bytes ≡ Ok (example_toggle 1))

-- ---- sizes

abbrev pub longest_insert : Operation
longest_insert =
    insert (record {
      id = record { site = 16; clock = 65535 };
      code_point = 1114111;
      previous = record { site = 16; clock = 65534 };
      next = record { site = 16; clock = 65533 };
    })

abbrev pub longest_toggle : Operation
longest_toggle = toggle (record { sender = 16; target = record { site = 16; clock = 65535 }; toggles = 255 })

-- "at most 37 bytes"
abbrev pub insert_most : ℕ
insert_most = 37

-- an `E` line is at most as long as this
abbrev pub toggle_most : ℕ
toggle_most = 18

-- "Erase: `D` sender laptop clock. At most 14 bytes."
abbrev pub delete_most : ℕ
delete_most = 14

-- no line of an operation in range is longer
abbrev pub LineLengths : Type 0
LineLengths =
    ((i : Insert) → in_range (insert i) ≡ true → length (operation_line (insert i)) ≤ insert_most)
    × ((t : Toggle) → in_range (toggle t) ≡ true → length (operation_line (toggle t)) ≤ toggle_most)

-- and some have that many: `I 16 65535 1114111 16 65534 16 65533` and `E 16 16 65535 255`
abbrev pub LongestLines : Type 0
LongestLines =
    ((in_range longest_insert ≡ true) × (length (operation_line longest_insert) ≡ insert_most))
    × ((in_range longest_toggle ≡ true) × (length (operation_line longest_toggle) ≡ toggle_most))

-- a `D` line is read, "and is written no more": with its line feed none that is read is longer
abbrev pub DeleteLengths : Type 0
DeleteLengths =
    (s : List ℕ) (o : Operation) → read_operation s ≡ Ok o → is_delete (fields (first_line s)) ≡ true →
    suc (length (first_line s)) ≤ delete_most

-- and `D 16 16 65535` has that many
abbrev pub longest_delete_bytes : List ℕ
longest_delete_bytes = 68 ∷ 9 ∷ 49 ∷ 54 ∷ 9 ∷ 49 ∷ 54 ∷ 9 ∷ 54 ∷ 53 ∷ 53 ∷ 51 ∷ 53 ∷ 10 ∷ []

abbrev pub LongestDelete : Type 0
LongestDelete =
    (length longest_delete_bytes ≡ delete_most)
    × (read_operation longest_delete_bytes
    ≡ Ok (toggle (record { sender = 16; target = record { site = 16; clock = 65535 }; toggles = 1 })))

-- each byte is a byte, and the last alone is a line feed
abbrev pub LineBytes : Type 0
LineBytes =
    (o : Operation) (k : ℕ) → k < length (operation_line o) →
    (get_or (operation_line o) k 0 < 256) × ((get_or (operation_line o) k 0 ≡ line_feed) ↔ (suc k ≡ length (operation_line o)))

-- ---- refusals: any bytes, any operation, any slice

-- the reader answers refusal r exactly when its condition holds and none before it
abbrev pub ReadRefuses : Type 0
ReadRefuses =
    (s : List ℕ) (r : Refusal) →
    (read_operation s ≡ Err r) ↔ Reported (Err r) (read_checks (laid_out s) (said_by s))

-- by number: 1 where the layout lacks, 2 where it does not and the operation is out of range, else 0 and the
-- operation that the line says
abbrev pub ReadNumbers : Type 0
ReadNumbers =
    (s : List ℕ) →
    ((read_number (read_operation s) ≡ 1) ↔ (laid_out s ≡ false))
    × ((read_number (read_operation s) ≡ 2) ↔ ((laid_out s ≡ true) × (in_range (said_by s) ≡ false)))
    × ((read_number (read_operation s) ≡ 0) ↔ ((laid_out s ≡ true) × (in_range (said_by s) ≡ true)))
    × ((o : Operation) →
    (read_value (read_operation s) ≡ some o) ↔ ((laid_out s ≡ true) × (in_range (said_by s) ≡ true) × (said_by s ≡ o)))

-- the writer answers refusal r exactly when its condition holds and none before it, and changes no byte then
abbrev pub WriteRefuses : Type 0
WriteRefuses =
    (o : Operation) (out : List ℕ) (r : Refusal) →
    ((written o out ≡ Err r)
    ↔ Reported (Err r) (writing_checks (write_checks o) (operation_line o) out))
    × (written o out ≡ Err r → written_out o out ≡ out)

-- by number: 2 where the operation is out of range, 12 where it is not and the slice is shorter than the line, else 0
-- and the line's length
abbrev pub WriteNumbers : Type 0
WriteNumbers =
    (o : Operation) (out : List ℕ) →
    ((written_number (written o out) ≡ 2) ↔ (in_range o ≡ false))
    × ((written_number (written o out) ≡ 12) ↔ ((in_range o ≡ true) × (length out < length (operation_line o))))
    × ((written_number (written o out) ≡ 0) ↔ ((in_range o ≡ true) × (length (operation_line o) ≤ length out)))
    × ((written_length (written o out) ≡ length (operation_line o))
    ↔ ((in_range o ≡ true) × (length (operation_line o) ≤ length out)))
