-- The calls on operation lines: reading the first line of the bytes, and writing a line into a lent slice. Each has its
-- conditions in checking order; where none holds, what is done stands below them.
use Rattle.std.specs.Prelude.{ℕ, List, [], ◌∷◌, Bool, ◌&&◌, ◌||◌, not, Ok, Err, Result}
use Rattle.std.proofs.Math.Option.{Option, none, some}
use Rattle.woot.specs.declared.Operation.{Operation}
use Rattle.answers.specs.declared.Refusal.{Refusal}
use Rattle.answers.specs.declared.Refusal.TheVariants.{Layout, Range}
use Rattle.answers.specs.Answers.{Check, ◌⇒◌, first, decided, number}
use Rattle.woot.specs.Writing.{written_as, output_after}
use Rattle.woot.specs.Ranges.{in_range}
use Rattle.woot.specs.Writing.{Written}
use Rattle.lines.specs.Lines.{ended, first_line}
use Rattle.lines.specs.Fields.{fields}
use Rattle.codec.specs.Operations.{is_insert, is_toggle, is_delete, operation_of, operation_line}

-- what the reader answers: an operation, or why there is none ("the reader's reply")
abbrev pub Read : Type 0
Read = Result Operation Refusal

-- ---- reading

-- the fields are those of an insert or of a toggle, as these are written
unfoldable pub as_written : List ℕ → Bool
as_written line = is_insert (fields line) || is_toggle (fields line)

-- the fields are those of an insert or of a delete, as these were written before Req 05 of document 02
unfoldable pub as_written_first : List ℕ → Bool
as_written_first line = is_insert (fields line) || is_delete (fields line)

-- the fields are those of any of the three: a delete is read, and written no more
unfoldable pub line_laid_out : List ℕ → Bool
line_laid_out line = as_written line || is_delete (fields line)

-- condition 1: a line "lacks the layout"; a first line that no line feed ends lacks it too
unfoldable pub laid_out : List ℕ → Bool
laid_out s = ended s && line_laid_out (first_line s)

-- conditions 1 and 2
unfoldable pub read_checks : Bool → Operation → List (Check Read)
read_checks laid o = (not laid ⇒ Err Layout) ∷ (not (in_range o) ⇒ Err Range) ∷ []

unfoldable pub read_as : Bool → Operation → Read
read_as laid o = decided (λ a. a) (first (read_checks laid o)) (Ok o)

-- what a line without its line feed is read as
unfoldable pub read_line : List ℕ → Read
read_line line = read_as (line_laid_out line) (operation_of (fields line))

-- the same, of a line as it is written
unfoldable pub read_written : List ℕ → Read
read_written line = read_as (as_written line) (operation_of (fields line))

-- the same, of a line as it was written first
unfoldable pub read_written_first : List ℕ → Read
read_written_first line = read_as (as_written_first line) (operation_of (fields line))

-- the operation that the first line of the bytes says
unfoldable pub said_by : List ℕ → Operation
said_by s = operation_of (fields (first_line s))

-- what the first line of the bytes is read as
unfoldable pub read_operation : List ℕ → Read
read_operation s = read_as (laid_out s) (said_by s)

-- the refusal's number, or 0
unfoldable pub read_number : Read → ℕ
read_number (Ok o) = 0
read_number (Err r) = number r

-- the operation, none with a refusal
unfoldable pub read_value : Read → Option Operation
read_value (Ok o) = some o
read_value (Err r) = none

-- ---- writing

-- condition 2; 12 comes after it
unfoldable pub write_checks : Operation → List (Check Written)
write_checks o = (not (in_range o) ⇒ Err Range) ∷ []

-- the length of the line, or a refusal
unfoldable pub written : Operation → List ℕ → Written
written o out = written_as (write_checks o) (operation_line o) out

-- every byte of the slice afterwards
unfoldable pub written_out : Operation → List ℕ → List ℕ
written_out o out = output_after (write_checks o) (operation_line o) out
