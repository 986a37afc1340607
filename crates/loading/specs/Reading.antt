-- For the proofs of the code alone: what one line says, as values of the code's types.
use Rattle.std.specs.Prelude.{ℕ, List, [], Bool, is_ok}
use Rattle.woot.specs.declared.Character.{Character}
use Rattle.saved.specs.declared.Version.{Version}
use Rattle.saved.specs.declared.Rows.{Rows}
use Rattle.saved_lines.specs.declared.Row.{Row}
use Rattle.saved_lines.specs.Judging.{said_or, row_of, row_read, operation_read}

-- what zeros say as a row: it stands for a line whose numbers are not taken
unfoldable pub blank_row : Rows → Row
blank_row k = row_of k []

-- what a line says as a row, in range or not
abbrev pub line_row : Rows → List ℕ → Row
line_row k line = said_or (row_read k line) (blank_row k)

abbrev pub line_place : Rows → List ℕ → ℕ
line_place k line = (line_row k line).place

abbrev pub line_character : Rows → List ℕ → Character
line_character k line = (line_row k line).character

abbrev pub row_passes : Rows → List ℕ → Bool
row_passes k line = is_ok (row_read k line)

abbrev pub operation_passes : Version → List ℕ → Bool
operation_passes v line = is_ok (operation_read v line)
