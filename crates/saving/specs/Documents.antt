-- For the proofs of the code alone: the lines of a saved replica or an archive by the numbers of its arrays.
use Rattle.std.specs.Prelude.{ℕ, ◌*◌, ◌≤◌, List, [], ◌∷◌, ◌++◌, map, ◌≡◌, length, take, get_or}
use Rattle.lines.specs.Fields.{line_of}
use Rattle.lines.specs.Lines.{concatenated}
use Rattle.woot.specs.declared.Site.{Site}
use Rattle.woot.specs.declared.Character.{Character}
use Rattle.woot.specs.declared.Operation.{Operation}
use Rattle.woot.specs.State.{State}
use Rattle.woot.specs.Memory.{character_numbers, character_slots, pending_slots, column, key_column, previous_column}
use Rattle.woot.specs.Memory.{next_column, code_point_column, each, character_at, characters_of, operations_of}
use Rattle.bulk.specs.Archiving.{Placed, Archive}
use Rattle.codec.specs.Operations.{operation_line}
use Rattle.saved.specs.declared.Rows.{Rows}
use Rattle.saved.specs.Format.{saved_line, bytes_with}
use Rattle.saved.specs.Rows.{version_of, row_line}
use Rattle.saving.specs.declared.numbered.Line.{Line}

-- the bytes of a line
unfoldable pub line_bytes : Line → List ℕ
line_bytes l = line_of (l.head ∷ []) (take l.count l.numbers)

-- ---- what lent arrays stand for, in which columns lie one behind another

-- they have a slot for each of n rows, and for each of w pending operations in columns of m slots
pub record HasSlots (places characters toggles : List ℕ) (n : ℕ) (pending : List ℕ) (m w : ℕ) : Type 0 where
  pub places-hold : n ≤ length places
  pub characters-full : length characters ≡ character_numbers
  pub characters-hold : n ≤ character_slots
  pub toggles-hold : n ≤ length toggles
  pub pending-full : length pending ≡ 4 * m
  pub columns-few : m ≤ character_slots
  pub pending-hold : w ≤ m

-- a site by its number and its clock
abbrev pub site_with : ℕ → ℕ → Site
site_with number clock = record { number = number; clock = clock }

-- a character with its place
abbrev pub row_of : ℕ → Character → Placed
row_of place c = record { place = place; character = c }

-- the characters in the first n slots, alone and with their places
abbrev pub characters_among : List ℕ → List ℕ → ℕ → List Character
characters_among numbers toggles n =
    characters_of (key_column numbers) (previous_column numbers) (next_column numbers) (code_point_column numbers) toggles n

abbrev pub placed_at : List ℕ → List ℕ → List ℕ → ℕ → Placed
placed_at places numbers toggles i =
    row_of (get_or places i 0)
    (character_at (key_column numbers) (previous_column numbers) (next_column numbers) (code_point_column numbers) toggles i)

unfoldable pub rows_among : List ℕ → List ℕ → List ℕ → ℕ → List Placed
rows_among places numbers toggles n = each (placed_at places numbers toggles) n

-- the operations in the first n slots of columns of m
abbrev pub operations_over : ℕ → List ℕ → ℕ → List Operation
operations_over m numbers n =
    operations_of (column m 0 numbers) (column m 1 numbers) (column m 2 numbers) (column m 3 numbers) n

-- the state of a site and these
unfoldable pub state_in : Site → List ℕ → List ℕ → ℕ → List ℕ → ℕ → State
state_in site characters toggles n pending w =
    record {
      site = site;
      characters = characters_among characters toggles n;
      pending = operations_over pending_slots pending w;
    }

-- the archive of a site and these
unfoldable pub archive_in : Site → List ℕ → List ℕ → List ℕ → ℕ → List ℕ → ℕ → Archive
archive_in site places characters toggles n pending w =
    record {
      site = site;
      rows = rows_among places characters toggles n;
      pending = operations_over pending_slots pending w;
    }

-- ---- the lines

-- rows and pending operations
pub record Lists : Type 0 where
  pub rows : List Placed
  pub pending : List Operation

abbrev pub lists_of : List ℕ → List ℕ → List ℕ → ℕ → List ℕ → ℕ → ℕ → Lists
lists_of places characters toggles n pending m w =
    record { rows = rows_among places characters toggles n; pending = operations_over m pending w }

-- the lines after the site's: those of the rows, and those of the pending operations
unfoldable pub lines_as : Rows → Lists → List (List ℕ)
lines_as k d = map (row_line k) d.rows ++ map (saved_line (version_of k)) d.pending

-- their bytes
unfoldable pub body_as : Rows → Lists → List ℕ
body_as k d = concatenated (λ l. l) (lines_as k d)

-- those of the whole
unfoldable pub file_bytes : Rows → Site → Lists → List ℕ
file_bytes k site d = bytes_with (version_of k) (row_line k) site d.rows d.pending

-- ---- operations alone

-- those whose numbers lie in columns as long as the characters'
unfoldable pub operations_among : List ℕ → ℕ → List Operation
operations_among numbers n = operations_over character_slots numbers n

-- their lines one after another
unfoldable pub lines_in : List ℕ → ℕ → List ℕ
lines_in numbers n = concatenated operation_line (operations_among numbers n)
