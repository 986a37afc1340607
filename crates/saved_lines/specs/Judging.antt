-- For the proofs of the code alone: what is read of a line, as values of the code's types. Its layout comes first, then
-- its range, then what it says.
use Rattle.std.specs.Prelude.{ℕ, List, [], Bool, true, false, ◌&&◌, cond, get_or, Result, Ok, Err}
use Rattle.woot.specs.declared.Operation.{Operation}
use Rattle.woot.specs.Ranges.{site_in_range, character_in_range, in_range}
use Rattle.woot.specs.declared.Site.{Site}
use Rattle.bulk.specs.Archiving.{Placed, place_in_range}
use Rattle.saved_lines.specs.declared.Row.{Row}
use Rattle.saved_lines.specs.declared.Unread.{Unread}
use Rattle.saved_lines.specs.declared.Unread.TheVariants.{Malformed, Above, OutOfRange}
use Rattle.decimal.specs.declared.Fault.{Fault}
use Rattle.decimal.specs.declared.Fault.TheVariants.{Above as NumberAbove, Malformed as NumberMalformed}
use Rattle.lines.specs.Lines.{lines}
use Rattle.lines.specs.Fields.{fields}
use Rattle.lines.specs.Answers.{Numbers, numbers_of}
use Rattle.codec.specs.Calls.{Read}
use Rattle.codec.specs.Calls.{read_as}
use Rattle.saved.specs.declared.Version.{Version}
use Rattle.saved.specs.declared.Rows.{Rows}
use Rattle.saved.specs.declared.Rows.TheVariants.{Saved, Archived}
use Rattle.saved.specs.Format.{site_head, site_limits, site_of, character_head, character_limits, character_of, is_operation}
use Rattle.saved.specs.Format.{operation_said}
use Rattle.saved.specs.Archive.{placed_head, placed_limits, placed_of}

-- the line at the front of bytes, or nothing
abbrev pub front_line : List ℕ → List ℕ
front_line s = get_or (lines s) 0 []

module _ {A : Type 0} where
  -- it has the layout
  abbrev pub in_layout : Result A (Unread A) → Bool
  in_layout (Ok x) = true
  in_layout (Err (OutOfRange x)) = true
  in_layout (Err Above) = true
  in_layout (Err Malformed) = false

  -- what a line says, in range or not; where its numbers are not taken, what stands for it
  abbrev pub said_or : Result A (Unread A) → A → A
  said_or (Ok x) blank = x
  said_or (Err (OutOfRange x)) blank = x
  said_or (Err Above) blank = blank
  said_or (Err Malformed) blank = blank

  -- why a line says nothing whose numbers are not taken
  abbrev pub unread : Fault → Unread A
  unread NumberAbove = Above
  unread NumberMalformed = Malformed

  -- what a line says whose numbers are within their limits, in range or not
  unfoldable pub ranged : Bool → A → Result A (Unread A)
  ranged passes said = cond passes (Ok said) (Err (OutOfRange said))

  -- what a line says by its numbers, or by their fault
  unfoldable pub said_in : (List ℕ → A) → (A → Bool) → Numbers → Result A (Unread A)
  said_in say passes (Ok ns) = ranged (passes (say ns)) (say ns)
  said_in say passes (Err fault) = Err (unread fault)

unfoldable pub site_read : Version → List ℕ → Result Site (Unread Site)
site_read v line = said_in site_of site_in_range (numbers_of (site_head v) site_limits (fields line))

-- ---- a row of either kind

-- its head word, the limits of its numbers, and what these say
abbrev pub row_head : Rows → List ℕ
row_head (Saved v) = character_head
row_head Archived = placed_head

abbrev pub row_limits : Rows → List ℕ
row_limits (Saved v) = character_limits v
row_limits Archived = placed_limits

abbrev pub row_as : Placed → Row
row_as p = record { place = p.place; character = p.character }

unfoldable pub row_of : Rows → List ℕ → Row
row_of (Saved v) ns = record { place = 0; character = character_of v ns }
row_of Archived ns = row_as (placed_of ns)

-- numbers within their limits say toggles that the form can say
unfoldable pub row_in_range : Rows → Row → Bool
row_in_range (Saved v) r = character_in_range r.character
row_in_range Archived r =
    place_in_range (record { place = r.place; character = r.character }) && character_in_range r.character

unfoldable pub row_read : Rows → List ℕ → Result Row (Unread Row)
row_read k line = said_in (row_of k) (row_in_range k) (numbers_of (row_head k) (row_limits k) (fields line))

-- ---- a pending operation

-- it has the layout
abbrev pub operation_in_layout : Result Operation Fault → Bool
operation_in_layout (Ok o) = true
operation_in_layout (Err NumberAbove) = true
operation_in_layout (Err NumberMalformed) = false

unfoldable pub operation_read : Version → List ℕ → Result Operation Fault
operation_read v line =
    cond (is_operation v line) (cond (in_range (operation_said line)) (Ok (operation_said line)) (Err NumberAbove))
    (Err NumberMalformed)

-- what `codec` answers for such a line
unfoldable pub pending_read : Version → List ℕ → Read
pending_read v line = read_as (is_operation v line) (operation_said line)
