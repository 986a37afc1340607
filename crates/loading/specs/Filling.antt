-- For the proofs of the code alone: what is read of lines that follow each other into lent arrays, as far as these have
-- slots, and how many there are.
use Rattle.std.specs.Prelude.{ℕ, suc, ◌+◌, ◌*◌, ◌≤◌, ◌≡◌, List, [], ◌∷◌, Option, Some, None, Bool, ◌&&◌, cond, leb, length, take, drop, set, Ok}
use Rattle.std.specs.Result.{result_unwrap_or}
use Rattle.lists.specs.Lists.{every}
use Rattle.lists.specs.Padding.{pad}
use Rattle.woot.specs.declared.Operation.{Operation}
use Rattle.woot.specs.declared.Replica.{Replica}
use Rattle.answers.specs.Answers.{first, decided}
use Rattle.lines.specs.Lines.{lines, closed, leading}
use Rattle.saved.specs.declared.Version.{Version}
use Rattle.saved.specs.declared.Rows.{Rows}
use Rattle.saved.specs.LoadAnswer.{LoadAnswer}
use Rattle.saved.specs.Format.{is_operation, head_line, row_lines}
use Rattle.saved.specs.Calls.{reading_checks}
use Rattle.saved.specs.Rows.{is_row, characters_held, pending_held}
use Rattle.woot.specs.State.{blank_operation}
use Rattle.woot.specs.Memory.{character_slots}
use Rattle.woot.specs.Table.{chains, table_links}
use Rattle.saved_lines.specs.Judging.{operation_read}
use Rattle.loading.specs.declared.filling.Front.{Front}
use Rattle.loading.specs.Reading.{row_passes, operation_passes}

-- ---- a slot

-- four numbers in slot i of four columns, m slots each
unfoldable pub set_in : ℕ → ℕ → ℕ → ℕ → ℕ → ℕ → List ℕ → List ℕ
set_in m i w x y z a = set (set (set (set a i w) (m + i) x) (2 * m + i) y) (3 * m + i) z

-- the same where there is such a slot
unfoldable pub kept_in : ℕ → ℕ → ℕ → ℕ → ℕ → ℕ → List ℕ → List ℕ
kept_in m i w x y z a = cond (leb m i) a (set_in m i w x y z a)

-- an item in slot i, where there is one
unfoldable pub kept_at : {A : Type 0} → ℕ → ℕ → A → List A → List A
kept_at m i x a = cond (leb m i) a (set a i x)

-- ---- lines

-- the rows at the front
abbrev pub rows_ahead : Rows → List ℕ → List (List ℕ)
rows_ahead k s = leading (is_row k) (lines s)

unfoldable pub front_read : Rows → List (List ℕ) → Front
front_read k ls = record { count = length ls; in_range = every (row_passes k) ls }

-- the offsets of lines that follow each other from an offset on, each with its line feed
abbrev pub starts_from : ℕ → List (List ℕ) → List ℕ
starts_from at [] = []
starts_from at (l ∷ ls) = at ∷ starts_from (at + suc (length l)) ls

-- an offset just past the first lines, so many of them
pub record Past (s : List ℕ) (at count : ℕ) : Type 0 where
  pub within : at ≤ length s
  pub others : lines (drop at s) ≡ drop count (lines s)
  pub shut : closed (drop at s) ≡ closed s

abbrev pub line_operation : Version → List ℕ → Operation
line_operation v line = result_unwrap_or (operation_read v line) blank_operation

unfoldable pub operations_laid : Version → List ℕ → Bool
operations_laid v s = closed s && every (is_operation v) (lines s)

-- with a line that lacks the layout, or bytes after the last line feed, nothing
unfoldable pub back_read : Version → List ℕ → Option Front
back_read v s =
    cond (operations_laid v s)
    (Some (record { count = length (lines s); in_range = every (operation_passes v) (lines s) }))
    None

-- ---- the whole

-- the offset of the first row, and from there those of the rows, in so many slots
pub record RowsNoted (k : Rows) (s : List ℕ) (body slots : ℕ) (starts : List ℕ) : Type 0 where
  pub first : body ≡ length (head_line s) + 1
  pub begins : starts ≡ pad slots 0 (take slots (starts_from 0 (row_lines (is_row k) s)))

-- the first of conditions 1 and 2 that holds decides
unfoldable pub read_answer : Version → List ℕ → LoadAnswer
read_answer v s = decided (λ a. a) (first (reading_checks v s)) (Ok tt)

-- the arrays of a replica that was just made: zeros, and a table of its sizes
pub record Blank (r : Replica) : Type 0 where
  pub characters : r.document.characters ≡ characters_held []
  pub toggles : r.document.toggles ≡ pad character_slots 0 []
  pub pending : r.document.pending ≡ pending_held []
  pub heads : length r.document.table.heads ≡ chains
  pub links : length r.document.table.links ≡ table_links
