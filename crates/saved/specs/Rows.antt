-- For the proofs of the code alone: a file with rows of either kind, read and written by the same loops. A row of a
-- saved replica has the place 0 here.
use Rattle.std.specs.Prelude.{ℕ, List, [], ◌∷◌, map, Bool, ◌&&◌, not, ◌≡◌, length, take, Ok, Err}
use Rattle.lists.specs.Lists.{every}
use Rattle.lists.specs.Padding.{pad}
use Rattle.answers.specs.declared.Refusal.TheVariants.{Layout, Range}
use Rattle.answers.specs.Answers.{Check, ◌⇒◌, first, decided}
use Rattle.woot.specs.declared.Site.{Site}
use Rattle.woot.specs.declared.Character.{Character}
use Rattle.woot.specs.declared.Operation.{Operation}
use Rattle.woot.specs.Memory.{character_slots, pending_slots, in_columns, previous_keys, next_keys, code_points_of, toggle_counts}
use Rattle.woot.specs.Memory.{own_key, first_key, second_key, value_of}
use Rattle.woot.specs.Table.{keys}
use Rattle.woot.specs.Form.{all_in_range}
use Rattle.bulk.specs.Archiving.{Placed, Archive, places_of, characters_of, place_in_range}
use Rattle.saved.specs.declared.Version.{Version}
use Rattle.saved.specs.declared.Version.TheVariants.{Second}
use Rattle.saved.specs.LoadAnswer.{LoadAnswer}
use Rattle.saved.specs.declared.Rows.{Rows}
use Rattle.saved.specs.declared.Rows.TheVariants.{Saved, Archived}
use Rattle.saved.specs.Format.{site_said, head_line, is_character, character_said, character_line, character_within}
use Rattle.saved.specs.Format.{operation_said, row_lines, operation_lines, laid_out_with}
use Rattle.saved.specs.Archive.{is_placed, placed_said, placed_line}

-- ---- a kind of rows

-- the form of the lines beside them
unfoldable pub version_of : Rows → Version
version_of (Saved v) = v
version_of Archived = Second

unfoldable pub is_row : Rows → List ℕ → Bool
is_row (Saved v) line = is_character line
is_row Archived line = is_placed line

unfoldable pub row_said : Rows → List ℕ → Placed
row_said (Saved v) line = record { place = 0; character = character_said v line }
row_said Archived line = placed_said line

unfoldable pub row_line : Rows → Placed → List ℕ
row_line (Saved v) p = character_line v p.character
row_line Archived p = placed_line p

-- what refusal 2 asks of a row beside the ranges of its character
unfoldable pub row_within : Rows → Placed → Bool
row_within (Saved v) p = character_within v p.character
row_within Archived p = place_in_range p

-- ---- what is read

unfoldable pub rows_said : Rows → List ℕ → Archive
rows_said k s =
    record {
      site = site_said (head_line s);
      rows = map (row_said k) (row_lines (is_row k) s);
      pending = map operation_said (operation_lines (is_row k) s);
    }

unfoldable pub rows_laid_out : Rows → List ℕ → Bool
rows_laid_out k s = laid_out_with (version_of k) (is_row k) s

unfoldable pub rows_in_range : Rows → List ℕ → Bool
rows_in_range k s =
    let a : Archive = rows_said k s in
    every (row_within k) a.rows
    && all_in_range (record { site = a.site; characters = characters_of a.rows; pending = a.pending })

-- the first of conditions 1 and 2 that holds decides
unfoldable pub rows_checks : Rows → List ℕ → List (Check LoadAnswer)
rows_checks k s = (not (rows_laid_out k s) ⇒ Err Layout) ∷ (not (rows_in_range k s) ⇒ Err Range) ∷ []

unfoldable pub rows_answer : Rows → List ℕ → LoadAnswer
rows_answer k s = decided (λ a. a) (first (rows_checks k s)) (Ok tt)

-- ---- lent arrays

-- characters and operations in their columns
unfoldable pub characters_held : List Character → List ℕ
characters_held cs = in_columns character_slots (keys cs) (previous_keys cs) (next_keys cs) (code_points_of cs)

unfoldable pub pending_held : List Operation → List ℕ
pending_held ps = in_columns pending_slots (map own_key ps) (map first_key ps) (map second_key ps) (map value_of ps)

-- the arrays hold what was read, as far as they have slots; the counts are of all of it
pub record Held (a : Archive) (site : Site) (places characters toggles : List ℕ) (n : ℕ) (pending : List ℕ) (w : ℕ)
    : Type 0 where
  pub site-held : site ≡ a.site
  pub places-held : places ≡ pad (length places) 0 (take (length places) (places_of a.rows))
  pub characters-held : characters ≡ characters_held (take character_slots (characters_of a.rows))
  pub toggles-held : toggles ≡ pad character_slots 0 (toggle_counts (take character_slots (characters_of a.rows)))
  pub rows-counted : n ≡ length a.rows
  pub pending-held : pending ≡ pending_held (take pending_slots a.pending)
  pub pending-counted : w ≡ length a.pending
