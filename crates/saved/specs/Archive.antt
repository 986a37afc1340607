-- Archives as lines, and the two calls that make them of saved replicas and bring them back. (Document 02, Req 10:
-- "first the `S2` line and then `P` place laptop clock codepoint turn prevlaptop prevclock nextlaptop nextclock";
-- "Waiting lines follow as before".)
use Rattle.std.specs.Prelude.{ℕ, List, [], ◌∷◌, map, Bool, not, get_or, drop}
use Rattle.answers.specs.declared.Refusal.{Refusal}
use Rattle.answers.specs.declared.Refusal.TheVariants.{Layout}
use Rattle.answers.specs.Answers.{Check, ◌⇒◌}
use Rattle.woot.specs.Writing.{Written}
use Rattle.woot.specs.Limits.{capacity}
use Rattle.woot.specs.Writing.{refusing, written_as, output_after}
use Rattle.bulk.specs.Archiving.{Placed, Archive, archive_of, state_from, archive_checks, unarchive_checks}
use Rattle.lines.specs.Fields.{fields, has_layout, values_of, line_of}
use Rattle.saved.specs.declared.Version.TheVariants.{Second}
use Rattle.saved.specs.Format.{site_said, character_numbers, character_limits, character_of, operation_said, head_line}
use Rattle.saved.specs.Format.{row_lines, operation_lines, laid_out_with, bytes_with, saved_laid_out, saved_state}
use Rattle.saved.specs.Format.{saved_in_range, saved_bytes}

-- ---- a row's line

-- `P`
abbrev pub placed_head : List ℕ
placed_head = 80 ∷ []

-- "place", and then what a saved replica's line has
unfoldable pub placed_numbers : Placed → List ℕ
placed_numbers p = p.place ∷ character_numbers Second p.character

-- the limits of those numbers
abbrev pub placed_limits : List ℕ
placed_limits = capacity ∷ character_limits Second

-- what those numbers say
unfoldable pub placed_of : List ℕ → Placed
placed_of ns = record { place = get_or ns 0 0; character = character_of Second (drop 1 ns) }

unfoldable pub is_placed : List ℕ → Bool
is_placed line = has_layout placed_head 9 (fields line)

unfoldable pub placed_said : List ℕ → Placed
placed_said line = placed_of (values_of (fields line))

unfoldable pub placed_line : Placed → List ℕ
placed_line p = line_of placed_head (placed_numbers p)

-- ---- the whole

abbrev pub archive_laid_out : List ℕ → Bool
archive_laid_out b = laid_out_with Second is_placed b

-- what bytes with the layout say, however large the numbers
unfoldable pub archive_said : List ℕ → Archive
archive_said b =
    record {
      site = site_said (head_line b);
      rows = map placed_said (row_lines is_placed b);
      pending = map operation_said (operation_lines is_placed b);
    }

-- the bytes of an archive
abbrev pub archive_bytes : Archive → List ℕ
archive_bytes a = bytes_with Second placed_line a.site a.rows a.pending

-- ---- the calls

-- the archive of a saved replica; the clock is as it was read, and not raised
unfoldable pub archiving : List ℕ → List ℕ
archiving s = archive_bytes (archive_of (saved_state s))

-- conditions 1, 2 and 3, each over all of the bytes; 12 comes after them
unfoldable pub archiving_refusals : List ℕ → List (Check Refusal)
archiving_refusals s = (not (saved_laid_out s) ⇒ Layout) ∷ archive_checks (saved_in_range s) (saved_state s)

unfoldable pub archiving_checks : List ℕ → List (Check Written)
archiving_checks s = refusing (archiving_refusals s)

-- the number of bytes, or a refusal
unfoldable pub archive_written : List ℕ → List ℕ → Written
archive_written s out = written_as (archiving_checks s) (archiving s) out

-- every byte of the slice afterwards
unfoldable pub archive_out : List ℕ → List ℕ → List ℕ
archive_out s out = output_after (archiving_checks s) (archiving s) out

-- the saved replica of an archive
unfoldable pub unarchiving : List ℕ → List ℕ
unarchiving b = saved_bytes (state_from (archive_said b))

-- conditions 1, 2, 19 and 3; 12 comes after them
unfoldable pub unarchiving_refusals : List ℕ → List (Check Refusal)
unarchiving_refusals b = (not (archive_laid_out b) ⇒ Layout) ∷ unarchive_checks (archive_said b)

unfoldable pub unarchiving_checks : List ℕ → List (Check Written)
unarchiving_checks b = refusing (unarchiving_refusals b)

unfoldable pub unarchive_written : List ℕ → List ℕ → Written
unarchive_written b out = written_as (unarchiving_checks b) (unarchiving b) out

unfoldable pub unarchive_out : List ℕ → List ℕ → List ℕ
unarchive_out b out = output_after (unarchiving_checks b) (unarchiving b) out
