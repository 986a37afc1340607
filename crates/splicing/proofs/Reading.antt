-- The rows of a saved replica that was read: the bytes after its first line are theirs, and each begins where it was noted.
use mathlib.Core.Path.{◌≡◌, refl, sym, ap, ap₂, ◌∙◌}
use mathlib.Core.List.{List, [], ◌∷◌, ◌++◌, map, append-nil}
use mathlib.Core.Bool.{Bool, true, ◌&&◌}
use Prim.Native.Nat.{ℕ, zero, suc, ◌+◌, ◌-◌, ◌<◌, ◌≤◌}
use native.Mathlib.Omega.{arith}
use lib.ListN.{length, take, drop, get_or, replicate, length-append, length-map, length-take, get_or-append}
use lib.Seq.{take_all, drop_at}
use Rattle.lists.specs.Lists.{every}
use Rattle.lists.specs.Padding.{pad}
use Rattle.lists.proofs.Tests.{and_left_lem, and_right}
use Rattle.lists.proofs.Indices.{take-map}
use Rattle.lists.proofs.Padding.{pad-length}
use Rattle.lines.specs.Lines.{lines, closed, leading, concatenated}
use Rattle.lines.specs.Fields.{fields}
use Rattle.lines.proofs.Lines.{whole}
use Rattle.lines.proofs.Fronts.{part_from, part-is}
use Rattle.woot.specs.declared.Character.{Character}
use Rattle.saved.specs.declared.Version.TheVariants.{Second}
use Rattle.saved.specs.declared.Rows.TheVariants.{Saved}
use Rattle.saved.specs.Format.{site_line, site_said, is_site, head_line, is_character, character_said, character_line, row_lines, operation_lines}
use Rattle.saved.specs.Format.{is_operation, saved_line, laid_out_as, laid_out_with, bytes_with, state_as}
use Rattle.saved.specs.Rows.{is_row}
use Rattle.saved.proofs.Spelling.{written-again, site-numbered, character-numbered}
use Rattle.saved.proofs.Trips.{every-leading, says-saved}
use Rattle.loading.specs.Filling.{starts_from, RowsNoted}
use Rattle.splicing.specs.Splicing.{row_bytes, Spelled}

-- a row's line, with its line feed
row-again : (line : List ℕ) → is_character line ≡ true → character_line Second (character_said Second line) ≡ whole line
unfolding is_character character_line character_said
row-again line h = written-again (character-numbered Second) line h

-- as many bytes as the lines have, each with its line feed
rows-again : (ls : List (List ℕ)) → every is_character ls ≡ true → row_bytes (map (character_said Second) ls) ≡ concatenated whole ls
rows-again [] e = refl
rows-again (l ∷ ls) e =
    ap₂ (λ (a b : List ℕ). a ++ b) (row-again l (and_left_lem (is_character l) (every is_character ls) e))
    (rows-again ls (and_right (is_character l) (every is_character ls) e))

every-taken : (i : ℕ) (ls : List (List ℕ)) → every is_character ls ≡ true → every is_character (take i ls) ≡ true
every-taken zero ls e = refl
every-taken (suc i) [] e = refl
every-taken (suc i) (l ∷ ls) e =
    rw (and_left_lem (is_character l) (every is_character ls) e) (every-taken i ls (and_right (is_character l) (every is_character ls) e))

-- where a line begins
begins-at : (at : ℕ) (ls : List (List ℕ)) (i : ℕ) → i < length ls → get_or (starts_from at ls) i 0 ≡ at + length (concatenated whole (take i ls))
begins-at at [] i h = absurd (omega arith)
begins-at at (l ∷ ls) zero h = omega arith
begins-at at (l ∷ ls) (suc i) h =
    begins-at (at + suc (length l)) ls i (omega arith)
    ∙ omega (arith, length-append (whole l) (concatenated whole (take i ls)), length-append l (10 ∷ []))

nothing-more : (n : ℕ) → 0 + n ≡ n
nothing-more n = omega arith

starts_many : (at : ℕ) (ls : List (List ℕ)) → length (starts_from at ls) ≡ length ls
starts_many at [] = refl
starts_many at (l ∷ ls) = ap suc (starts_many (at + suc (length l)) ls)

no_lines : {A : Type 0} (f : List ℕ → A) (ls : List (List ℕ)) → map f ls ≡ [] → ls ≡ []
no_lines f [] e = refl
no_lines f (l ∷ ls) e = cc

module _ (s : List ℕ) (l : laid_out_as Second s ≡ true) (still : (state_as Second s).pending ≡ []) where
  abbrev rows : List (List ℕ)
  rows = row_lines is_character s

  abbrev characters : List Character
  characters = (state_as Second s).characters

  site-again : site_line Second (site_said (head_line s)) ≡ whole (head_line s)
  unfolding site_line site_said is_site laid_out_with
  site-again =
      written-again (site-numbered Second) (head_line s)
      (and_right (closed s) (is_site Second (head_line s))
      (and_left_lem (closed s && is_site Second (head_line s)) (every (is_operation Second) (operation_lines is_character s)) l))

  rows_laid : every is_character rows ≡ true
  unfolding row_lines
  rows_laid = every-leading is_character (drop 1 (lines s))

  front-and-rows : s ≡ whole (head_line s) ++ row_bytes characters
  unfolding bytes_with state_as
  front-and-rows =
      sym (says-saved Second s l)
      ∙ rw (still, site-again) (append-nil (whole (head_line s) ++ row_bytes (map (character_said Second) rows)))

  module _ {body : ℕ} {starts : List ℕ} (b : RowsNoted (Saved Second) s body 1024 starts) (few : length rows ≤ 1024) where
    body_is : part_from s body ≡ row_bytes characters
    body_is =
        part-is s body
        ∙ ap (drop body) front-and-rows
        ∙ drop_at (whole (head_line s)) (row_bytes characters) body (length-append (head_line s) (10 ∷ []) ∙ sym b.first)

    begins-is : (i : ℕ) → i < length characters → get_or starts i 0 ≡ length (row_bytes (take i characters))
    unfolding state_as pad is_row
    begins-is i h =
        let within : i < length rows = omega (arith, length-map rows (character_said Second)) in
        let short : length (starts_from 0 rows) ≤ 1024 = omega (arith, starts_many 0 rows) in
        ap (λ (xs : List ℕ). get_or xs i 0) (b.begins ∙ ap (pad 1024 0) (take_all 1024 (starts_from 0 rows) short))
        ∙ get_or-append (starts_from 0 rows) (replicate (1024 - length (starts_from 0 rows)) 0) 0 i (omega (arith, starts_many 0 rows))
        ∙ begins-at 0 rows i within
        ∙ nothing-more (length (concatenated whole (take i rows)))
        ∙ ap length (sym (ap row_bytes (take-map (character_said Second) i rows) ∙ rows-again (take i rows) (every-taken i rows rows_laid)))

    pub spelled-saved : Spelled (part_from s body) starts characters
    unfolding state_as is_row
    spelled-saved = record {
      bytes = body_is;
      slots =
          omega (
            arith,
            length-map rows (character_said Second),
            ap length b.begins,
            pad-length 1024 0 (take 1024 (starts_from 0 rows)) (omega (arith, length-take 1024 (starts_from 0 rows))),
          );
      begins = begins-is;
    }
