-- A file with rows of either kind is a saved replica with its `C` lines, or an archive with its `P` lines.
use Rattle.std.proofs.Common.{Ok, Err}
use Prim.Native.Nat.{ℕ}
use mathlib.Core.Path.{◌≡◌, refl, sym, ap, ap₂, ◌∙◌}
use mathlib.Core.List.{List, [], ◌∷◌, map-map}
use mathlib.Core.Bool.{Bool, ◌&&◌, not}
use Rattle.lists.specs.Lists.{every}
use Rattle.lists.proofs.Indices.{every_map}
use Rattle.answers.specs.declared.Refusal.TheVariants.{Layout, Range}
use Rattle.answers.specs.Answers.{◌⇒◌, first, decided}
use Rattle.woot.specs.State.{State}
use Rattle.woot.specs.Form.{all_in_range}
use Rattle.bulk.specs.Archiving.{Placed, characters_of, archive_in_range}
use Rattle.saved.specs.declared.Version.{Version}
use Rattle.saved.specs.LoadAnswer.{LoadAnswer}
use Rattle.saved.specs.declared.Rows.TheVariants.{Saved, Archived}
use Rattle.saved.specs.Format.{is_character, row_lines, laid_out_as, state_as, character_within, in_range_as}
use Rattle.saved.specs.Calls.{reading_checks}
use Rattle.saved.specs.Archive.{archive_laid_out, archive_said}
use Rattle.saved.specs.Rows.{version_of, is_row, row_said, row_within, rows_said, rows_laid_out, rows_in_range, rows_checks, rows_answer}

-- ---- a saved replica in one of its forms

module _ (v : Version) (s : List ℕ) where
  pub saved-laid-out : rows_laid_out (Saved v) s ≡ laid_out_as v s
  unfolding rows_laid_out version_of is_row
  saved-laid-out = refl

  pub saved-site : (rows_said (Saved v) s).site ≡ (state_as v s).site
  unfolding rows_said state_as
  saved-site = refl

  pub saved-characters : characters_of (rows_said (Saved v) s).rows ≡ (state_as v s).characters
  unfolding rows_said is_row row_said state_as
  saved-characters = map-map (λ (p : Placed). p.character) (row_said (Saved v)) (row_lines is_character s)

  pub saved-pending : (rows_said (Saved v) s).pending ≡ (state_as v s).pending
  unfolding rows_said is_row state_as
  saved-pending = refl

  -- the three together
  pub saved-state :
      ◌≡◌ {A = State}
      (record { site = (rows_said (Saved v) s).site; characters = characters_of (rows_said (Saved v) s).rows; pending = (rows_said (Saved v) s).pending })
      (state_as v s)
  saved-state = λ i. record { site = saved-site i; characters = saved-characters i; pending = saved-pending i }

  pub saved-in-range : rows_in_range (Saved v) s ≡ in_range_as v s
  unfolding rows_in_range row_within in_range_as
  saved-in-range =
      let rows = (rows_said (Saved v) s).rows in
      ap₂ (λ (a b : Bool). a && b)
      (sym (every_map (λ (p : Placed). p.character) (character_within v) rows) ∙ ap (every (character_within v)) saved-characters)
      (ap all_in_range saved-state)

  pub saved_checks : rows_checks (Saved v) s ≡ reading_checks v s
  unfolding rows_checks reading_checks
  saved_checks =
      λ i. (not (saved-laid-out i) ⇒ Err Layout) ∷ (not (saved-in-range i) ⇒ Err Range) ∷ []

  -- the first of conditions 1 and 2 that holds decides
  pub saved-answer : rows_answer (Saved v) s ≡ decided (λ a. a) (first (reading_checks v s)) (Ok tt)
  unfolding rows_answer
  saved-answer = ap (λ cs. decided (λ (a : LoadAnswer). a) (first cs) (Ok tt)) saved_checks

-- ---- an archive

module _ (b : List ℕ) where
  pub archived_laid_out : rows_laid_out Archived b ≡ archive_laid_out b
  unfolding rows_laid_out version_of is_row
  archived_laid_out = refl

  pub archived_said : rows_said Archived b ≡ archive_said b
  unfolding rows_said is_row row_said archive_said
  archived_said = refl

  pub archived_in_range : rows_in_range Archived b ≡ archive_in_range (archive_said b)
  unfolding rows_in_range rows_said is_row row_said row_within archive_in_range archive_said
  archived_in_range = refl
