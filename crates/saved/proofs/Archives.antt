-- Archives as bytes: the bytes say an archive and no other, so both trips are those of the states that they say.
use Rattle.std.proofs.Common.{Err}
use Prim.Native.Nat.{ℕ}
use native.Mathlib.Omega.{arith}
use mathlib.Core.Path.{◌≡◌, refl, sym, ap, ◌∙◌}
use mathlib.Core.Bool.{Bool, true, false}
use mathlib.Core.Logic.{◌↔◌, ◌⊎◌, inl, inr, ⊎_elim}
use mathlib.Core.Option.{some}
use mathlib.Core.List.{List, [], ◌∷◌}
use lib.ListN.{length, length-map, get_or, drop}
use borrow.Author.Tests.{eqb-false, not-true}
use Rattle.lists.specs.Lists.{every}
use Rattle.lists.proofs.Tests.{and_left_lem, and_intro, clash, fails, or_cases}
use Rattle.answers.specs.declared.Refusal.{Refusal}
use Rattle.answers.specs.declared.Refusal.TheVariants.{Layout, Range, Misarranged, Form, Unrepresentable}
use Rattle.answers.specs.Answers.{first}
use Rattle.woot.specs.State.{State}
use Rattle.woot.specs.Form.{clock_kept, well_formed}
use Rattle.woot.specs.Writing.{written_as, output_after, writing_checks, written_number}
use Rattle.bulk.specs.Archiving.{Archive, archive_of, state_from, place_in_range, archive_in_range, places_kept, identifiers_rise, arranged, archive_checks}
use Rattle.bulk.specs.Archiving.{unarchive_checks}
use Rattle.convergence.specs.Archiving.{Distinct}
use Rattle.convergence.proofs.Archiving.{forth-arranged, places-bound, archive-in-range, archive_returns, unarchived-once}
use Rattle.convergence.proofs.Forms.{formed}
use Rattle.convergence.proofs.Soundness.{standing}
use Rattle.convergence.proofs.Writing.{own_first, own-none, writing_refuses}
use Rattle.lines.specs.Lines.{lines, leading, trailing}
use Rattle.lines.specs.Fields.{fields, has_layout}
use Rattle.lines.proofs.Spelling.{spelled, other-letter}
use Rattle.codec.specs.Operations.{is_insert, is_toggle}
use Rattle.codec.specs.Calls.{as_written}
use Rattle.saved.specs.declared.Version.TheVariants.{Second}
use Rattle.saved.specs.Format.{is_character, is_operation, row_lines, operation_lines, laid_out_with, saved_laid_out, saved_state, saved_in_range, saved_bytes}
use Rattle.saved.specs.Calls.{raising_as}
use Rattle.saved.specs.Archive.{is_placed, placed_said, placed_line, archive_laid_out, archive_said, archive_bytes, archiving, archiving_refusals}
use Rattle.saved.specs.Archive.{archiving_checks, archive_written, archive_out, unarchiving, unarchiving_refusals, unarchiving_checks}
use Rattle.saved.specs.Archive.{unarchive_written, unarchive_out}
use Rattle.saved.specs.Archives.{BackAfterArchive, ArchiveAfterBack, ArchiveReadsBack, ArchivesApart, ArchivingOrder, ArchivingRefuses}
use Rattle.saved.specs.Archives.{UnarchivingRefuses, ArchivingNumbers, UnarchivingNumbers, LowClockRefused, ManyRowsRefused}
use Rattle.saved.proofs.Spelling.{placed-numbered}
use Rattle.saved.proofs.Trips.{every-always, parts, written_laid, site-back, rows_back, pending-back, again, formed_clock, saved_laid}
use Rattle.saved.proofs.Trips.{in_range-back, says_back, says-saved, second-says}
use Rattle.saved.proofs.Refusals.{file_some, bytes-some}
use Rattle.saved.proofs.Numbers.{by-four}

-- ---- what is written, read, and what is read, written

module _ (a : Archive) where
  archive_laid : archive_laid_out (archive_bytes a) ≡ true
  unfolding is_placed placed_line
  archive_laid = written_laid Second placed-numbered refl a.site a.rows a.pending

  archive-says : archive_said (archive_bytes a) ≡ a
  unfolding archive_said is_placed placed_said placed_line
  archive-says =
      λ j. record {
        site = site-back Second placed-numbered refl a.site a.rows a.pending j;
        rows = rows_back Second placed-numbered refl a.site a.rows a.pending j;
        pending = pending-back Second placed-numbered refl a.site a.rows a.pending (every-always a.pending) j;
      }

says_archive : (b : List ℕ) → archive_laid_out b ≡ true → archive_bytes (archive_said b) ≡ b
unfolding archive_said is_placed placed_said placed_line
says_archive b l = again Second placed-numbered refl b l

pub archive_reads-back : ArchiveReadsBack
archive_reads-back = (λ a. (archive_laid a, archive-says a), says_archive)

-- ---- the trips

pub back-after_archive : BackAfterArchive
unfolding archiving unarchiving archive_of
back-after_archive s a =
    let t = saved_state s in
    let e : archive_said (archiving s) ≡ archive_of t = archive-says (archive_of t) in
    let back : state_from (archive_said (archiving s)) ≡ t = ap state_from e ∙ archive_returns t in
    let d : Distinct t.characters = (standing (formed t a.2).sound).apart in (
      (
        archive_laid (archive_of t),
        ap archive_in_range e ∙ archive-in-range t a.2,
        ap (λ (x : Archive). arranged x.rows) e ∙ (forth-arranged t.characters).1 d,
        ap well_formed back ∙ a.2,
      ),
      ap saved_bytes back ∙ says-saved Second s a.0,
    )

pub archive_after-back : ArchiveAfterBack
unfolding archiving unarchiving unarchive_checks
archive_after-back b c =
    let x = archive_said b in
    let t = state_from x in
    let e : saved_state (unarchiving b) ≡ t = says_back Second t c.3 (second-says t) in
    let once = unarchived-once x (rw (c.1, c.2, c.3) refl) in (
      (saved_laid Second t, in_range-back Second t c.3 (second-says t), ap well_formed e ∙ c.3),
      ap (λ (y : State). archive_bytes (archive_of y)) e ∙ ap archive_bytes once.0 ∙ says_archive b c.0,
      λ s k g. sym (back-after_archive s k).1 ∙ ap unarchiving g,
    )

-- ---- told apart from saved replicas

-- a line that begins with one letter is none that begins with another
letters_apart : (one other : ℕ) (m n : ℕ) (line : List ℕ) → (one ≡ other → ⊥) → has_layout (one ∷ []) m (fields line) ≡ true
    → has_layout (other ∷ []) n (fields line) ≡ false
letters_apart one other m n line h e =
    other-letter other n line (λ k. h (sym (ap (λ (l : List ℕ). get_or l 0 0) (spelled (one ∷ []) m line e).0) ∙ k))

-- so a pending operation's line is no row
no_row : (letter count : ℕ) → (73 ≡ letter → ⊥) → (69 ≡ letter → ⊥) → (line : List ℕ) → is_operation Second line ≡ true
    → has_layout (letter ∷ []) count (fields line) ≡ false
unfolding is_operation as_written is_insert is_toggle
no_row letter count i t line o = ⊎_elim (letters_apart 73 letter 7 count line i) (letters_apart 69 letter 4 count line t) (or_cases _ _ o)

-- rows of one kind, then operations: those are rows of another kind and then operations where there are none of the first
module _ (p q : List ℕ → Bool) (no-p : (l : List ℕ) → is_operation Second l ≡ true → p l ≡ false)
    (no-q : (l : List ℕ) → is_operation Second l ≡ true → q l ≡ false)
    (apart : (l : List ℕ) → p l ≡ true → q l ≡ false) where
  lines-apart : (ls : List (List ℕ)) → every (is_operation Second) (trailing p ls) ≡ true
      → (every (is_operation Second) (trailing q ls) ≡ true) ↔ (leading p ls ≡ [])
  lines-apart [] h = (λ k. refl, λ k. refl)
  lines-apart (l ∷ ls) h = go (p l) refl
    where
      first_one : every (is_operation Second) (l ∷ ls) ≡ true → is_operation Second l ≡ true
      first_one = and_left_lem (is_operation Second l) (every (is_operation Second) ls)

      go : (b : Bool) → p l ≡ b → (every (is_operation Second) (trailing q (l ∷ ls)) ≡ true) ↔ (leading p (l ∷ ls) ≡ [])
      go true e = (λ k. clash e (no-p l (first_one (rw (apart l e) at k))), λ k. absurd (omega (arith, ap length (rw e at k))))
      go false e =
          let all : every (is_operation Second) (l ∷ ls) ≡ true = rw e at h in
          (λ k. rw e, λ k. rw (no-q l (first_one all)) all)

  files_apart : (s : List ℕ) → laid_out_with Second p s ≡ true → (laid_out_with Second q s ≡ true) ↔ (row_lines p s ≡ [])
  unfolding laid_out_with row_lines operation_lines
  files_apart s l =
      let w = parts Second p s l in
      let e = lines-apart (drop 1 (lines s)) w.2 in
      (λ k. e.0 (parts Second q s k).2, λ k. and_intro (and_intro w.0 w.1) (e.1 k))

pub archives_apart : ArchivesApart
unfolding is_character is_placed
archives_apart =
    let no-character = no_row 67 8 (eqb-false 73 67 refl) (eqb-false 69 67 refl) in
    let no-placed = no_row 80 9 (eqb-false 73 80 refl) (eqb-false 69 80 refl) in (
      files_apart is_character is_placed no-character no-placed (λ l. letters_apart 67 80 8 9 l (eqb-false 67 80 refl)),
      files_apart is_placed is_character no-placed no-character (λ l. letters_apart 80 67 9 8 l (eqb-false 80 67 refl)),
    )

-- ---- refusals

pub archiving-order : ArchivingOrder
unfolding archiving_refusals archive_checks unarchiving_refusals unarchive_checks
archiving-order s = (refl, refl, refl, refl)

pub archiving_refuses : ArchivingRefuses
unfolding archive_written archive_out
archiving_refuses s out q = let x = writing_refuses (archiving_checks s) (archiving s) out q in (x.0, x.2)

pub unarchiving_refuses : UnarchivingRefuses
unfolding unarchive_written unarchive_out
unarchiving_refuses b out q = let x = writing_refuses (unarchiving_checks b) (unarchiving b) out q in (x.0, x.2)

-- as the code goes through the conditions of archiving
module _ (s out : List ℕ) where
  module _ (q : Refusal) (e : first (archiving_checks s) ≡ some (Err q)) where
    turned : (Err q ≡ archive_written s out) × (out ≡ archive_out s out)
    unfolding archive_written archive_out
    turned = let x = own_first (archiving_checks s) (Err q) (archiving s) out e in (sym x.0, sym x.1)

  pub archive_layout : saved_laid_out s ≡ false → (Err Layout ≡ archive_written s out) × (out ≡ archive_out s out)
  unfolding archiving_checks archiving_refusals
  archive_layout l = turned Layout (rw l)

  module _ (l : saved_laid_out s ≡ true) where
    pub archive_range : saved_in_range s ≡ false → (Err Range ≡ archive_written s out) × (out ≡ archive_out s out)
    unfolding archiving_checks archiving_refusals archive_checks
    archive_range i = turned Range (rw (l, i))

    module _ (i : saved_in_range s ≡ true) where
      pub archive_form : well_formed (saved_state s) ≡ false → (Err Form ≡ archive_written s out) × (out ≡ archive_out s out)
      unfolding archiving_checks archiving_refusals archive_checks
      archive_form f = turned Form (rw (l, i, f))

      pub archive_writes : well_formed (saved_state s) ≡ true
          → (written_as [] (archive_bytes (archive_of (saved_state s))) out ≡ archive_written s out)
          × (output_after [] (archive_bytes (archive_of (saved_state s))) out ≡ archive_out s out)
      unfolding archiving_checks archiving_refusals archive_checks archiving archive_written archive_out
      archive_writes f = own-none (archiving_checks s) (archiving s) out (rw (l, i, f))

-- and of the way back
module _ (b out : List ℕ) where
  module _ (q : Refusal) (e : first (unarchiving_checks b) ≡ some (Err q)) where
    turned-back : (Err q ≡ unarchive_written b out) × (out ≡ unarchive_out b out)
    unfolding unarchive_written unarchive_out
    turned-back = let x = own_first (unarchiving_checks b) (Err q) (unarchiving b) out e in (sym x.0, sym x.1)

  pub unarchive_layout : archive_laid_out b ≡ false → (Err Layout ≡ unarchive_written b out) × (out ≡ unarchive_out b out)
  unfolding unarchiving_checks unarchiving_refusals
  unarchive_layout l = turned-back Layout (rw l)

  module _ (l : archive_laid_out b ≡ true) where
    pub unarchive_range : archive_in_range (archive_said b) ≡ false → (Err Range ≡ unarchive_written b out) × (out ≡ unarchive_out b out)
    unfolding unarchiving_checks unarchiving_refusals unarchive_checks
    unarchive_range i = turned-back Range (rw (l, i))

    module _ (i : archive_in_range (archive_said b) ≡ true) where
      pub unarchive_misarranged : arranged (archive_said b).rows ≡ false → (Err Misarranged ≡ unarchive_written b out) × (out ≡ unarchive_out b out)
      unfolding unarchiving_checks unarchiving_refusals unarchive_checks
      unarchive_misarranged m = turned-back Misarranged (rw (l, i, m))

      module _ (m : arranged (archive_said b).rows ≡ true) where
        pub unarchive_form : well_formed (state_from (archive_said b)) ≡ false → (Err Form ≡ unarchive_written b out) × (out ≡ unarchive_out b out)
        unfolding unarchiving_checks unarchiving_refusals unarchive_checks
        unarchive_form f = turned-back Form (rw (l, i, m, f))

        pub unarchive_writes : well_formed (state_from (archive_said b)) ≡ true
            → (written_as [] (saved_bytes (state_from (archive_said b))) out ≡ unarchive_written b out)
            × (output_after [] (saved_bytes (state_from (archive_said b))) out ≡ unarchive_out b out)
        unfolding unarchiving_checks unarchiving_refusals unarchive_checks unarchiving unarchive_written unarchive_out
        unarchive_writes f = own-none (unarchiving_checks b) (unarchiving b) out (rw (l, i, m, f))

-- ---- by number

-- with no fourth test
three_tests : {X A B C P : Type 0} → (X ↔ ((A × B × C × (true ≡ true)) × P)) → X ↔ ((A × B × C) × P)
three_tests e = (
  λ x. let p = e.0 x in ((p.0.0, p.0.1, p.0.2), p.1),
  λ p. e.1 ((p.0.0, p.0.1, p.0.2, refl), p.1),
)

pub archiving_numbers : ArchivingNumbers
unfolding archive_written archiving_checks archiving_refusals archive_checks archiving written_as writing_checks
archiving_numbers s out =
    let a = archive_of (saved_state s) in
    let x = by-four (archive_bytes a) out (file_some Second placed_line a.site a.rows a.pending)
    Layout Range Form Unrepresentable (omega arith) (omega arith) (omega arith) (omega arith)
    (saved_laid_out s) (saved_in_range s) (well_formed (saved_state s)) true in
    (x.0, x.1, x.2, three_tests x.4, three_tests x.5, three_tests x.6)

pub unarchiving_numbers : UnarchivingNumbers
unfolding unarchive_written unarchiving_checks unarchiving_refusals unarchive_checks unarchiving
unarchiving_numbers b out =
    let a = archive_said b in
    by-four (saved_bytes (state_from a)) out (bytes-some Second (state_from a))
    Layout Range Misarranged Form (omega arith) (omega arith) (omega arith) (omega arith)
    (archive_laid_out b) (archive_in_range a) (arranged a.rows) (well_formed (state_from a))

unkept_formless : (s : State) → clock_kept s ≡ false → well_formed s ≡ false
unkept_formless s e = fails (well_formed s) (λ h. clash (formed_clock s h) e)

pub low_clock_refused : LowClockRefused
unfolding raising_as
low_clock_refused = (
  λ s out l i n. (archiving_numbers s out).2.1 (l, i, unkept_formless (saved_state s) (not-true (clock_kept (saved_state s)) n)),
  λ b out l i m n. (unarchiving_numbers b out).3.1 (l, i, m, unkept_formless (state_from (archive_said b)) n),
)

pub many_rows-refused : ManyRowsRefused
unfolding archive_said archive_in_range arranged
many_rows-refused b out many = go (archive_laid_out b) (archive_in_range (archive_said b)) (arranged (archive_said b).rows) refl refl refl
  where
    go : (l i m : Bool) → archive_laid_out b ≡ l → archive_in_range (archive_said b) ≡ i → arranged (archive_said b).rows ≡ m
        → (written_number (unarchive_written b out) ≡ 1) ⊎ ((written_number (unarchive_written b out) ≡ 2) ⊎ (written_number (unarchive_written b out) ≡ 19))
    go false i m p q r = inl ((unarchiving_numbers b out).0.1 p)
    go true false m p q r = inr (inl ((unarchiving_numbers b out).1.1 (p, q)))
    go true true false p q r = inr (inr ((unarchiving_numbers b out).2.1 (p, q, r)))
    go true true true p q r =
        let rows = (archive_said b).rows in
        let few = places-bound rows (and_left_lem (every place_in_range rows) _ q) (and_left_lem (places_kept rows) (identifiers_rise rows) r) in
        absurd (omega (arith, many, few, length-map (row_lines is_placed b) placed_said))
