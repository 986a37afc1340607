-- What was read decides: a refusal is that of the call, and else the arrays hold what the bytes say.
use Rattle.std.proofs.Common.{Err, Ok}
use Prim.Native.Nat.{ℕ}
use native.Mathlib.Omega.{arith}
use mathlib.Core.Path.{◌≡◌, refl, sym, ap, ◌∙◌, subst}
use mathlib.Core.Bool.{Bool, true, false}
use mathlib.Core.List.Memᴰ
use mathlib.Core.List.{List, []}
use mathlib.Core.Logic.{◌⊎◌, inl, inr, ⊎_elim}
use lib.ListN.{length, take, length-map}
use lib.Seq.{take_all}
use Rattle.lists.specs.Lists.{every}
use Rattle.lists.specs.Padding.{pad}
use Rattle.lists.specs.Sorting.{sorted_by}
use Rattle.lists.proofs.Members.{every_member, member_every}
use Rattle.lists.proofs.Padding.{pad-take}
use Rattle.lists.proofs.Sorting.{sorted_member}
use Rattle.lists.proofs.Tests.{either, and_left_lem, and_right, and_intro, three}
use Rattle.answers.specs.declared.Refusal.{Refusal}
use Rattle.answers.specs.declared.Refusal.TheVariants.{Layout, Range, Misarranged}
use Rattle.answers.specs.Answers.{decided}
use Rattle.woot.specs.declared.Site.{Site}
use Rattle.woot.specs.declared.Character.{Character}
use Rattle.woot.specs.Writing.{Written}
use Rattle.woot.specs.Form.{all_in_range, well_formed}
use Rattle.woot.specs.Memory.{character_slots}
use Rattle.woot.specs.Ranges.{site_in_range, character_in_range, in_range}
use Rattle.woot.specs.State.{State}
use Rattle.woot.specs.Writing.{written_as, output_after}
use Rattle.bulk.specs.Archiving.{Placed, Archive, places_of, characters_of, by_place, unarchived, state_from, place_in_range, archive_in_range, arranged}
use Rattle.saved.specs.declared.Rows.{Rows}
use Rattle.saved.specs.declared.Rows.TheVariants.{Saved, Archived}
use Rattle.saved.specs.declared.Version.TheVariants.{Second}
use Rattle.saved.specs.Format.{character_within, in_range_as, saved_laid_out, saved_state, saved_in_range, saved_bytes}
use Rattle.saved.specs.Archive.{archive_laid_out, archive_said, archive_written, archive_out, unarchive_written, unarchive_out}
use Rattle.saved.specs.Rows.{rows_said, rows_laid_out, rows_in_range, rows_checks, rows_answer, Held}
use Rattle.saved.proofs.Archives.{archive_layout, archive_range, unarchive_layout, unarchive_range, unarchive_misarranged, unarchive_form, unarchive_writes}
use Rattle.saved.proofs.EitherRows.{saved-laid-out, saved-state, saved-in-range, archived_laid_out, archived_said, archived_in_range}
use Rattle.saved.proofs.Refusals.{never_done}
use Rattle.arranging.specs.Order.{PlacedIn, characters_led}
use Rattle.archiving.specs.Holding.{StateHeld, led, Answered}
use Rattle.archiving.proofs.Holding.{keys-held}

-- ---- the answer

module _ (k : Rows) (b : List ℕ) where
  answer-layout : rows_laid_out k b ≡ false → rows_answer k b ≡ Err Layout
  unfolding rows_answer rows_checks decided
  answer-layout l = rw l

  answer-range : rows_laid_out k b ≡ true → rows_in_range k b ≡ false → rows_answer k b ≡ Err Range
  unfolding rows_answer rows_checks decided
  answer-range l i = rw (l, i)

  answer-done : rows_laid_out k b ≡ true → rows_in_range k b ≡ true → rows_answer k b ≡ Ok tt
  unfolding rows_answer rows_checks decided
  answer-done l i = rw (l, i)

  because : (q : Refusal) → rows_answer k b ≡ Err q
      → ((rows_laid_out k b ≡ false) × (q ≡ Layout)) ⊎ ((rows_laid_out k b ≡ true) × (rows_in_range k b ≡ false) × (q ≡ Range))
  because q h = go (rows_laid_out k b) (rows_in_range k b) refl refl
    where
      go : (c d : Bool) → rows_laid_out k b ≡ c → rows_in_range k b ≡ d
          → ((rows_laid_out k b ≡ false) × (q ≡ Layout)) ⊎ ((rows_laid_out k b ≡ true) × (rows_in_range k b ≡ false) × (q ≡ Range))
      go false d l i = let z : Err Layout ≡ Err q = sym (answer-layout l) ∙ h in inl (l, cc)
      go true false l i = let z : Err Range ≡ Err q = sym (answer-range l i) ∙ h in inr (l, i, cc)
      go true true l i = absurd (never_done q (sym (answer-done l i) ∙ h))

  both : rows_answer k b ≡ Ok tt → (rows_laid_out k b ≡ true) × (rows_in_range k b ≡ true)
  both h = go (rows_laid_out k b) (rows_in_range k b) refl refl
    where
      go : (c d : Bool) → rows_laid_out k b ≡ c → rows_in_range k b ≡ d → (rows_laid_out k b ≡ true) × (rows_in_range k b ≡ true)
      go false d l i = absurd (never_done Layout (sym h ∙ answer-layout l))
      go true false l i = absurd (never_done Range (sym h ∙ answer-range l i))
      go true true l i = (l, i)

-- ---- what the arrays hold

-- an archive's rows as they stand
abbrev pub as_read : Archive → State
as_read a = record { site = a.site; characters = characters_of a.rows; pending = a.pending }

held-read : (a : Archive) {site : Site} {places characters toggles : List ℕ} {n : ℕ} {pending : List ℕ} {w : ℕ}
    → Held a site places characters toggles n pending w → StateHeld (as_read a) site characters toggles n pending w
held-read a h =
    record {
      site-held = h.site-held;
      characters-held = h.characters-held;
      toggles-held = h.toggles-held;
      characters-counted = h.rows-counted ∙ sym (length-map a.rows (λ (p : Placed). p.character));
      pending-held = h.pending-held;
      pending-counted = h.pending-counted;
    }

-- ---- a saved replica

module _ (b out : List ℕ) where
  pub archive_unread : (q : Refusal) → rows_answer (Saved Second) b ≡ Err q → (Err q ≡ archive_written b out) × (out ≡ archive_out b out)
  archive_unread q h =
      ⊎_elim (λ r. rw r.1 (archive_layout b out (sym (saved-laid-out Second b) ∙ r.0)))
      (λ r. rw r.2 (archive_range b out (sym (saved-laid-out Second b) ∙ r.0) (sym (saved-in-range Second b) ∙ r.1)))
      (because (Saved Second) b q h)

  module _ (h : rows_answer (Saved Second) b ≡ Ok tt) where
    pub saved_laid : saved_laid_out b ≡ true
    saved_laid = sym (saved-laid-out Second b) ∙ (both (Saved Second) b h).0

    pub saved_ranges : saved_in_range b ≡ true
    saved_ranges = sym (saved-in-range Second b) ∙ (both (Saved Second) b h).1

    pub saved_ranged : all_in_range (saved_state b) ≡ true
    unfolding in_range_as
    saved_ranged = and_right (every (character_within Second) (saved_state b).characters) (all_in_range (saved_state b)) saved_ranges

    pub saved-held : {site : Site} {places characters toggles : List ℕ} {n : ℕ} {pending : List ℕ} {w : ℕ}
        → Held (rows_said (Saved Second) b) site places characters toggles n pending w → StateHeld (saved_state b) site characters toggles n pending w
    saved-held {site} {places} {characters} {toggles} {n} {pending} {w} g =
        subst (λ (s : State). StateHeld s site characters toggles n pending w) (saved-state Second b) (held-read (rows_said (Saved Second) b) g)

-- ---- an archive

-- where the ranges hold, the rows are as the check of places asks for them
placed-in : (a : Archive) {site : Site} {places characters toggles : List ℕ} {n : ℕ} {pending : List ℕ} {w : ℕ}
    → Held a site places characters toggles n pending w → length places ≡ character_slots → archive_in_range a ≡ true
    → PlacedIn a.rows characters places n
unfolding archive_in_range all_in_range
placed-in a {places = places} {n = n} h size ranged =
    let rest = three (site_in_range a.site) (every character_in_range (characters_of a.rows)) (every in_range a.pending) (and_right (every place_in_range
    a.rows) _ ranged) in
    let count : n ≡ length (places_of a.rows) = h.rows-counted ∙ sym (length-map a.rows (λ (p : Placed). p.place)) in
    record {
      counted = h.rows-counted;
      places-ranged = and_left_lem (every place_in_range a.rows) _ ranged;
      ranged = rest.1;
      places-held = λ few.
          ap (take n) (h.places-held ∙ ap (pad (length places) 0) (take_all (length places) (places_of a.rows) (omega (arith, few, size, count))))
          ∙ pad-take (length places) 0 (places_of a.rows) n (sym count);
      keys-held = λ few. sym (keys-held (held-read a h) few);
    }

-- the ranges of the characters hold at their places too
back_ranged : (a : Archive) → archive_in_range a ≡ true → all_in_range (state_from a) ≡ true
unfolding archive_in_range all_in_range state_from unarchived
back_ranged a ranged =
    let rest = three (site_in_range a.site) (every character_in_range (characters_of a.rows)) (every in_range a.pending) (and_right (every place_in_range
    a.rows) _ ranged) in
    and_intro (and_intro rest.0
    (member_every character_in_range (unarchived a.rows) (λ c m.
    let w = Memᴰ.of_map (λ (p : Placed). p.character) (sorted_by by_place a.rows) m in
    subst (λ (d : Character). character_in_range d ≡ true) w.2
    (every_member character_in_range rest.1 (Memᴰ.map (λ (p : Placed). p.character) (sorted_member by_place a.rows w.1))))))
    rest.2

module _ (b out : List ℕ) where
  pub unarchive_unread : (q : Refusal) → rows_answer Archived b ≡ Err q → (Err q ≡ unarchive_written b out) × (out ≡ unarchive_out b out)
  unarchive_unread q h =
      ⊎_elim (λ r. rw r.1 (unarchive_layout b out (sym (archived_laid_out b) ∙ r.0)))
      (λ r. rw r.2 (unarchive_range b out (sym (archived_laid_out b) ∙ r.0) (sym (archived_in_range b) ∙ r.1)))
      (because Archived b q h)

  module _ (h : rows_answer Archived b ≡ Ok tt) {site : Site} {places characters toggles : List ℕ} {n : ℕ} {pending : List ℕ} {w : ℕ}
      (g : Held (rows_said Archived b) site places characters toggles n pending w) where
    laid : archive_laid_out b ≡ true
    laid = sym (archived_laid_out b) ∙ (both Archived b h).0

    ranges : archive_in_range (archive_said b) ≡ true
    ranges = sym (archived_in_range b) ∙ (both Archived b h).1

    said : Held (archive_said b) site places characters toggles n pending w
    said = subst (λ (a : Archive). Held a site places characters toggles n pending w) (archived_said b) g

    pub archive_placed : length places ≡ character_slots → PlacedIn (archive_said b).rows characters places n
    archive_placed size = placed-in (archive_said b) said size ranges

    pub archive_held : StateHeld (as_read (archive_said b)) site characters toggles n pending w
    archive_held = held-read (archive_said b) said

    pub misarranged : arranged (archive_said b).rows ≡ false → (Err Misarranged ≡ unarchive_written b out) × (out ≡ unarchive_out b out)
    misarranged e = unarchive_misarranged b out laid ranges e

    -- the rows at their places
    module _ (order : List ℕ) (e : characters_led (characters_of (archive_said b).rows) (take n order) ≡ unarchived (archive_said b).rows) where
      led-is : led (as_read (archive_said b)) (take n order) ≡ state_from (archive_said b)
      unfolding led state_from
      led-is = λ i. record { site = (archive_said b).site; characters = e i; pending = (archive_said b).pending }

      pub led_ranged : all_in_range (led (as_read (archive_said b)) (take n order)) ≡ true
      led_ranged = ap all_in_range led-is ∙ back_ranged (archive_said b) ranges

      module _ (m : arranged (archive_said b).rows ≡ true) {r : Written} {after : List ℕ} (x : Answered (led (as_read (archive_said b))
          (take n order)) out r after) where
        unformed_so : well_formed (state_from (archive_said b)) ≡ false → (r ≡ unarchive_written b out) × (after ≡ unarchive_out b out)
        unformed_so f =
            let u = unarchive_form b out laid ranges m f in
            let v = x.unformed (ap well_formed led-is ∙ f) in
            (v.0 ∙ u.0, v.1 ∙ u.1)

        written_so : well_formed (state_from (archive_said b)) ≡ true → (r ≡ unarchive_written b out) × (after ≡ unarchive_out b out)
        written_so f =
            let u = unarchive_writes b out laid ranges m f in
            let v = x.written (ap well_formed led-is ∙ f) in
            let same : saved_bytes (led (as_read (archive_said b)) (take n order)) ≡ saved_bytes (state_from (archive_said b)) = ap saved_bytes led-is in
            (v.0 ∙ ap (λ (l : List ℕ). written_as [] l out) same ∙ u.0, v.1 ∙ ap (λ (l : List ℕ). output_after [] l out) same ∙ u.1)

        pub brought_so : (r ≡ unarchive_written b out) × (after ≡ unarchive_out b out)
        brought_so = ⊎_elim written_so unformed_so (either (well_formed (state_from (archive_said b))))
