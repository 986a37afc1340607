-- What is read of a line is what the line says: one argument for every kind of line, over what is made of its numbers.
use Rattle.std.proofs.Common.{Ok, Err}
use mathlib.Core.Path.{◌≡◌, refl, sym, ap, ◌∙◌}
use mathlib.Core.List.{List, [], ◌∷◌, ◌++◌}
use mathlib.Core.Bool.{Bool, true, false, ◌&&◌, cond}
use Prim.Native.Nat.{ℕ, zero, suc, ◌-◌}
use lib.Dec.{leb}
use lib.ListN.{length, drop, get_or, replicate}
use borrow.Author.Tests.{leb-true}
use Rattle.woot.specs.declared.Operation.{Operation}
use Rattle.answers.specs.declared.Refusal.{Refusal}
use Rattle.answers.specs.declared.Refusal.TheVariants.{Layout, Range}
use Rattle.woot.specs.Limits.{last_site, last_clock, last_code_point, capacity}
use Rattle.woot.specs.Ranges.{within, site_in_range, character_in_range, in_range}
use Rattle.bulk.specs.Archiving.{Placed, place_in_range}
use Rattle.lists.specs.Padding.{pad}
use Rattle.lists.proofs.Tests.{agree, and_left_lem, and_right, and_intro}
use Rattle.std.specs.Prelude.{Result, is_ok}
use Rattle.decimal.specs.declared.Fault.TheVariants.{Malformed as NumberMalformed, Above as NumberAbove}
use Rattle.lines.specs.Fields.{fields, has_layout, values_of, at_most}
use Rattle.lines.specs.Answers.{slots, Numbers, verdict_on, numbers_of}
use Rattle.lines.proofs.Values.{at_most_none, at_most_from, at-padded}
use Rattle.codec.specs.Calls.{read_as}
use Rattle.codec.proofs.Judging.{identifier-padded, read-layout, read-range, read-operation}
use Rattle.saved_lines.specs.declared.Row.{Row}
use Rattle.saved_lines.specs.declared.Unread.{Unread}
use Rattle.saved_lines.specs.declared.Unread.TheVariants.{Malformed, Above, OutOfRange}
use Rattle.saved.specs.declared.Version.{Version}
use Rattle.saved.specs.declared.Version.TheVariants.{Second}
use Rattle.saved.specs.declared.Rows.{Rows}
use Rattle.saved.specs.declared.Rows.TheVariants.{Saved, Archived}
use Rattle.saved.specs.Format.{site_limits, site_of, is_site, site_said, character_head, toggle_field, last_toggle_field, character_limits, character_of}
use Rattle.saved.specs.Format.{is_character, character_said, is_operation, operation_said, character_within}
use Rattle.saved.specs.Archive.{placed_limits, placed_of, is_placed, placed_said}
use Rattle.saved.specs.Rows.{is_row, row_said, row_within}
use Rattle.saved_lines.specs.Judging.{in_layout, ranged, said_in, site_read, row_head, row_limits, row_as, row_of, row_in_range, row_read}
use Rattle.saved_lines.specs.Judging.{operation_in_layout, operation_read, pending_read}
use Rattle.saved.proofs.Bounds.{site-at_most, character-at_most, at_most_within}

module _ {A : Type 0} (say : List ℕ → A) (passes : A → Bool) (l : Bool) (limits ns : List ℕ) where
  -- what is said by numbers within their limits is what the line says, in range where it passes
  says_so : ((m : ℕ) (ms : List ℕ) → say (ms ++ replicate m 0) ≡ say ms)
      → said_in say passes (verdict_on l limits ns) ≡ cond l (cond (at_most limits ns) (ranged (passes (say ns)) (say ns)) (Err Above)) (Err Malformed)
  unfolding verdict_on said_in ranged pad
  says_so padded = go l (at_most limits ns)
    where
      go : (b c : Bool) → said_in say passes (cond b (cond c (Ok (pad slots 0 ns)) (Err NumberAbove)) (Err NumberMalformed))
          ≡ cond b (cond c (ranged (passes (say ns)) (say ns)) (Err Above)) (Err Malformed)
      go true true = ap (λ (x : A). ranged (passes x) x) (padded (slots - length ns) ns)
      go true false = refl
      go false c = refl

-- what the code makes of numbers that are taken
module _ {A : Type 0} (say : List ℕ → A) (passes : A → Bool) where
  pub says_made : {r : Numbers} {ns : List ℕ} → r ≡ Ok ns → {b : Bool} {x : A} → x ≡ say ns → b ≡ passes x → {w : Result A (Unread A)} → w ≡ ranged b x
      → w ≡ said_in say passes r
  unfolding said_in
  says_made t {b} {x} s p e = rw t (e ∙ ap (λ (c : Bool). ranged c x) p ∙ ap (λ (y : A). ranged (passes y) y) s)

  -- numbers without the layout say nothing
  pub lacks-layout : {r : Numbers} {x : Result A (Unread A)} → x ≡ said_in say passes r → (x ≡ Err Malformed → ⊥) → r ≡ Err NumberMalformed → ⊥
  unfolding said_in
  lacks-layout e h q = h (e ∙ ap (said_in say passes) q)

-- a line says x where it has the layout, its numbers are within their limits, and x passes
record Told {A E : Type 0} (w : Result A E) (laid within passes : Bool) (x : A) (out above lacks : E) : Type 0 where
  is : w ≡ cond laid (cond within (cond passes (Ok x) (Err out)) (Err above)) (Err lacks)

-- what is known of such a line
module _ {A E : Type 0} {w : Result A E} {l t p : Bool} {x : A} {out above lacks : E} (told : Told w l t p x out above lacks) where
  abbrev says : Bool → Bool → Bool → Result A E
  says a b c = cond a (cond b (cond c (Ok x) (Err out)) (Err above)) (Err lacks)

  laid_told : (laid : Result A E → Bool) → laid (Ok x) ≡ true → laid (Err out) ≡ true → laid (Err above) ≡ true → laid (Err lacks) ≡ false
      → laid w ≡ l
  laid_told laid q r s u = rw told.is (go l t p)
    where
      go : (a b c : Bool) → laid (says a b c) ≡ a
      go true true true = q
      go true true false = r
      go true false c = s
      go false b c = u

  range_told : l ≡ true → is_ok w ≡ t && p
  range_told h = rw (told.is, h) (go t p)
    where
      go : (b c : Bool) → is_ok (says true b c) ≡ b && c
      go true true = refl
      go true false = refl
      go false c = refl

  said_told : is_ok w ≡ true → w ≡ Ok x
  said_told h = told.is ∙ go l t p (rw told.is at h)
    where
      go : (a b c : Bool) → is_ok (says a b c) ≡ true → says a b c ≡ Ok x
      go true true true q = refl
      go true true false q = cc
      go true false c q = cc
      go false b c q = cc

-- numbers that say what is in range are within their limits
within_limits : {A : Type 0} (say : List ℕ → A) (passes : A → Bool) (limits : List ℕ) → ((ns : List ℕ) → passes (say ns) ≡ true → at_most limits ns ≡ true)
    → (ns : List ℕ) → (at_most limits ns && passes (say ns)) ≡ passes (say ns)
within_limits say passes limits bounds ns =
    agree (at_most limits ns && passes (say ns)) (passes (say ns)) (and_right (at_most limits ns) (passes (say ns))) (λ p. and_intro (bounds ns p) p)

-- ---- a site's line

site-padded : (m : ℕ) (ns : List ℕ) → site_of (ns ++ replicate m 0) ≡ site_of ns
unfolding site_of
site-padded m ns = λ j. record { number = at-padded m ns 0 j; clock = at-padded m ns 1 j }

-- the numbers of a line
abbrev ns : List ℕ → List ℕ
ns line = values_of (fields line)

module _ (v : Version) (line : List ℕ) where
  site_is : Told (site_read v line) (is_site v line) (at_most site_limits (ns line)) (site_in_range (site_said line)) (site_said line)
      (OutOfRange (site_said line)) Above Malformed
  unfolding site_read numbers_of is_site site_said ranged
  site_is = record { is = says_so site_of site_in_range (is_site v line) site_limits (ns line) site-padded }

  pub site_laid : in_layout (site_read v line) ≡ is_site v line
  site_laid = laid_told site_is in_layout refl refl refl refl

  pub site-passes : is_site v line ≡ true → is_ok (site_read v line) ≡ site_in_range (site_said line)
  unfolding site_said
  site-passes h = range_told site_is h ∙ within_limits site_of site_in_range site_limits site-at_most (ns line)

  pub site-says : is_ok (site_read v line) ≡ true → site_read v line ≡ Ok (site_said line)
  site-says = said_told site_is

-- ---- a row's line

character-padded : (v : Version) (m : ℕ) (ns : List ℕ) → character_of v (ns ++ replicate m 0) ≡ character_of v ns
unfolding character_of
character-padded v m ns = λ j. record {
  id = identifier-padded 0 m ns j;
  code_point = at-padded m ns 2 j;
  toggles = toggle_field v (at-padded m ns 3 j);
  previous = identifier-padded 4 m ns j;
  next = identifier-padded 6 m ns j;
}

row-padded : (k : Rows) (m : ℕ) (ns : List ℕ) → row_of k (ns ++ replicate m 0) ≡ row_of k ns
unfolding row_of placed_of
row-padded (Saved v) m ns = λ j. record { place = 0; character = character-padded v m ns j }
row-padded Archived m ns = λ j. record { place = at-padded m ns 0 j; character = later m ns j }
  where
    later : (m : ℕ) (ns : List ℕ) → character_of Second (drop 1 (ns ++ replicate m 0)) ≡ character_of Second (drop 1 ns)
    later zero [] = refl
    later (suc m) [] = character-padded Second m []
    later m (n ∷ ns) = character-padded Second m ns

-- the limits as the code has them
pub as_limits : (v : Version) (line : List ℕ) {n : ℕ} → n ≡ last_toggle_field v → {r : Numbers}
    → r ≡ numbers_of character_head (last_site ∷ last_clock ∷ last_code_point ∷ n ∷ last_site ∷ last_clock ∷ last_site ∷ last_clock ∷ []) (fields line)
    → r ≡ numbers_of character_head (character_limits v) (fields line)
as_limits v line e {r} h =
    h ∙ ap (λ (m : ℕ). numbers_of character_head (last_site ∷ last_clock ∷ last_code_point ∷ m ∷ last_site ∷ last_clock ∷ last_site ∷ last_clock ∷ []) (fields line)) e

-- limits from a place on are those of the numbers from there on
pub limits_later : (l : ℕ) (ls ns : List ℕ) → at_most (l ∷ ls) ns ≡ true → at_most ls (drop 1 ns) ≡ true
limits_later l ls [] e = at_most_none ls
limits_later l ls (n ∷ ns) e = and_right (leb n l) (at_most ls ns) e

placed-at_most : (ns : List ℕ) → row_in_range Archived (row_as (placed_of ns)) ≡ true → at_most placed_limits ns ≡ true
unfolding row_in_range placed_of place_in_range within character_within
placed-at_most ns e =
    let n = get_or ns 0 0 in
    let c = character_of Second (drop 1 ns) in
    let p = within 1 capacity n in
    at_most_from 0 placed_limits ns (leb-true n capacity (and_right (leb 1 n) (leb n capacity) (and_left_lem p (character_in_range c) e)))
    (character-at_most Second (drop 1 ns) refl (and_right p (character_in_range c) e))

abbrev placed_as : Row → Placed
placed_as r = record { place = r.place; character = r.character }

-- numbers within their limits are those that say what is in range, where the form can say it
row-limits : (k : Rows) (ms : List ℕ)
    → (at_most (row_limits k) ms && row_in_range k (row_of k ms)) ≡ (row_within k (placed_as (row_of k ms)) && character_in_range (row_of k ms).character)
unfolding row_of row_in_range row_within
row-limits (Saved v) ms =
    let c = character_of v ms in
    let limits = at_most (character_limits v) ms in
    let within = character_within v c in
    let ranged = character_in_range c in
    agree (limits && ranged) (within && ranged)
    (λ p. and_intro (at_most_within v ms (and_left_lem limits ranged p)) (and_right limits ranged p))
    (λ p. and_intro (character-at_most v ms (and_left_lem within ranged p) (and_right within ranged p)) (and_right within ranged p))
row-limits Archived ms = within_limits (row_of Archived) (row_in_range Archived) placed_limits placed-at_most ms

module _ (k : Rows) (line : List ℕ) where
  has-layout : has_layout (row_head k) (length (row_limits k)) (fields line) ≡ is_row k line
  unfolding is_row is_character is_placed
  has-layout = go k
    where
      go : (k : Rows) → has_layout (row_head k) (length (row_limits k)) (fields line) ≡ is_row k line
      go (Saved v) = refl
      go Archived = refl

  row-of : placed_as (row_of k (ns line)) ≡ row_said k line
  unfolding row_of row_said character_said placed_said
  row-of = go k
    where
      go : (k : Rows) → placed_as (row_of k (ns line)) ≡ row_said k line
      go (Saved v) = refl
      go Archived = refl

  row_is : Told (row_read k line) (is_row k line) (at_most (row_limits k) (ns line)) (row_in_range k (row_of k (ns line)))
      (row_of k (ns line)) (OutOfRange (row_of k (ns line))) Above Malformed
  unfolding row_read numbers_of ranged
  row_is = record {
    is =
        says_so (row_of k) (row_in_range k) (has_layout (row_head k) (length (row_limits k)) (fields line)) (row_limits k) (ns line) (row-padded k)
        ∙ (λ j. cond (has-layout j)
        (cond (at_most (row_limits k) (ns line)) (ranged (row_in_range k (row_of k (ns line))) (row_of k (ns line))) (Err Above))
        (Err Malformed));
  }

  pub row_laid : in_layout (row_read k line) ≡ is_row k line
  row_laid = laid_told row_is in_layout refl refl refl refl

  pub row-passes : is_row k line ≡ true
      → is_ok (row_read k line) ≡ row_within k (row_said k line) && character_in_range (row_said k line).character
  row-passes h =
      range_told row_is h
      ∙ row-limits k (ns line)
      ∙ ap (λ (p : Placed). row_within k p && character_in_range p.character) row-of

  pub row-says : is_ok (row_read k line) ≡ true → row_read k line ≡ Ok (row_as (row_said k line))
  row-says h = said_told row_is h ∙ ap (λ (p : Placed). Ok (row_as p)) row-of

-- ---- an operation's line, by what `codec` answers

module _ (v : Version) (line : List ℕ) where
  by_checks : pending_read v line ≡ read_as (is_operation v line) (operation_said line)
  unfolding pending_read
  by_checks = refl

  operation_is : operation_read v line
      ≡ cond (is_operation v line) (cond (in_range (operation_said line)) (Ok (operation_said line)) (Err NumberAbove)) (Err NumberMalformed)
  unfolding operation_read
  operation_is = refl

  -- its numbers and their limits are those of `codec`
  operation-told : Told (operation_read v line) (is_operation v line) true (in_range (operation_said line)) (operation_said line)
      NumberAbove NumberAbove NumberMalformed
  operation-told = record { is = operation_is }

  pub operation_done : (o : Operation) → pending_read v line ≡ Ok o → Ok o ≡ operation_read v line
  operation_done o e = go (is_operation v line) (in_range (operation_said line)) refl refl
    where
      go : (a b : Bool) → is_operation v line ≡ a → in_range (operation_said line) ≡ b → Ok o ≡ operation_read v line
      go false b p q = let z : Err Layout ≡ Ok o = sym (read-layout _) ∙ rw (by_checks, p) at e in cc
      go true false p q = let z : Err Range ≡ Ok o = sym (read-range _ q) ∙ rw (by_checks, p) at e in cc
      go true true p q =
          let z : Ok (operation_said line) ≡ Ok o = sym (read-operation _ q) ∙ rw (by_checks, p) at e in
          let same : operation_said line ≡ o = cc in
          rw (operation_is, p, q) (ap Ok (sym same))

  module _ (r : Refusal) (e : pending_read v line ≡ Err r) where
    pub operation_range : r ≡ Range → Err NumberAbove ≡ operation_read v line
    operation_range h = go (is_operation v line) (in_range (operation_said line)) refl refl
      where
        go : (a b : Bool) → is_operation v line ≡ a → in_range (operation_said line) ≡ b → Err NumberAbove ≡ operation_read v line
        go false b p q = let z : Err Layout ≡ Err Range = sym (read-layout _) ∙ rw (by_checks, p, h) at e in cc
        go true false p q = rw (operation_is, p, q)
        go true true p q = let z : Ok (operation_said line) ≡ Err r = sym (read-operation _ q) ∙ rw (by_checks, p) at e in cc

    pub operation_layout : (r ≡ Range → ⊥) → Err NumberMalformed ≡ operation_read v line
    operation_layout h = go (is_operation v line) (in_range (operation_said line)) refl refl
      where
        go : (a b : Bool) → is_operation v line ≡ a → in_range (operation_said line) ≡ b → Err NumberMalformed ≡ operation_read v line
        go false b p q = rw (operation_is, p)
        go true false p q =
            let z : Err Range ≡ Err r = sym (read-range _ q) ∙ rw (by_checks, p) at e in
            let same : r ≡ Range = cc in
            absurd (h same)
        go true true p q = let z : Ok (operation_said line) ≡ Err r = sym (read-operation _ q) ∙ rw (by_checks, p) at e in cc

  -- what is read of it is what the line says
  pub operation_laid : operation_in_layout (operation_read v line) ≡ is_operation v line
  operation_laid = laid_told operation-told operation_in_layout refl refl refl refl

  pub operation-passes : is_operation v line ≡ true → is_ok (operation_read v line) ≡ in_range (operation_said line)
  operation-passes = range_told operation-told

  pub operation_says : is_ok (operation_read v line) ≡ true → operation_read v line ≡ Ok (operation_said line)
  operation_says = said_told operation-told
