-- The first line as it lies in the bytes: as far as it goes its bytes are theirs, and where it ends stands a line feed or nothing.
use mathlib.Core.Path.{◌≡◌, refl, sym, ap, ◌∙◌}
use mathlib.Core.List.{List, [], ◌∷◌}
use mathlib.Core.Bool.{Bool, true, false, not, cond}
use mathlib.Core.Logic.{⊎_elim}
use Prim.Native.Nat.{ℕ, zero, suc, ◌+◌, ◌<◌, ◌≤◌}
use native.Mathlib.Omega.{arith}
use lib.Dec.{eqb, ltb}
use lib.ListN.{length, drop, get_or, length-drop}
use borrow.Author.Tests.{eqb-true, eqb-false, eq-eqb, lt-ltb, le-ltb}
use Rattle.lists.proofs.Tests.{clash, side}
use Rattle.decimal.specs.Numeral.{is_digit}
use Rattle.decimal.specs.Answers.{digits_front}
use Rattle.std.proofs.Common.{Ok, Err}
use Rattle.lists.specs.Padding.{pad}
use Rattle.decimal.specs.declared.Fault.TheVariants.{Above, Malformed}
use Rattle.lines.specs.declared.Ending.{Ending}
use Rattle.lines.specs.Lines.{line_feed, before, first_line}
use Rattle.lines.specs.Fields.{tab, fields, values_of, at_most}
use Rattle.lines.specs.Answers.{slots, Numbers, verdict_on, goes_on, numbers_after, unless}
use Rattle.lines.proofs.Bytes.{before-le}
use Rattle.lines.proofs.Reading.{Reading, short, no-tab}

-- ---- its bytes

module _ (b : ℕ) where
  same-before : (s : List ℕ) (at : ℕ) → at < length (before b s) → get_or s at 0 ≡ get_or (before b s) at 0
  same-before [] at h = refl
  same-before (x ∷ s) at h = go (eqb x b) refl (same-before s) at h
    where
      go : (t : Bool) → eqb x b ≡ t → ((k : ℕ) → k < length (before b s) → get_or s k 0 ≡ get_or (before b s) k 0) → (at : ℕ)
          → at < length (cond t [] (x ∷ before b s)) → get_or (x ∷ s) at 0 ≡ get_or (cond t [] (x ∷ before b s)) at 0
      go true e rest at k = absurd (omega arith)
      go false e rest zero k = refl
      go false e rest (suc at) k = rest at (omega arith)

  other-before : (s : List ℕ) (at : ℕ) → at < length (before b s) → get_or s at 0 ≡ b → ⊥
  other-before [] at h q = omega arith
  other-before (x ∷ s) at h q = go (eqb x b) refl (other-before s) at h q
    where
      go : (t : Bool) → eqb x b ≡ t → ((k : ℕ) → k < length (before b s) → get_or s k 0 ≡ b → ⊥) → (at : ℕ)
          → at < length (cond t [] (x ∷ before b s)) → get_or (x ∷ s) at 0 ≡ b → ⊥
      go true e rest at k q = omega arith
      go false e rest zero k q = clash (eq-eqb x b q) e
      go false e rest (suc at) k q = rest at (omega arith) q

  itself-after : (s : List ℕ) → length (before b s) < length s → get_or s (length (before b s)) 0 ≡ b
  itself-after [] h = absurd (omega arith)
  itself-after (x ∷ s) h = go (eqb x b) refl (itself-after s) h
    where
      go : (t : Bool) → eqb x b ≡ t → (length (before b s) < length s → get_or s (length (before b s)) 0 ≡ b)
          → length (cond t [] (x ∷ before b s)) < suc (length s) → get_or (x ∷ s) (length (cond t [] (x ∷ before b s))) 0 ≡ b
      go true e rest k = eqb-true x b e
      go false e rest k = rest (omega arith)

module _ (s : List ℕ) where
  pub line_le : length (first_line s) ≤ length s
  unfolding first_line
  line_le = before-le line_feed s

  -- an offset in the bytes is in the line, or at the line feed
  module _ (at : ℕ) (h : at ≤ length (first_line s)) where
    pub past_end : length s ≤ at → ltb at (length (first_line s)) ≡ false
    past_end k = le-ltb at (length (first_line s)) (omega (arith, line_le))

    pub at_feed : at < length s → get_or s at 0 ≡ line_feed → length (first_line s) ≤ at
    unfolding first_line
    at_feed k q = ⊎_elim (λ (p : length (first_line s) ≤ at). p) (λ p. absurd (other-before line_feed s at p q)) (side (length (first_line s)) at)

    pub before_feed : at < length s → (get_or s at 0 ≡ line_feed → ⊥) → at < length (first_line s)
    unfolding first_line
    before_feed k q =
        ⊎_elim
        (λ (p : length (first_line s) ≤ at).
        let end : length (before line_feed s) ≡ at = omega arith in absurd (q (ap (λ n. get_or s n 0) (sym end) ∙ itself-after line_feed s (omega arith))))
        (λ (p : at < length (first_line s)). p) (side (length (first_line s)) at)

    pub same_byte : at < length (first_line s) → get_or s at 0 ≡ get_or (first_line s) at 0
    unfolding first_line
    same_byte k = same-before line_feed s at k

    -- whether it is in the line, by the byte there
    pub feed_told : at < length s → ltb at (length (first_line s)) ≡ not (eqb (get_or s at 0) line_feed)
    feed_told k = go (eqb (get_or s at 0) line_feed) refl
      where
        go : (t : Bool) → eqb (get_or s at 0) line_feed ≡ t → ltb at (length (first_line s)) ≡ not t
        go true e = le-ltb at (length (first_line s)) (at_feed k (eqb-true (get_or s at 0) line_feed e))
        go false e = lt-ltb at (length (first_line s)) (before_feed k (eqb-false (get_or s at 0) line_feed e))
        -- whether a field goes on there

-- ---- its first field

pub line_field-le : (s : List ℕ) → length (before tab (first_line s)) ≤ length s
line_field-le s = omega (arith, before-le tab (first_line s), line_le s)

-- ---- the digits at its front

digits_line : (s : List ℕ) → digits_front s ≡ digits_front (before line_feed s)
unfolding is_digit
digits_line [] = refl
digits_line (x ∷ s) = go (eqb x line_feed) refl (digits_line s)
  where
    go : (t : Bool) → eqb x line_feed ≡ t → digits_front s ≡ digits_front (before line_feed s)
        → digits_front (x ∷ s) ≡ digits_front (cond t [] (x ∷ before line_feed s))
    go true e rest = rw (eqb-true x line_feed e)
    go false e rest = rw rest

digits-front-le : (s : List ℕ) → length (digits_front s) ≤ length s
digits-front-le [] = omega arith
digits-front-le (x ∷ s) = go (is_digit x) (digits-front-le s)
  where
    go : (t : Bool) → length (digits_front s) ≤ length s → length (cond t (x ∷ digits_front s) []) ≤ suc (length s)
    go true h = omega arith
    go false h = omega arith

pub digits-within : (k : ℕ) (s : List ℕ) → k ≤ length (first_line s) → digits_front (drop k s) ≡ digits_front (drop k (first_line s))
unfolding first_line
digits-within zero s h = digits_line s
digits-within (suc k) [] h = refl
digits-within (suc k) (x ∷ s) h = go (eqb x line_feed) refl (digits-within k s) h
  where
    go : (t : Bool) → eqb x line_feed ≡ t → (k ≤ length (before line_feed s) → digits_front (drop k s) ≡ digits_front (drop k (before line_feed s)))
        → suc k ≤ length (cond t [] (x ∷ before line_feed s)) → digits_front (drop k s) ≡ digits_front (drop (suc k) (cond t [] (x ∷ before line_feed s)))
    go true e rest j = absurd (omega arith)
    go false e rest j = rest (omega arith)

pub digits-inside : (s : List ℕ) (at : ℕ) {next : ℕ} → at < length (first_line s) → next ≡ at + 1 + length (digits_front (drop (at + 1) (first_line s)))
    → next ≤ length (first_line s)
digits-inside s at h e = omega (arith, digits-front-le (drop (at + 1) (first_line s)), length-drop (at + 1) (first_line s))

-- ---- numbers without the layout

told : (laid : Bool) (limits ns : List ℕ) → ((verdict_on laid limits ns ≡ Err Malformed → ⊥) → ⊥) → verdict_on laid limits ns ≡ Err Malformed
unfolding verdict_on
told false limits ns h = refl
told true limits ns h = go (at_most limits ns) h
  where
    go : (c : Bool) → ((◌≡◌ {A = Numbers} (cond c (Ok (pad slots 0 ns)) (Err Above)) (Err Malformed) → ⊥) → ⊥)
        → ◌≡◌ {A = Numbers} (cond c (Ok (pad slots 0 ns)) (Err Above)) (Err Malformed)
    go true h = absurd (h (λ q. let z : ◌≡◌ {A = ℕ} 0 1 = cc in omega arith))
    go false h = absurd (h (λ q. let z : ◌≡◌ {A = ℕ} 0 1 = cc in omega arith))

pub malformed-whole : (limits : List ℕ) (fs : List (List ℕ)) → ((numbers_after limits fs ≡ Err Malformed → ⊥) → ⊥) → numbers_after limits fs ≡ Err Malformed
unfolding numbers_after
malformed-whole limits fs h = told (goes_on (length limits) fs) limits (values_of fs) h

-- ---- the ways that reading its numbers ends

module _ (limits s : List ℕ) (e : Ending) where
  -- it lacks the layout
  pub refused_end : e.numbers ≡ Err Malformed → e.end ≡ 0 → Err Malformed ≡ numbers_after limits (fields (first_line s))
      → (e.numbers ≡ numbers_after limits (fields (first_line s)))
      × (((e.numbers ≡ Err Malformed → ⊥) → e.end ≡ length (first_line s)) × (e.end ≤ length s))
  refused_end n z m = (n ∙ m, ((λ h. absurd (h n)), omega arith))

  -- its numbers are all read
  pub all_end : (values : List ℕ) (above : Bool) {at : ℕ} → e.numbers ≡ unless above values → e.end ≡ at → unless above values ≡ numbers_after limits (fields (first_line s))
      → at ≤ length (first_line s) → length (first_line s) ≤ at
      → (e.numbers ≡ numbers_after limits (fields (first_line s)))
      × (((e.numbers ≡ Err Malformed → ⊥) → e.end ≡ length (first_line s)) × (e.end ≤ length s))
  all_end values above n z m low high = (n ∙ m, ((λ h. omega arith), omega (arith, line_le s)))

-- ---- the steps of reading its numbers

module _ (s : List ℕ) {limits values : List ℕ} {above : Bool} {at i : ℕ} (r : Reading (first_line s) limits 0 values above at i) (low : at ≤ length (first_line s)) (h : i < length limits) where
  pub no-tab-here : at < length s → (get_or s at 0 ≡ tab → ⊥) → Err Malformed ≡ numbers_after limits (fields (first_line s))
  no-tab-here k q =
      ⊎_elim (λ (p : length (first_line s) ≤ at). short r h p)
      (λ (p : at < length (first_line s)). no-tab r h p (λ e. q (same_byte s at low p ∙ e))) (side (length (first_line s)) at)

  -- a tab is in the line
  module _ (k : at < length s) (q : get_or s at 0 ≡ tab) where
    pub tab-inside : at < length (first_line s)
    tab-inside = before_feed s at low k (λ f. let z : ◌≡◌ {A = ℕ} 9 10 = cc in omega arith)

    pub tab-own : get_or (first_line s) at 0 ≡ tab
    tab-own = sym (same_byte s at low tab-inside) ∙ q
