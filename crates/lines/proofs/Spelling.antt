-- A line is spelled in one way only: the fields of what is written are the head word and the digits, and fields that are a
-- head word and numerals are those of what is written.
use mathlib.Core.Path.{◌≡◌, refl, sym, ap, ◌∙◌}
use mathlib.Core.List.{List, [], ◌∷◌, ◌++◌, map}
use mathlib.Core.Bool.{Bool, true, false, ◌&&◌}
use Prim.Native.Nat.{ℕ, ◌<◌}
use native.Mathlib.Omega.{arith}
use lib.Dec.{eqb}
use lib.ListN.{length, drop, get_or, length-map}
use borrow.Author.Tests.{eqb-true, eq-eqb, ne_eqb}
use Rattle.lists.specs.Lists.{every}
use Rattle.lists.proofs.Tests.{fails, and_left_lem, and_right, and_intro, or-false}
use Rattle.lists.proofs.Members.{any_append}
use Rattle.decimal.specs.Numeral.{is_digit, all_digits, is_numeral, value_of, digits}
use Rattle.decimal.proofs.Laws.{digit-range, all_digits_lem, digits-are_numeral, digits-read-back, numeral_writes-back}
use Rattle.lines.specs.Lines.{has, before}
use Rattle.lines.specs.Fields.{tab, on_first, fields, equal, numerals, has_layout, values_of, columns}
use Rattle.lines.proofs.Fields.{onward, fields-first, equal_is, is-equal}

-- ---- what is written, read

-- digits are neither tabs nor line feeds
no_digit : (b : ℕ) → b < 48 → (s : List ℕ) → all_digits s ≡ true → has b s ≡ false
no_digit b h [] e = refl
no_digit b h (x ∷ s) e =
    let r = digit-range x (and_left_lem (is_digit x) (all_digits s) e) in
    or-false (ne_eqb x b (λ q. omega (arith, r.0))) (no_digit b h s (and_right (is_digit x) (all_digits s) e))

pub no-digits : (b n : ℕ) → b < 48 → has b (digits n) ≡ false
no-digits b n h = no_digit b h (digits n) (all_digits_lem n)

-- a byte that is no tab is in no column, unless it is a digit
pub no-columns : (b : ℕ) → b < 48 → (tab ≡ b → ⊥) → (ns : List ℕ) → has b (columns ns) ≡ false
no-columns b h t [] = refl
no-columns b h t (n ∷ ns) =
    or-false (ne_eqb tab b t) (any_append (λ x. eqb x b) (digits n) (columns ns) ∙ or-false (no-digits b n h) (no-columns b h t ns))

-- bytes without a tab are one field
front-field : (p q : List ℕ) (fs : List (List ℕ)) → has tab p ≡ false → fields q ≡ [] ∷ fs → fields (p ++ q) ≡ p ∷ fs
front-field [] q fs h e = e
front-field (x ∷ p) q fs h e = go (eqb x tab) refl (λ k. front-field p q fs k e)
  where
    go : (t : Bool) → eqb x tab ≡ t → (has tab p ≡ false → fields (p ++ q) ≡ p ∷ fs) → fields (x ∷ p ++ q) ≡ (x ∷ p) ∷ fs
    go true i rest = cc
    go false i rest = rw i (ap (on_first x) (rest (rw i at h)))

fields-columns : (ns : List ℕ) → fields (columns ns) ≡ [] ∷ map digits ns
fields-columns [] = refl
fields-columns (n ∷ ns) =
    ap (λ (fs : List (List ℕ)). [] ∷ fs)
    (front-field (digits n) (columns ns) (map digits ns) (no-digits tab n (omega arith)) (fields-columns ns))

module _ (head ns : List ℕ) (h : has tab head ≡ false) where
  fields_line : fields (head ++ columns ns) ≡ head ∷ map digits ns
  fields_line = front-field head (columns ns) (map digits ns) h (fields-columns ns)

  all-numerals : (ms : List ℕ) → every is_numeral (map digits ms) ≡ true
  all-numerals [] = refl
  all-numerals (m ∷ ms) = and_intro (digits-are_numeral m) (all-numerals ms)

  pub layout_line : (c : ℕ) → length ns ≡ c → has_layout head c (fields (head ++ columns ns)) ≡ true
  unfolding has_layout numerals
  layout_line c e =
      rw (fields_line, is-equal head, eq-eqb (length (map digits ns)) c (length-map ns digits ∙ e)) (all-numerals ns)

  values-back : (ms : List ℕ) → map value_of (map digits ms) ≡ ms
  values-back [] = refl
  values-back (m ∷ ms) = λ j. digits-read-back m j ∷ values-back ms j

  pub values_line : values_of (fields (head ++ columns ns)) ≡ ns
  unfolding values_of
  values_line = rw fields_line (values-back ns)

-- ---- what is read, written

-- fields after the first, with the tabs before them
abbrev tabbed : List (List ℕ) → List ℕ
tabbed [] = []
tabbed (f ∷ fs) = tab ∷ f ++ tabbed fs

abbrev join : List (List ℕ) → List ℕ
join [] = []
join (f ∷ fs) = f ++ tabbed fs

-- a line is its fields put together
rejoined : (s : List ℕ) → join (fields s) ≡ s
rejoined [] = refl
rejoined (x ∷ s) = go (eqb x tab) refl (rw (fields-first s) at (rejoined s))
  where
    go : (t : Bool) → eqb x tab ≡ t → before tab s ++ tabbed (drop 1 (fields (onward s))) ≡ s → join (fields (x ∷ s)) ≡ x ∷ s
    go true e rest = rw (e, eqb-true x tab e, fields-first s) (ap (λ (l : List ℕ). tab ∷ l) rest)
    go false e rest = rw (e, fields-first s) (ap (λ (l : List ℕ). x ∷ l) rest)

written_back : (fs : List (List ℕ)) → every is_numeral fs ≡ true → tabbed fs ≡ columns (map value_of fs)
written_back [] e = refl
written_back (f ∷ fs) e =
    rw (numeral_writes-back f (and_left_lem (is_numeral f) (every is_numeral fs) e))
    (ap (λ (l : List ℕ). tab ∷ f ++ l) (written_back fs (and_right (is_numeral f) (every is_numeral fs) e)))

by-fields : (head : List ℕ) (count : ℕ) (line : List ℕ) (fs : List (List ℕ)) → join fs ≡ line → has_layout head count fs ≡ true
    → (line ≡ head ++ columns (values_of fs)) × (length (values_of fs) ≡ count)
unfolding has_layout numerals values_of
by-fields head count line [] j e = (cc, cc)
by-fields head count line (f ∷ fs) j e =
    let p = and_left_lem (equal f head) (eqb (length fs) count && every is_numeral fs) e in
    let q = and_right (equal f head) (eqb (length fs) count && every is_numeral fs) e in
    let r = and_right (eqb (length fs) count) (every is_numeral fs) q in (
      sym j ∙ (λ k. equal_is f head p k ++ written_back fs r k),
      length-map fs value_of ∙ eqb-true (length fs) count (and_left_lem (eqb (length fs) count) (every is_numeral fs) q),
    )

-- a line with the layout is what its head word and its numbers are written as
pub spelled : (head : List ℕ) (count : ℕ) (line : List ℕ) → has_layout head count (fields line) ≡ true
    → (line ≡ head ++ columns (values_of (fields line))) × (length (values_of (fields line)) ≡ count)
spelled head count line e = by-fields head count line (fields line) (rejoined line) e

-- a line with another first byte lacks the layout with a head word of one letter
pub other-letter : (letter count : ℕ) (line : List ℕ) → (get_or line 0 0 ≡ letter → ⊥) → has_layout (letter ∷ []) count (fields line) ≡ false
other-letter letter count line h =
    fails (has_layout (letter ∷ []) count (fields line)) (λ e. h (ap (λ (l : List ℕ). get_or l 0 0) (spelled (letter ∷ []) count line e).0))
