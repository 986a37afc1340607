-- The invariant of `read_numbers` and of `read_ending`: of the whole, what is left decides on the layout; the numbers
-- read are the first of all, and, unless one was above its limit, they stand in the array.
use mathlib.Core.Path.{◌≡◌, refl, sym, ap, ◌∙◌}
use mathlib.Core.List.{List, [], ◌∷◌, ◌++◌, append-nil}
use mathlib.Core.Bool.{Bool, true, false, not, ◌&&◌, cond}
use Prim.Native.Nat.{ℕ, suc, ◌+◌, ◌<◌, ◌≤◌}
use native.Mathlib.Numerals.{add-one}
use native.Mathlib.Omega.{arith}
use lib.Dec.{leb}
use lib.ListN.{length, drop, set, get_or, length-append, drop_of_length-le}
use lib.Seq.{append_snoc, drop-cons, drop-drop}
use borrow.Author.Tests.{le-leb, lt-leb}
use Rattle.lists.specs.Padding.{pad}
use Rattle.lists.proofs.Padding.{pad-push}
use Rattle.decimal.specs.Numeral.{is_numeral, value_of}
use Rattle.std.specs.Prelude.{Result, Ok, Err}
use Rattle.decimal.specs.declared.Fault.{Fault}
use Rattle.decimal.specs.declared.Fault.TheVariants.{Above, Malformed}
use Rattle.decimal.specs.Answers.{field_of}
use Rattle.decimal.proofs.Laws.{field-number, field-above, field-malformed}
use Rattle.lines.specs.Lines.{before}
use Rattle.lines.specs.Fields.{tab, fields, numerals, values_of, at_most}
use Rattle.lines.specs.Answers.{slots, goes_on, verdict_on, numbers_after, unless}
use Rattle.lines.proofs.Fields.{onward, fields-first, fields-next}
use Rattle.lines.proofs.Values.{goes_further, goes_wrong, ends_early, goes_on-field, left_over}

-- a fault that was told, by the one that it is
pub is-fault : {r : Result ℕ Fault} {f g : Fault} → r ≡ Err f → f ≡ g → r ≡ Err g
is-fault e h = e ∙ ap Err h

pub record Reading (line limits : List ℕ) (from : ℕ) (values : List ℕ) (above : Bool) (at i : ℕ) : Type 0 where
  pub read : List ℕ
  pub count : length read ≡ i
  pub few : length limits ≤ slots
  pub layout : goes_on (length limits) (fields (drop from line)) ≡ goes_on (length (drop i limits)) (fields (drop at line))
  pub told : values_of (fields (drop from line)) ≡ read ++ values_of (fields (drop at line))
  pub judged : (ns : List ℕ) → at_most limits (read ++ ns) ≡ not above && at_most (drop i limits) ns
  pub stored : above ≡ false → values ≡ pad slots 0 read

and_true : (b : Bool) → b && true ≡ b
and_true true = refl
and_true false = refl

and_none : (b : Bool) → b && false ≡ false
and_none true = refl
and_none false = refl

pub begun : (line limits : List ℕ) (from : ℕ) → length limits ≤ slots → Reading line limits from (0 ∷ 0 ∷ 0 ∷ 0 ∷ 0 ∷ 0 ∷ 0 ∷ 0 ∷ 0 ∷ []) false from 0
unfolding pad
begun line limits from h = record {
  read = [];
  count = refl;
  few = h;
  layout = refl;
  told = refl;
  judged = λ ns. refl;
  stored = λ e. refl;
}

module _ {line limits : List ℕ} {from : ℕ} {values : List ℕ} {above : Bool} {at i : ℕ} (r : Reading line limits from values above at i) where
  -- the answer where what is left lacks the layout
  pub malformed : goes_on (length (drop i limits)) (fields (drop at line)) ≡ false → Err Malformed ≡ numbers_after limits (fields (drop from line))
  unfolding numbers_after verdict_on
  malformed e = rw (r.layout, e)

  -- one limit more at least is left
  module _ (h : i < length limits) where
    left : drop i limits ≡ get_or limits i 0 ∷ drop (i + 1) limits
    left = rw (add-one i) (drop-cons limits i 0 h)

    -- the line is at its end
    pub short : length line ≤ at → Err Malformed ≡ numbers_after limits (fields (drop from line))
    short k = malformed (rw (left, drop_of_length-le line k) (ends_early (length (drop (i + 1) limits))))

    -- the field goes on
    pub no-tab : at < length line → (get_or line at 0 ≡ tab → ⊥) → Err Malformed ≡ numbers_after limits (fields (drop from line))
    no-tab k e =
        malformed (rw (drop-cons line at 0 k) (goes_on-field (length (drop i limits)) (get_or line at 0) (drop (suc at) line) e))

    module _ (k : at < length line) (e : get_or line at 0 ≡ tab) where
      bytes : List ℕ
      bytes = drop (at + 1) line

      others : List (List ℕ)
      others = drop 1 (fields (onward bytes))

      -- a tab and the next field stand here
      here : fields (drop at line) ≡ [] ∷ before tab bytes ∷ others
      unfolding bytes others
      here = rw (drop-cons line at 0 k, e, add-one at, fields-first (drop (suc at) line))

      after_it : fields (drop (at + 1 + length (before tab (drop (at + 1) line))) line) ≡ [] ∷ others
      unfolding bytes others
      after_it =
          ap fields (sym (drop-drop (length (before tab (drop (at + 1) line))) (at + 1) line)) ∙ fields-next (drop (at + 1) line)

      value : ℕ
      value = value_of (before tab (drop (at + 1) line))

      -- the next number is read, whatever the verdict on it
      more : is_numeral (before tab (drop (at + 1) line)) ≡ true → (values' : List ℕ) (above' : Bool)
          → ((ns : List ℕ) → not above && (leb value (get_or limits i 0) && at_most (drop (i + 1) limits) ns) ≡ not above' && at_most (drop (i + 1) limits) ns)
          → (above' ≡ false → values' ≡ pad slots 0 (r.read ++ (value ∷ [])))
          → Reading line limits from values' above' (at + 1 + length (before tab (drop (at + 1) line))) (i + 1)
      unfolding bytes others value values_of
      more q values' above' judge store = record {
        read = r.read ++ (value ∷ []);
        count = length-append r.read (value ∷ []) ∙ ap (λ (k : ℕ). k + 1) r.count;
        few = r.few;
        layout = r.layout ∙ rw (left, here, after_it) (goes_further (length (drop (i + 1) limits)) (before tab bytes) others q);
        told = r.told ∙ rw (here, after_it) (sym (append_snoc r.read value _));
        judged = λ ns. ap (at_most limits) (append_snoc r.read value ns) ∙ r.judged (value ∷ ns) ∙ rw left (judge ns);
        stored = store;
      }

      -- it is no numeral
      pub not_numeral : is_numeral (before tab (drop (at + 1) line)) ≡ false → Err Malformed ≡ numbers_after limits (fields (drop from line))
      unfolding bytes
      not_numeral q = malformed (rw here (goes_wrong (length (drop i limits)) (before tab bytes) others q))

      -- the line ends at the tab
      pub nothing_left : length line ≤ at + 1 → Err Malformed ≡ numbers_after limits (fields (drop from line))
      unfolding is_numeral
      nothing_left n = not_numeral (rw (drop_of_length-le line n) refl)

      -- the next field is found at the tab or the end after it
      module _ {part : List ℕ} (cut : part ≡ before tab (drop (at + 1) line)) where
        field_is : {a : Result ℕ Fault} → field_of part (get_or limits i 0) ≡ a → field_of (before tab (drop (at + 1) line)) (get_or limits i 0) ≡ a
        field_is q = ap (λ (l : List ℕ). field_of l (get_or limits i 0)) (sym cut) ∙ q

        pub no_numeral : field_of part (get_or limits i 0) ≡ Err Malformed → Err Malformed ≡ numbers_after limits (fields (drop from line))
        no_numeral q = not_numeral (field-malformed (before tab (drop (at + 1) line)) (get_or limits i 0) (field_is q))

        module _ {at' : ℕ} (found : at' ≡ at + 1 + length (before tab (drop (at + 1) line))) where
          -- its number is above the limit
          pub next-above : field_of part (get_or limits i 0) ≡ Err Above → Reading line limits from values true at' (i + 1)
          unfolding value
          next-above q =
              let got = field-above (before tab (drop (at + 1) line)) (get_or limits i 0) (field_is q) in
              rw found (more got.0 values true (λ ns. rw (lt-leb value (get_or limits i 0) got.1) (and_none (not above))) (λ e. cc))

          -- its number is stored
          pub next-number : {n : ℕ} → field_of part (get_or limits i 0) ≡ Ok n → Reading line limits from (set values i n) above at' (i + 1)
          unfolding value
          next-number {n} q =
              let got = field-number (before tab (drop (at + 1) line)) n (get_or limits i 0) (field_is q) in
              let same : n ≡ value = got.1 in
              let low : value ≤ get_or limits i 0 = omega (arith, same, got.2) in
              rw found
              (more got.0 (set values i n) above (λ ns. rw (le-leb value (get_or limits i 0) low))
              (λ e. rw (r.stored e, same, ← r.count) (pad-push slots 0 r.read value (omega (arith, r.count, r.few)))))

  -- no limit is left
  module _ (h : length limits ≤ i) where
    none_left : drop i limits ≡ []
    none_left = drop_of_length-le limits h

    -- bytes are
    pub too_long : at < length line → Err Malformed ≡ numbers_after limits (fields (drop from line))
    too_long k = malformed (rw (none_left, drop-cons line at 0 k) (left_over (get_or line at 0) (drop (suc at) line)))

    module _ (k : length line ≤ at) where
      laid_out_lem : goes_on (length limits) (fields (drop from line)) ≡ true
      unfolding goes_on numerals
      laid_out_lem = r.layout ∙ rw (none_left, drop_of_length-le line k)

      all_read : values_of (fields (drop from line)) ≡ r.read
      unfolding values_of
      all_read = r.told ∙ rw (drop_of_length-le line k) (append-nil r.read)

      verdict : at_most limits (values_of (fields (drop from line))) ≡ not above
      verdict = rw all_read (ap (at_most limits) (sym (append-nil r.read)) ∙ r.judged [] ∙ rw none_left (and_true (not above)))

      -- its numbers count unless one was above its limit
      pub all-judged : unless above values ≡ numbers_after limits (fields (drop from line))
      unfolding unless numbers_after verdict_on
      all-judged = rw (laid_out_lem, verdict) (go above refl)
        where
          go : (a : Bool) → above ≡ a
              → cond a (Err Above) (Ok values)
              ≡ cond (not a) (Ok (pad slots 0 (values_of (fields (drop from line))))) (Err Above)
          go true e = refl
          go false e = rw all_read (ap Ok (r.stored e))
