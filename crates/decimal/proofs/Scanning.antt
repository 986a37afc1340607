-- The digits at an offset, read one by one: those that are read and those that follow are all of them, and the value is that of those
-- that are read, unless these are above the limit.
use mathlib.Core.Path.{◌≡◌, refl, sym, ap, ◌∙◌}
use mathlib.Core.List.{List, [], ◌∷◌, ◌++◌, append-nil, append_assoc}
use mathlib.Core.Bool.{Bool, true, false, not, ◌&&◌, ◌||◌, cond}
use Prim.Native.Nat.{ℕ, suc, ◌+◌, ◌-◌, ◌*◌, ◌<◌, ◌≤◌}
use native.Mathlib.Numerals.{add-one}
use native.Mathlib.Omega.{arith}
use lib.Dec.{eqb, ltb, leb, eqb-suc-zero}
use lib.ListN.{length, drop, get_or, drop_of_length-le, length-append}
use lib.Seq.{drop-cons, get_or-drop}
use borrow.Author.Tests.{le-leb, lt-leb, lt-ltb, ltb-true, ltb-false}
use Rattle.std.specs.Prelude.{Result, Ok, Err}
use Rattle.decimal.specs.declared.Fault.{Fault}
use Rattle.decimal.specs.declared.Fault.TheVariants.{Above, Malformed}
use Rattle.decimal.specs.declared.Scanned.{Scanned}
use Rattle.decimal.specs.Numeral.{is_digit, all_digits, leading_zero, is_numeral, value_of}
use Rattle.decimal.specs.Answers.{field_of, digits_front, DigitAt, scan_of, field_by}
use Rattle.decimal.proofs.Laws.{value-snoc}

-- ---- the digits at the front

module _ (s : List ℕ) (i : ℕ) where
  pub one-digit : i < length s → is_digit (get_or s i 0) ≡ true → digits_front (drop i s) ≡ get_or s i 0 ∷ digits_front (drop (i + 1) s)
  one-digit h e = rw (add-one i, drop-cons s i 0 h, e) refl

  pub no_digit : i < length s → is_digit (get_or s i 0) ≡ false → digits_front (drop i s) ≡ []
  no_digit h e = rw (drop-cons s i 0 h, e)

  pub no_byte : length s ≤ i → digits_front (drop i s) ≡ []
  no_byte h = rw (drop_of_length-le s {i = i} h)

-- they are digits
front-digits : (s : List ℕ) → all_digits (digits_front s) ≡ true
front-digits [] = refl
front-digits (b ∷ bs) = go (is_digit b) refl (front-digits bs)
  where
    go : (t : Bool) → is_digit b ≡ t → all_digits (digits_front bs) ≡ true → all_digits (cond t (b ∷ digits_front bs) []) ≡ true
    go true e h = rw e h
    go false e h = refl

not-both : {b : Bool} → b ≡ true → b ≡ false → ⊥
not-both {b} e f = omega (arith, ap {B = ℕ} (λ (t : Bool). cond t 0 1) (sym e ∙ f))

-- ---- what they say

module _ (ds : List ℕ) (first value limit : ℕ) (above : Bool) (all : all_digits (first ∷ ds) ≡ true)
    (clean : above ≡ false → value ≡ value_of (first ∷ ds)) (high : above ≡ true → limit < value_of (first ∷ ds)) where
  some-judged : field_by first (suc (length ds)) value above limit ≡ field_of (first ∷ ds) limit
  unfolding field_by field_of is_numeral leading_zero
  some-judged =
      rw (lt-ltb 0 (suc (length ds)) (omega arith), eqb-suc-zero (length ds), all) (by (eqb first 48) (ltb 1 (suc (length ds))) above refl)
    where
      within : (b : Bool) → above ≡ b
          → cond (b || ltb limit value) (Err Above) (Ok value) ≡ cond (leb (value_of (first ∷ ds)) limit) (Ok (value_of (first ∷ ds))) (Err Above)
      within true e = rw (lt-leb (value_of (first ∷ ds)) limit (high e)) refl
      within false e = go (ltb limit value) refl
        where
          go : (t : Bool) → ltb limit value ≡ t → cond t (Err Above) (Ok value) ≡ cond (leb (value_of (first ∷ ds)) limit) (Ok (value_of (first ∷ ds))) (Err Above)
          go true f = rw (sym (clean e), lt-leb value limit (ltb-true limit value f)) refl
          go false f = rw (sym (clean e), le-leb value limit (ltb-false limit value f)) refl

      by : (z m b : Bool) → above ≡ b → cond (z && m) (Err Malformed) (cond (b || ltb limit value) (Err Above) (Ok value))
          ≡ cond (not (m && z) && true) (cond (leb (value_of (first ∷ ds)) limit) (Ok (value_of (first ∷ ds))) (Err Above)) (Err Malformed)
      by true true b e = refl
      by true false b e = within b e
      by false true b e = within b e
      by false false b e = within b e

judged : (t : List ℕ) (value limit : ℕ) (above : Bool) → (above ≡ false → value ≡ value_of (digits_front t)) → (above ≡ true → limit < value_of (digits_front t))
    → field_by (get_or t 0 0) (length (digits_front t)) value above limit ≡ field_of (digits_front t) limit
unfolding field_by field_of is_numeral
judged [] value limit above clean high = refl
judged (b ∷ bs) value limit above clean high = go (is_digit b) refl clean high
  where
    go : (t : Bool) → is_digit b ≡ t → (above ≡ false → value ≡ value_of (cond t (b ∷ digits_front bs) []))
        → (above ≡ true → limit < value_of (cond t (b ∷ digits_front bs) []))
        → field_by b (length (cond t (b ∷ digits_front bs) [])) value above limit ≡ field_of (cond t (b ∷ digits_front bs) []) limit
    go true e c h = some-judged (digits_front bs) b value limit above (rw e (front-digits bs)) c h
    go false e c h = refl

-- ---- the loop

pub record Scanning (s : List ℕ) (from limit value : ℕ) (above : Bool) (i : ℕ) : Type 0 where
  pub done : List ℕ
  pub at : from + length done ≡ i
  pub whole : digits_front (drop from s) ≡ done ++ digits_front (drop i s)
  pub clean : above ≡ false → value ≡ value_of done
  pub high : above ≡ true → limit < value_of done

pub scan-begun : (s : List ℕ) (from limit : ℕ) → Scanning s from limit 0 false from
unfolding value_of
scan-begun s from limit = record { done = []; at = omega arith; whole = refl; clean = λ e. refl; high = λ e. absurd (not-both e refl) }

module _ {s : List ℕ} {from limit value : ℕ} {above : Bool} {i : ℕ} (r : Scanning s from limit value above i) where
  -- one digit more
  module _ {digit : ℕ} (d : DigitAt s i digit) where
    value-more : value_of (r.done ++ get_or s i 0 ∷ []) ≡ value_of r.done * 10 + digit
    unfolding value_of
    value-more = rw d.is (value-snoc 0 r.done (get_or s i 0))

    more : {value' : ℕ} {above' : Bool} → (above' ≡ false → value' ≡ value_of r.done * 10 + digit) → (above' ≡ true → limit < value_of r.done * 10 + digit)
        → Scanning s from limit value' above' (i + 1)
    more clean high =
        record {
          done = r.done ++ get_or s i 0 ∷ [];
          at = omega (arith, r.at, length-append r.done (get_or s i 0 ∷ []));
          whole = r.whole ∙ rw (one-digit s i d.there d.digit) (sym (append_assoc r.done (get_or s i 0 ∷ []) (digits_front (drop (i + 1) s))));
          clean = λ e. clean e ∙ sym value-more;
          high = λ e. omega (arith, high e, value-more);
        }

    -- taken into the value
    pub scan-more : Scanning s from limit (value * 10 + digit) above (i + 1)
    scan-more = more (λ e. omega (arith, r.clean e)) (λ e. omega (arith, r.high e))

    -- above the limit with it
    pub scan-above : ltb limit (value * 10 + digit) ≡ true → Scanning s from limit value true (i + 1)
    scan-above e = more (λ f. absurd (not-both refl f)) (λ f. over above refl)
      where
        over : (b : Bool) → above ≡ b → limit < value_of r.done * 10 + digit
        over true g = omega (arith, r.high g)
        over false g = omega (arith, ltb-true limit (value * 10 + digit) e, r.clean g)

  -- none is left
  module _ (none : digits_front (drop i s) ≡ []) where
    all_read : digits_front (drop from s) ≡ r.done
    all_read = r.whole ∙ ap (λ (ds : List ℕ). r.done ++ ds) none ∙ append-nil r.done

    -- what the digits say
    pub scan-done : {f : Result ℕ Fault} → f ≡ field_by (get_or s from 0) (i - from) value above limit
        → ◌≡◌ {A = Scanned} (record { field = f; next = i }) (scan_of s from limit)
    unfolding scan_of
    scan-done e =
        let n : from + length (digits_front (drop from s)) ≡ i = ap (λ (ds : List ℕ). from + length ds) all_read ∙ r.at in
        let count : i - from ≡ length (digits_front (drop from s)) = omega (arith, n) in
        let first : get_or (drop from s) 0 0 ≡ get_or s from 0 = get_or-drop from s 0 0 ∙ ap (λ (k : ℕ). get_or s k 0) (omega arith) in
        let clean : above ≡ false → value ≡ value_of (digits_front (drop from s)) = λ f. r.clean f ∙ ap value_of (sym all_read) in
        let high : above ≡ true → limit < value_of (digits_front (drop from s)) = λ f. omega (arith, r.high f, ap value_of all_read) in
        let same : _ ≡ field_of (digits_front (drop from s)) limit =
        e ∙ rw count
        (ap (λ (b : ℕ). field_by b (length (digits_front (drop from s))) value above limit) (sym first) ∙ judged (drop from s) value limit above clean high) in
        λ j. record { field = same j; next = sym n j }
