-- The digits at the front of a field are all of it where a tab or the end follows them; where another byte does, the field is no numeral.
use mathlib.Core.Path.{◌≡◌, refl, sym, ap, ◌∙◌}
use mathlib.Core.List.{List, [], ◌∷◌}
use mathlib.Core.Bool.{Bool, true, false, not, ◌&&◌, cond}
use Prim.Native.Nat.{ℕ, suc, ◌+◌, ◌-◌}
use native.Mathlib.Omega.{arith}
use lib.Dec.{eqb, ltb}
use lib.ListN.{length, drop, length-drop}
use lib.Seq.{get_or-drop}
use borrow.Author.Tests.{ne_eqb, lt-ltb, le-ltb, ltb-true, ltb-false, not-true, not-false}
use Rattle.lists.proofs.Tests.{and_left_lem, and_right}
use Rattle.decimal.specs.Numeral.{is_digit, all_digits, leading_zero, is_numeral}
use Rattle.decimal.specs.Answers.{digits_front}
use Rattle.decimal.proofs.Laws.{digit-range}
use Rattle.lines.specs.Lines.{before}
use Rattle.lines.specs.Fields.{tab}
use Rattle.lines.specs.Answers.{goes_on_at}

-- a digit is no tab
no-tab : (b : ℕ) → is_digit b ≡ true → eqb b tab ≡ false
no-tab b e = ne_eqb b tab (λ t. omega (arith, (digit-range b e).0))

-- what is below is, with as much more on either side
below_more : (n m k : ℕ) → ltb (m + k) n ≡ ltb k (n - m)
below_more n m k = go (ltb k (n - m)) refl
  where
    go : (t : Bool) → ltb k (n - m) ≡ t → ltb (m + k) n ≡ t
    go true e = lt-ltb (m + k) n (omega (arith, ltb-true k (n - m) e))
    go false e = le-ltb (m + k) n (omega (arith, ltb-false k (n - m) e))

-- the same byte, by its offset in what is left
goes_at : (line : List ℕ) (from k : ℕ) → goes_on_at line (from + k) ≡ goes_on_at (drop from line) k
unfolding goes_on_at
goes_at line from k = rw (below_more (length line) from k, length-drop from line, get_or-drop from line k 0) refl

-- one byte further
goes_later : (b : ℕ) (bs : List ℕ) (k : ℕ) → goes_on_at (b ∷ bs) (suc k) ≡ goes_on_at bs k
goes_later b bs k = ap (goes_on_at (b ∷ bs)) (omega arith) ∙ goes_at (b ∷ bs) 1 k

nothing_goes : (k : ℕ) → goes_on_at [] k ≡ true → ⊥
unfolding goes_on_at
nothing_goes k e = omega (arith, ltb-true k 0 (and_left_lem (ltb k 0) (not (eqb 0 tab)) e))

at-tab : (b : ℕ) (bs : List ℕ) → goes_on_at (b ∷ bs) 0 ≡ false → eqb b tab ≡ true
unfolding goes_on_at
at-tab b bs e = not-false (eqb b tab) (sym (rw (lt-ltb 0 (suc (length bs)) (omega arith)) refl) ∙ e)

not-tab : (b : ℕ) (bs : List ℕ) → goes_on_at (b ∷ bs) 0 ≡ true → eqb b tab ≡ false
unfolding goes_on_at
not-tab b bs e = not-true (eqb b tab) (and_right (ltb 0 (suc (length bs))) (not (eqb b tab)) e)

-- at the front of all bytes
front_ends : (t : List ℕ) → goes_on_at t (length (digits_front t)) ≡ false → before tab t ≡ digits_front t
front_ends [] e = refl
front_ends (b ∷ bs) e = go (is_digit b) refl (front_ends bs) e
  where
    go : (d : Bool) → is_digit b ≡ d → (goes_on_at bs (length (digits_front bs)) ≡ false → before tab bs ≡ digits_front bs)
        → goes_on_at (b ∷ bs) (length (cond d (b ∷ digits_front bs) [])) ≡ false → before tab (b ∷ bs) ≡ cond d (b ∷ digits_front bs) []
    go true d rest f = rw (no-tab b d) (ap (λ (l : List ℕ). b ∷ l) (rest (sym (goes_later b bs (length (digits_front bs))) ∙ f)))
    go false d rest f = rw (at-tab b bs f)

front_goes : (t : List ℕ) → goes_on_at t (length (digits_front t)) ≡ true → all_digits (before tab t) ≡ false
front_goes [] e = absurd (nothing_goes 0 e)
front_goes (b ∷ bs) e = go (is_digit b) refl (front_goes bs) e
  where
    go : (d : Bool) → is_digit b ≡ d → (goes_on_at bs (length (digits_front bs)) ≡ true → all_digits (before tab bs) ≡ false)
        → goes_on_at (b ∷ bs) (length (cond d (b ∷ digits_front bs) [])) ≡ true → all_digits (before tab (b ∷ bs)) ≡ false
    go true d rest f = rw (no-tab b d, d) (rest (sym (goes_later b bs (length (digits_front bs))) ∙ f))
    go false d rest f = rw (not-tab b bs f, d)

-- from an offset on
module _ (line : List ℕ) (from : ℕ) {next : ℕ} (n : next ≡ from + length (digits_front (drop from line))) where
  pub run_ends : goes_on_at line next ≡ false → before tab (drop from line) ≡ digits_front (drop from line)
  run_ends e = front_ends (drop from line) (sym (ap (goes_on_at line) n ∙ goes_at line from (length (digits_front (drop from line)))) ∙ e)

  pub run_goes : goes_on_at line next ≡ true → is_numeral (before tab (drop from line)) ≡ false
  unfolding is_numeral
  run_goes e =
      rw (front_goes (drop from line) (sym (ap (goes_on_at line) n ∙ goes_at line from (length (digits_front (drop from line)))) ∙ e))
      (and_none (ltb 0 (length (before tab (drop from line))) && not (leading_zero (before tab (drop from line)))))
    where
      and_none : (b : Bool) → b && false ≡ false
      and_none true = refl
      and_none false = refl
