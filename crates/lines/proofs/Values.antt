-- Laws of reading numbers: the layout, the limits and the array, each by one number more.
use mathlib.Core.Path.{◌≡◌, refl}
use mathlib.Core.List.{List, [], ◌∷◌, ◌++◌}
use mathlib.Core.Bool.{Bool, true, false, ◌&&◌}
use Prim.Native.Nat.{ℕ, zero, suc, ◌<◌, ◌≤◌, zero-le}
use native.Mathlib.Omega.{arith}
use lib.Dec.{eqb, leb, eqb-suc-suc, eqb-suc-zero, eqb-zero-suc}
use lib.ListN.{length, drop, get_or, replicate}
use borrow.Author.Tests.{ne_eqb, le-leb, leb-true}
use Rattle.lists.proofs.Tests.{and_left_lem, and_right}
use Rattle.decimal.specs.Numeral.{is_numeral}
use Rattle.lines.specs.Fields.{tab, fields, numerals, at_most}
use Rattle.lines.specs.Answers.{goes_on}
use Rattle.lines.proofs.Fields.{fields-first}

-- ---- the layout

-- a numeral after a tab leaves it to the others
pub goes_further : (n : ℕ) (f : List ℕ) (fs : List (List ℕ)) → is_numeral f ≡ true → goes_on (suc n) ([] ∷ f ∷ fs) ≡ goes_on n ([] ∷ fs)
unfolding goes_on numerals
goes_further n f fs e = rw (eqb-suc-suc (length fs) n, e)

and-false : (b : Bool) → b && false ≡ false
and-false true = refl
and-false false = refl

pub goes_wrong : (n : ℕ) (f : List ℕ) (fs : List (List ℕ)) → is_numeral f ≡ false → goes_on n ([] ∷ f ∷ fs) ≡ false
unfolding goes_on numerals
goes_wrong n f fs e = rw e (and-false (eqb (suc (length fs)) n))

-- the end of the line is no numeral
pub ends_early : (n : ℕ) → goes_on (suc n) (fields []) ≡ false
unfolding goes_on numerals
ends_early n = rw (eqb-zero-suc n)

-- where a field goes on no tab follows
pub goes_on-field : (n b : ℕ) (bs : List ℕ) → (b ≡ tab → ⊥) → goes_on n (fields (b ∷ bs)) ≡ false
unfolding goes_on
goes_on-field n b bs h = rw (ne_eqb b tab h, fields-first bs, eqb-suc-zero)

-- bytes that are left over are a field too many
pub left_over : (b : ℕ) (bs : List ℕ) → goes_on 0 (fields (b ∷ bs)) ≡ false
unfolding goes_on numerals
left_over b bs = go (eqb b tab) refl
  where
    go : (t : Bool) → eqb b tab ≡ t → goes_on 0 (fields (b ∷ bs)) ≡ false
    go true e = rw (e, fields-first bs, eqb-suc-zero)
    go false e = rw (e, fields-first bs, eqb-suc-zero)

-- ---- the limits

-- a number and its limit, at any place; past the end of the numbers stand zeros
pub at_most_at : (ls ns : List ℕ) → at_most ls ns ≡ true → (k : ℕ) → k < length ls → get_or ns k 0 ≤ get_or ls k 0
at_most_at [] ns e k h = absurd (omega arith)
at_most_at (l ∷ ls) [] e k h = omega arith
at_most_at (l ∷ ls) (n ∷ ns) e zero h = leb-true n l (and_left_lem (leb n l) (at_most ls ns) e)
at_most_at (l ∷ ls) (n ∷ ns) e (suc k) h = at_most_at ls ns (and_right (leb n l) (at_most ls ns) e) k (omega arith)

pub at_most_none : (ls : List ℕ) → at_most ls [] ≡ true
at_most_none [] = refl
at_most_none (l ∷ ls) = refl

-- one number more, from the last on
pub at_most_from : (j : ℕ) (ls ns : List ℕ) → get_or ns j 0 ≤ get_or ls j 0 → at_most (drop (suc j) ls) (drop (suc j) ns) ≡ true
    → at_most (drop j ls) (drop j ns) ≡ true
at_most_from zero [] ns h e = refl
at_most_from zero (l ∷ ls) [] h e = refl
at_most_from zero (l ∷ ls) (n ∷ ns) h e = rw (le-leb n l h) e
at_most_from (suc j) [] ns h e = refl
at_most_from (suc j) (l ∷ ls) [] h e = at_most_none (drop j ls)
at_most_from (suc j) (l ∷ ls) (n ∷ ns) h e = at_most_from j ls ns h e

-- ---- the array

-- zeros after the numbers change neither what stands at a place nor the verdict
pub at-padded : (m : ℕ) (ns : List ℕ) (k : ℕ) → get_or (ns ++ replicate m 0) k 0 ≡ get_or ns k 0
at-padded zero [] k = refl
at-padded (suc m) [] zero = refl
at-padded (suc m) [] (suc k) = at-padded m [] k
at-padded m (n ∷ ns) zero = refl
at-padded m (n ∷ ns) (suc k) = at-padded m ns k

pub at_most_padded : (m : ℕ) (ls ns : List ℕ) → at_most ls ns ≡ true → at_most ls (ns ++ replicate m 0) ≡ true
at_most_padded m [] ns e = refl
at_most_padded zero (l ∷ ls) [] e = refl
at_most_padded (suc m) (l ∷ ls) [] e = rw (le-leb 0 l zero-le) (at_most_padded m ls [] (at_most_none ls))
at_most_padded m (l ∷ ls) (n ∷ ns) e =
    rw (and_left_lem (leb n l) (at_most ls ns) e) (at_most_padded m ls ns (and_right (leb n l) (at_most ls ns) e))
