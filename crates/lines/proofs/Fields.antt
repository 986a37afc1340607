-- A line taken apart field by field, from the left: its first field, and the bytes where that ends.
use mathlib.Core.Path.{◌≡◌, refl, ap}
use mathlib.Core.List.{List, [], ◌∷◌}
use mathlib.Core.Bool.{Bool, true, false}
use Prim.Native.Nat.{ℕ}
use lib.Dec.{eqb}
use lib.ListN.{length, drop}
use borrow.Author.Tests.{eqb-true, eq-eqb}
use Rattle.lists.proofs.Tests.{and_left_lem, and_right, and_intro}
use Rattle.lines.specs.Lines.{before}
use Rattle.lines.specs.Fields.{tab, on_first, fields, equal}

-- what is left of the bytes where the first field ends
abbrev pub onward : List ℕ → List ℕ
onward s = drop (length (before tab s)) s

-- the first field, and the others where it ends
pub fields-first : (s : List ℕ) → fields s ≡ before tab s ∷ drop 1 (fields (onward s))
fields-first [] = refl
fields-first (x ∷ s) = go (eqb x tab) refl (fields-first s)
  where
    go : (t : Bool) → eqb x tab ≡ t → fields s ≡ before tab s ∷ drop 1 (fields (onward s)) → fields (x ∷ s) ≡ before tab (x ∷ s) ∷ drop 1 (fields (onward (x ∷ s)))
    go true e rest = rw (e, e)
    go false e rest = rw e (ap (on_first x) rest)

-- where a field ends there is an empty one, and the others
pub fields-next : (s : List ℕ) → fields (onward s) ≡ [] ∷ drop 1 (fields (onward s))
fields-next [] = refl
fields-next (x ∷ s) = go (eqb x tab) refl (fields-next s)
  where
    go : (t : Bool) → eqb x tab ≡ t → fields (onward s) ≡ [] ∷ drop 1 (fields (onward s)) → fields (onward (x ∷ s)) ≡ [] ∷ drop 1 (fields (onward (x ∷ s)))
    go true e rest = rw (e, e)
    go false e rest = rw e rest

-- ---- the same bytes

pub equal_is : (xs ys : List ℕ) → equal xs ys ≡ true → xs ≡ ys
equal_is [] [] e = refl
equal_is [] (y ∷ ys) e = cc
equal_is (x ∷ xs) [] e = cc
equal_is (x ∷ xs) (y ∷ ys) e =
    λ j. eqb-true x y (and_left_lem (eqb x y) (equal xs ys) e) j ∷ equal_is xs ys (and_right (eqb x y) (equal xs ys) e) j

pub is-equal : (xs : List ℕ) → equal xs xs ≡ true
is-equal [] = refl
is-equal (x ∷ xs) = and_intro (eq-eqb x x refl) (is-equal xs)
