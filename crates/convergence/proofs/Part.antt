-- Some of the elements of a list, in their order: what members, tests and lengths have to do with it.
use Prim.Native.Nat.{suc, ◌+◌, ◌≤◌}
use native.Mathlib.Omega.{arith}
use mathlib.Core.Path.{◌≡◌, refl, sym, subst}
use mathlib.Core.Bool.{Bool, true, false, not, cond}
use mathlib.Core.List.{List, [], ◌∷◌, ◌++◌, map, Memᴰ}
use lib.ListN.{length}
use borrow.Author.Tests.{not-true}
use Rattle.lists.specs.Lists.{any, keep, distinct}
use Rattle.lists.proofs.Tests.{and_left_lem, and_right, and_intro, not-intro, or-false-left, or-false-right, or-false}
use Rattle.convergence.proofs.Extract.{Extract, front, past}

-- xs are some of the elements of zs, in their order
pub data Part {A : Type 0} : List A → List A → Type 0 where
  none : Part [] []
  skip : {z : A} {xs zs : List A} → Part xs zs → Part xs (z ∷ zs)
  keeps : {z : A} {xs zs : List A} → Part xs zs → Part (z ∷ xs) (z ∷ zs)

module _ {A : Type 0} where
  pub part_member : {x : A} {xs zs : List A} → Part xs zs → Memᴰ x xs → Memᴰ x zs
  part_member none m = elim m [ ]
  part_member (skip p) m = Memᴰ.tail (part_member p m)
  part_member (keeps p) (Memᴰ.head e) = Memᴰ.head e
  part_member (keeps p) (Memᴰ.tail m) = Memᴰ.tail (part_member p m)

  pub part_same : (xs : List A) → Part xs xs
  part_same [] = none
  part_same (x ∷ xs) = keeps (part_same xs)

  pub part-append : {xs zs : List A} (ys : List A) → Part xs zs → Part (xs ++ ys) (zs ++ ys)
  part-append ys none = part_same ys
  part-append ys (skip p) = skip (part-append ys p)
  part-append ys (keeps p) = keeps (part-append ys p)

  pub part_length : {xs zs : List A} → Part xs zs → length xs ≤ length zs
  part_length none = omega arith
  part_length (skip p) = omega (arith, part_length p)
  part_length (keeps p) = omega (arith, part_length p)

  -- one element more
  pub part_extract : {y : A} {xs ys zs : List A} → Part xs ys → Extract y ys zs → Part xs zs
  part_extract p front = skip p
  part_extract {y} {xs} (skip p) (past e) = skip (part_extract {xs = xs} p e)
  part_extract {y} (keeps {z = z} {xs = xs} p) (past e) = keeps (part_extract {xs = xs} p e)

  -- a change of elements that are not among the part
  pub part_change : (f : A → A) {xs zs : List A} → ((x : A) → Memᴰ x xs → f x ≡ x) → Part xs zs → Part xs (map f zs)
  part_change f h none = none
  part_change f h (skip p) = skip (part_change f h p)
  part_change f h (keeps {z = z} {xs = xs} {zs = zs} p) =
      subst (λ (y : A). Part (z ∷ xs) (y ∷ map f zs)) (sym (h z (Memᴰ.head refl))) (keeps (part_change f (λ x m. h x (Memᴰ.tail m)) p))

  part-any : (p : A → Bool) {xs zs : List A} → Part xs zs → any p zs ≡ false → any p xs ≡ false
  part-any p none h = refl
  part-any p (skip {z = z} {zs = zs} q) h = part-any p q (or-false-right (p z) (any p zs) h)
  part-any p (keeps {z = z} {zs = zs} q) h = or-false (or-false-left (p z) (any p zs) h) (part-any p q (or-false-right (p z) (any p zs) h))

  pub part-distinct : (s : A → A → Bool) {xs zs : List A} → Part xs zs → distinct s zs ≡ true → distinct s xs ≡ true
  part-distinct s none h = refl
  part-distinct s (skip {z = z} {zs = zs} p) h = part-distinct s p (and_right (not (any (s z) zs)) (distinct s zs) h)
  part-distinct s (keeps {z = z} {zs = zs} p) h =
      and_intro (not-intro (part-any (s z) p (not-true (any (s z) zs) (and_left_lem (not (any (s z) zs)) (distinct s zs) h))))
      (part-distinct s p (and_right (not (any (s z) zs)) (distinct s zs) h))

  -- of those that pass a test the part has no more, and lacks at most as many as it lacks elements
  pub part_counts : (v : A → Bool) {xs zs : List A} → Part xs zs → (length (keep v xs) ≤ length (keep v zs)) × (length (keep v zs) + length xs ≤ length (keep v xs) + length zs)
  part_counts v none = (omega arith, omega arith)
  part_counts v (skip {z = z} {xs = xs} {zs = zs} p) = go (v z) (part_counts v p)
    where
      go : (b : Bool) → (length (keep v xs) ≤ length (keep v zs)) × (length (keep v zs) + length xs ≤ length (keep v xs) + length zs)
          → (length (keep v xs) ≤ length (cond b (z ∷ keep v zs) (keep v zs))) × (length (cond b (z ∷ keep v zs) (keep v zs)) + length xs ≤ length (keep v xs) + suc (length zs))
      go true h = (omega arith, omega arith)
      go false h = (omega arith, omega arith)
  part_counts v (keeps {z = z} {xs = xs} {zs = zs} p) = go (v z) (part_counts v p)
    where
      go : (b : Bool) → (length (keep v xs) ≤ length (keep v zs)) × (length (keep v zs) + length xs ≤ length (keep v xs) + length zs)
          → (length (cond b (z ∷ keep v xs) (keep v xs)) ≤ length (cond b (z ∷ keep v zs) (keep v zs)))
          × (length (cond b (z ∷ keep v zs) (keep v zs)) + suc (length xs) ≤ length (cond b (z ∷ keep v xs) (keep v xs)) + suc (length zs))
      go true h = (omega arith, omega arith)
      go false h = (omega arith, omega arith)

pub part-map : {A B : Type 0} (f : A → B) {xs zs : List A} → Part xs zs → Part (map f xs) (map f zs)
part-map f none = none
part-map f (skip p) = skip (part-map f p)
part-map f (keeps p) = keeps (part-map f p)
