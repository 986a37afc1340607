-- A search in a list goes by what is left of it; by what a search among keys finds, the place of a key is told.
use mathlib.Core.Path.{◌≡◌, refl, sym, ap, subst, ◌∙◌}
use mathlib.Core.Bool.{Bool, true, false, cond}
use mathlib.Core.List.{List, [], ◌∷◌, ◌++◌, map, Memᴰ}
use Prim.Native.Nat.{ℕ, suc, ◌+◌, ◌≤◌, ◌<◌}
use native.Mathlib.Numerals.{add-one, one-add}
use native.Mathlib.Omega.{arith}
use lib.Dec.{eqb}
use lib.ListN.{length, drop, get_or, drop_of_length-le}
use lib.Seq.{drop-cons}
use Rattle.lists.specs.Lists.{any}
use Rattle.std.proofs.Common.{Option, Some, None}
use Rattle.index.specs.Keys.{index_in, further, first_index, found, place_in}
use Rattle.index.proofs.Indices.{index-here, index-later}

pub further-none : (r : Option ℕ) → further 0 r ≡ r
further-none (Some j) = ap Some (omega arith)
further-none None = refl

pub further-more : (i : ℕ) (r : Option ℕ) → further i (further 1 r) ≡ further (i + 1) r
further-more i (Some j) = ap Some (omega arith)
further-more i None = refl

-- ---- the loop

module _ {A : Type 0} (p : A → Bool) (xs : List A) where
  -- what is found among the elements from i on
  abbrev pub first_left : ℕ → Option ℕ
  first_left i = further i (first_index p (drop i xs))

  pub first-start : first_index p xs ≡ first_left 0
  first-start = sym (further-none (first_index p xs))

  module _ (i : ℕ) (d : A) (h : i < length xs) where
    pub first-here : p (get_or xs i d) ≡ true → first_left i ≡ Some i
    unfolding first_index
    first-here e = rw (drop-cons xs i d h, e) (ap Some (omega arith))

    pub first-passed : p (get_or xs i d) ≡ false → first_left i ≡ first_left (i + 1)
    unfolding first_index
    first-passed e = rw (drop-cons xs i d h, e, ← further-more, add-one i)

  pub first-none : (i : ℕ) → length xs ≤ i → first_left i ≡ None
  unfolding first_index
  first-none i h = rw (drop_of_length-le xs {i = i} h)

-- ---- what an answer says

-- the element at the index passes the test
pub record FoundAt {A : Type 0} (p : A → Bool) (xs : List A) (n : ℕ) : Type 0 where
  pub here : A
  pub within : n < length xs
  pub at : (d : A) → get_or xs n d ≡ here
  pub member : Memᴰ here xs
  pub passes : p here ≡ true

module _ {A : Type 0} (p : A → Bool) where
  abbrev pub Says : List A → Option ℕ → Type 0
  Says xs (Some n) = FoundAt p xs n
  Says xs None = any p xs ≡ false

  first-told : (xs : List A) → Says xs (first_index p xs)
  unfolding first_index
  first-told [] = refl
  first-told (x ∷ xs) = go (p x) refl (first_index p xs) (first-told xs)
    where
      go : (b : Bool) → p x ≡ b → (r : Option ℕ) → Says xs r → Says (x ∷ xs) (cond b (Some 0) (further 1 r))
      go true e r s = record { here = x; within = omega arith; at = λ d. refl; member = Memᴰ.head refl; passes = e }
      go false e (Some n) s =
          rw (one-add n)
          (record {
            here = s.here;
            within = omega (arith, s.within);
            at = s.at;
            member = Memᴰ.tail s.member;
            passes = s.passes;
          })
      go false e None s = rw (e, s)

  pub first_says : (xs : List A) {r : Option ℕ} → first_index p xs ≡ r → Says xs r
  first_says xs e = subst (Says xs) e (first-told xs)

-- a test of what is made of each element
pub first-map : {A B : Type 0} (f : A → B) (p : B → Bool) (xs : List A) → first_index p (map f xs) ≡ first_index (λ x. p (f x)) xs
unfolding first_index
first-map f p [] = refl
first-map f p (x ∷ xs) = ap (λ (r : Option ℕ). cond (p (f x)) (Some 0) (further 1 r)) (first-map f p xs)

-- ---- the place of a key

-- the index found, or another
abbrev or_else : Option ℕ → ℕ → ℕ
or_else (Some n) m = n
or_else None m = m

index-found : (k : ℕ) (xs ys : List ℕ) → index_in k (xs ++ ys) ≡ or_else (found k xs) (length xs + index_in k ys)
unfolding index_in found first_index
index-found k [] ys = omega arith
index-found k (x ∷ xs) ys = go (eqb k x) (found k xs) (index-found k xs ys)
  where
    go : (b : Bool) (r : Option ℕ) → index_in k (xs ++ ys) ≡ or_else r (length xs + index_in k ys)
        → cond b 0 (suc (index_in k (xs ++ ys))) ≡ or_else (cond b (Some 0) (further 1 r)) (suc (length xs) + index_in k ys)
    go true r e = refl
    go false (Some n) e = omega arith
    go false None e = omega arith

module _ (ks : List ℕ) (k : ℕ) where
  pub begin-place : k ≡ 0 → place_in ks k ≡ 0
  unfolding place_in
  begin-place e = index-here k 0 (ks ++ 1 ∷ []) e

  module _ (later : k ≡ 0 → ⊥) {r : Option ℕ} (e : found k ks ≡ r) where
    pub later-place : place_in ks k ≡ or_else r (length ks + index_in k (1 ∷ [])) + 1
    unfolding place_in
    later-place =
        index-later k 0 (ks ++ 1 ∷ []) later ∙ sym (add-one (index_in k (ks ++ 1 ∷ []))) ∙ ap (λ (n : ℕ). n + 1) (index-found k ks (1 ∷ []) ∙ rw e)
