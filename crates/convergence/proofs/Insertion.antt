-- An element put into a list after its first k: what the list then holds. All is proved of any list, and holds of
-- `insertAt` because that is the same on characters.
use Prim.Native.Nat.{ℕ, zero, suc, ◌≤◌}
use native.Mathlib.Nat.{le_of_suc-le-suc, not-suc-le-zero}
use mathlib.Core.Path.{◌≡◌, refl, ap, sym, ◌∙◌, subst}
use mathlib.Core.Bool.{Bool, true, false, ◌&&◌, ◌||◌, not}
use mathlib.Core.List.Memᴰ
use mathlib.Core.List.{List, [], ◌∷◌, ◌++◌, map, Memᴰ}
use mathlib.Core.Logic.{◌⊎◌, inl, inr, ⊎_elim}
use lib.ListN.{length, take, drop}
use borrow.Author.Tests.{not-true}
use Rattle.woot.specs.declared.Identifier.{Identifier}
use Rattle.woot.specs.declared.Character.{Character}
use Rattle.woot.specs.Identifiers.{same}
use Rattle.lists.specs.Lists.{any, every, distinct}
use Rattle.woot.specs.Placing.{identifiers, insert_at}
use Rattle.lists.proofs.Tests.{and_left_lem, and_right, and_intro, or-false-left, or-false-right, or-false, not-intro}
use Rattle.lists.proofs.Members.{any_append}
use Rattle.convergence.proofs.Identifiers.{same_sym}

or_swap : (a b c : Bool) → (a || (b || c)) ≡ (b || (a || c))
or_swap true true c = refl
or_swap true false c = refl
or_swap false b c = refl

and-swap : (a b c : Bool) → (a && (b && c)) ≡ (b && (a && c))
and-swap true b c = refl
and-swap false true c = refl
and-swap false false c = refl

module _ {A : Type 0} where
  -- y after the first k of a list, at its end where it is shorter
  abbrev pub put_after : ℕ → A → List A → List A
  put_after zero y xs = y ∷ xs
  put_after (suc k) y [] = y ∷ []
  put_after (suc k) y (x ∷ xs) = x ∷ put_after k y xs

  pub put-length : (k : ℕ) (y : A) (xs : List A) → length (put_after k y xs) ≡ suc (length xs)
  put-length zero y xs = refl
  put-length (suc k) y [] = refl
  put-length (suc k) y (x ∷ xs) = ap suc (put-length k y xs)

  pub put-split : (k : ℕ) (y : A) (xs : List A) → put_after k y xs ≡ take k xs ++ y ∷ drop k xs
  put-split zero y xs = refl
  put-split (suc k) y [] = refl
  put-split (suc k) y (x ∷ xs) = ap (λ (l : List A). x ∷ l) (put-split k y xs)

  pub put-append : (k : ℕ) (y : A) (xs ys : List A) → k ≤ length xs → put_after k y xs ++ ys ≡ put_after k y (xs ++ ys)
  put-append zero y xs ys h = refl
  put-append (suc k) y [] ys h = absurd (not-suc-le-zero h)
  put-append (suc k) y (x ∷ xs) ys h = ap (λ (l : List A). x ∷ l) (put-append k y xs ys (le_of_suc-le-suc h))

  pub put_member : (k : ℕ) (y : A) (xs : List A) {z : A} → Memᴰ z (put_after k y xs) → (z ≡ y) ⊎ Memᴰ z xs
  put_member zero y xs m = Memᴰ.cases_cons m
  put_member (suc k) y [] m = Memᴰ.cases_cons m
  put_member (suc k) y (x ∷ xs) {z} m = ⊎_elim (λ e. inr (Memᴰ.head e)) (λ n. later (put_member k y xs n)) (Memᴰ.cases_cons m)
    where
      later : (z ≡ y) ⊎ Memᴰ z xs → (z ≡ y) ⊎ Memᴰ z (x ∷ xs)
      later (inl e) = inl e
      later (inr n) = inr (Memᴰ.tail n)

  pub member_put-new : (k : ℕ) (y : A) (xs : List A) → Memᴰ y (put_after k y xs)
  member_put-new zero y xs = Memᴰ.head refl
  member_put-new (suc k) y [] = Memᴰ.head refl
  member_put-new (suc k) y (x ∷ xs) = Memᴰ.tail (member_put-new k y xs)

  pub member_put_old : (k : ℕ) (y : A) (xs : List A) {z : A} → Memᴰ z xs → Memᴰ z (put_after k y xs)
  member_put_old zero y xs m = Memᴰ.tail m
  member_put_old (suc k) y [] m = absurd (Memᴰ.not-nil m)
  member_put_old (suc k) y (x ∷ xs) m = ⊎_elim (λ e. Memᴰ.head e) (λ n. Memᴰ.tail (member_put_old k y xs n)) (Memᴰ.cases_cons m)

  pub put-any : (p : A → Bool) (k : ℕ) (y : A) (xs : List A) → any p (put_after k y xs) ≡ (p y || any p xs)
  put-any p zero y xs = refl
  put-any p (suc k) y [] = refl
  put-any p (suc k) y (x ∷ xs) = ap (λ (b : Bool). p x || b) (put-any p k y xs) ∙ or_swap (p x) (p y) (any p xs)

  pub put-every : (p : A → Bool) (k : ℕ) (y : A) (xs : List A) → every p (put_after k y xs) ≡ (p y && every p xs)
  put-every p zero y xs = refl
  put-every p (suc k) y [] = refl
  put-every p (suc k) y (x ∷ xs) = ap (λ (b : Bool). p x && b) (put-every p k y xs) ∙ and-swap (p x) (p y) (every p xs)

module _ {A B : Type 0} where
  pub map-put : (f : A → B) (k : ℕ) (y : A) (xs : List A) → map f (put_after k y xs) ≡ put_after k (f y) (map f xs)
  map-put f zero y xs = refl
  map-put f (suc k) y [] = refl
  map-put f (suc k) y (x ∷ xs) = ap (λ (l : List B). f x ∷ l) (map-put f k y xs)

-- an identifier that is not there keeps the identifiers distinct, with any others behind them
pub put-distinct : (k : ℕ) (y : Identifier) (xs ys : List Identifier) → any (same y) (xs ++ ys) ≡ false → distinct same (xs ++ ys) ≡ true
    → distinct same (put_after k y xs ++ ys) ≡ true
put-distinct zero y xs ys h d = and_intro (not-intro h) d
put-distinct (suc k) y [] ys h d = and_intro (not-intro h) d
put-distinct (suc k) y (x ∷ xs) ys h d =
    and_intro (not-intro absent) (put-distinct k y xs ys (or-false-right (same y x) _ h) (and_right (not (any (same x) (xs ++ ys))) _ d))
  where
    others : (any (same x) xs || any (same x) ys) ≡ false
    others = sym (any_append (same x) xs ys) ∙ not-true _ (and_left_lem (not (any (same x) (xs ++ ys))) _ d)

    absent : any (same x) (put_after k y xs ++ ys) ≡ false
    absent =
        any_append (same x) (put_after k y xs) ys
        ∙ or-false (put-any (same x) k y xs ∙ or-false (same_sym x y ∙ or-false-left (same y x) _ h) (or-false-left (any (same x) xs) _ others))
        (or-false-right (any (same x) xs) _ others)

pub insert-put : (k : ℕ) (c : Character) (cs : List Character) → insert_at k c cs ≡ put_after k c cs
unfolding insert_at
insert-put zero c cs = refl
insert-put (suc k) c [] = refl
insert-put (suc k) c (d ∷ cs) = ap (λ (l : List Character). d ∷ l) (insert-put k c cs)

module _ (k : ℕ) (c : Character) (cs : List Character) where
  pub insert-split : insert_at k c cs ≡ take k cs ++ c ∷ drop k cs
  insert-split = insert-put k c cs ∙ put-split k c cs

  pub insert-length : length (insert_at k c cs) ≡ suc (length cs)
  insert-length = rw insert-put (put-length k c cs)

  pub insert-map : {B : Type 0} (f : Character → B) → map f (insert_at k c cs) ≡ put_after k (f c) (map f cs)
  insert-map f = rw insert-put (map-put f k c cs)

  pub insert-any : (p : Character → Bool) → any p (insert_at k c cs) ≡ (p c || any p cs)
  insert-any p = rw insert-put (put-any p k c cs)

  pub insert-every : (p : Character → Bool) → every p (insert_at k c cs) ≡ (p c && every p cs)
  insert-every p = rw insert-put (put-every p k c cs)

  pub insert_member : {d : Character} → Memᴰ d (insert_at k c cs) → (d ≡ c) ⊎ Memᴰ d cs
  insert_member {d} m = put_member k c cs (subst (Memᴰ d) (insert-put k c cs) m)

  pub member_insert-new : Memᴰ c (insert_at k c cs)
  member_insert-new = rw insert-put (member_put-new k c cs)

  pub member_insert_old : {d : Character} → Memᴰ d cs → Memᴰ d (insert_at k c cs)
  member_insert_old m = rw insert-put (member_put_old k c cs m)

  pub insert-distinct : (xs : List Identifier) → any (same c.id) (identifiers cs) ≡ false → any (same c.id) xs ≡ false
      → distinct same (identifiers cs ++ xs) ≡ true → distinct same (identifiers (insert_at k c cs) ++ xs) ≡ true
  insert-distinct xs h g d =
      rw insert-map
      (put-distinct k c.id (identifiers cs) xs (any_append (same c.id) (identifiers cs) xs ∙ or-false h g) d)
