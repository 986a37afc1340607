-- A padded list is filled from the front: a store just past its elements is one element more.
use Prim.Native.Nat.{ℕ, suc, ◌+◌, ◌-◌, ◌≤◌, ◌<◌, min}
use native.Mathlib.Numerals.{add-one}
use native.Mathlib.Omega.{arith}
use mathlib.Core.Path.{◌≡◌, sym, ◌∙◌, subst}
use mathlib.Core.List.{List, [], ◌∷◌, ◌++◌, map, map-append}
use mathlib.Core.Logic.{⊎_elim}
use lib.ListN.{length, take, get_or, set, replicate, length-append, length-map, length-replicate}
use lib.Seq.{take_at, take_all, take-suc, set-append_seam, append_snoc, length-take-le}
use Rattle.lists.specs.Padding.{pad}
use Rattle.lists.proofs.Tests.{side}

module _ {A : Type 0} (m : ℕ) (z : A) where
  pub pad-none : pad m z [] ≡ replicate m z
  unfolding pad
  pad-none = let all : m - 0 ≡ m = omega arith in rw all

  pub pad-length : (xs : List A) → length xs ≤ m → length (pad m z xs) ≡ m
  unfolding pad
  pad-length xs h = omega (arith, length-append xs (replicate (m - length xs) z), length-replicate (m - length xs) z)

  -- what the slots in use hold
  pub pad-take : (xs : List A) (n : ℕ) → length xs ≡ n → take n (pad m z xs) ≡ xs
  unfolding pad
  pad-take xs n e = take_at xs (replicate (m - length xs) z) n e

  pub pad-push : (xs : List A) (v : A) → length xs < m → set (pad m z xs) (length xs) v ≡ pad m z (xs ++ v ∷ [])
  unfolding pad
  pad-push xs v h =
      let room : m - length xs ≡ suc (m - suc (length xs)) = omega arith in
      let more : length (xs ++ v ∷ []) ≡ suc (length xs) = length-append xs (v ∷ []) ∙ add-one (length xs) in
      rw (room, more) (set-append_seam xs z (replicate (m - suc (length xs)) z) v ∙ sym (append_snoc xs v (replicate (m - suc (length xs)) z)))

  -- a loop that stores f of each element
  pub pad-map : {B : Type 0} (f : B → A) (d : B) (ys : List B) (i : ℕ) → i < length ys → i < m → set (pad m z (map f (take i ys))) i (f (get_or ys i d)) ≡ pad m z (map f (take (i + 1) ys))
  pad-map f d ys i h g =
      let used : length (map f (take i ys)) ≡ i = length-map (take i ys) f ∙ length-take-le i ys (omega arith) in
      let more : map f (take (suc i) ys) ≡ map f (take i ys) ++ f (get_or ys i d) ∷ [] = rw (take-suc ys i d h) (map-append f (take i ys) (get_or ys i d ∷ [])) in
      rw (add-one i, more) (subst (λ (k : ℕ). set (pad m z (map f (take i ys))) k (f (get_or ys i d)) ≡ pad m z (map f (take i ys) ++ f (get_or ys i d) ∷ [])) used (pad-push (map f (take i ys)) (f (get_or ys i d)) (omega arith)))

-- a list of k elements cut at n, or at its end
pub take_lesser : {A : Type 0} (k n : ℕ) (xs : List A) → length xs ≡ k → take (min k n) xs ≡ take n xs
take_lesser k n xs e = ⊎_elim short long (side k n)
  where
    short : k ≤ n → take (min k n) xs ≡ take n xs
    short h = take_all (min k n) xs (omega arith) ∙ sym (take_all n xs (omega arith))

    long : n < k → take (min k n) xs ≡ take n xs
    long h = let cut : min k n ≡ n = omega arith in rw cut

-- the same, where the lesser is taken the other way round
pub first-or-all : {A : Type 0} (xs : List A) (n m : ℕ) → length xs ≡ m → take (min n m) xs ≡ take n xs
first-or-all xs n m e = let turn : min n m ≡ min m n = omega arith in rw turn (take_lesser m n xs e)
