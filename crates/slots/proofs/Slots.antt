-- Laws of a list in an array that is edited in place, over any element type, filler z and number of slots m: an edit of the
-- array is one of the list.
use Prim.Native.Nat.{ℕ, zero, suc, ◌-◌, ◌≤◌, ◌<◌}
use native.Mathlib.Nat.{not-suc-le-zero, le_of_suc-le-suc}
use native.Mathlib.Numerals.{add-one}
use native.Mathlib.Omega.{arith}
use mathlib.Core.Path.{◌≡◌, refl, ap, sym, ◌∙◌}
use mathlib.Core.List.{List, [], ◌∷◌, ◌++◌, map}
use lib.ListN.{length, take, drop, set, replicate, length-append, length-take, length-drop, length-set}
use lib.Seq.{drop-drop, drop_at, set-append_left, length-take-le}
use Rattle.lists.specs.Padding.{pad}
use Rattle.lists.proofs.Padding.{pad-length, pad-take, pad-push}
use Rattle.slots.specs.Slots.{put_after, removed}

module _ {A : Type 0} where
  -- ---- an element put in

  pub put-length : (k : ℕ) (y : A) (xs : List A) → length (put_after k y xs) ≡ suc (length xs)
  put-length zero y xs = refl
  put-length (suc k) y [] = refl
  put-length (suc k) y (x ∷ xs) = ap suc (put-length k y xs)

  pub put-split : (k : ℕ) (y : A) (xs : List A) → put_after k y xs ≡ take k xs ++ y ∷ drop k xs
  put-split zero y xs = refl
  put-split (suc k) y [] = refl
  put-split (suc k) y (x ∷ xs) = ap (λ (l : List A). x ∷ l) (put-split k y xs)

  pub put_map : {B : Type 0} (f : A → B) (k : ℕ) (y : A) (xs : List A) → map f (put_after k y xs) ≡ put_after k (f y) (map f xs)
  put_map f zero y xs = refl
  put_map f (suc k) y [] = refl
  put_map {B = B} f (suc k) y (x ∷ xs) = ap (λ (l : List B). f x ∷ l) (put_map f k y xs)

  -- ---- an element taken out

  pub removed-length : (j : ℕ) (xs : List A) → j < length xs → suc (length (removed j xs)) ≡ length xs
  unfolding removed
  removed-length j [] h = absurd (not-suc-le-zero h)
  removed-length zero (x ∷ xs) h = refl
  removed-length (suc j) (x ∷ xs) h = ap suc (removed-length j xs (le_of_suc-le-suc h))

  pub removed-map : {B : Type 0} (f : A → B) (j : ℕ) (xs : List A) → map f (removed j xs) ≡ removed j (map f xs)
  unfolding removed
  removed-map f zero [] = refl
  removed-map f zero (x ∷ xs) = refl
  removed-map f (suc j) [] = refl
  removed-map {B = B} f (suc j) (x ∷ xs) = ap (λ (l : List B). f x ∷ l) (removed-map f j xs)

  -- one out of the first n
  pub removed-first : (xs : List A) (n j : ℕ) → j < n → n ≤ length xs → suc (length (removed j (take n xs))) ≡ n
  removed-first xs n j h g =
      let size : length (take n xs) ≡ n = length-take-le n xs g in
      removed-length j (take n xs) (omega arith) ∙ size

  -- ---- lengths: an array is as long as it was

  pub put-slots : (k : ℕ) (x : A) (n : ℕ) (xs : List A) → n < length xs → length (put_after k x (take n xs) ++ drop (suc n) xs) ≡ length xs
  put-slots k x n xs h =
      let size : length (take n xs) ≡ n = length-take-le n xs (omega arith) in
      simp (length-append, put-length, length-drop, size) (omega arith)

  pub removed-slots : (j n : ℕ) (z : A) (xs : List A) → j < n → n ≤ length xs → length (removed j (take n xs) ++ z ∷ drop n xs) ≡ length xs
  removed-slots j n z xs h g =
      let size : suc (length (removed j (take n xs))) ≡ n = removed-first xs n j h g in
      simp (length-append, length-drop) (omega arith)

  pub cleared_slots : (n : ℕ) (z : A) (xs : List A) → length (pad (length xs) z (take n xs)) ≡ length xs
  cleared_slots n z xs = pad-length (length xs) z (take n xs) (simp length-take (omega arith))

  -- ---- a list in an array: an edit of the array is one of the list

  module _ (m : ℕ) (z : A) where
    -- what the slots behind the list hold
    pub drop-padded : (xs : List A) (n : ℕ) → length xs ≡ n → drop n (pad m z xs) ≡ replicate (m - n) z
    unfolding pad
    drop-padded xs n e = rw e (drop_at xs (replicate (m - n) z) n e)

    pub put-padded : (k : ℕ) (x : A) (xs : List A) (n : ℕ) → length xs ≡ n → n < m
        → put_after k x (take n (pad m z xs)) ++ drop (suc n) (pad m z xs) ≡ pad m z (put_after k x xs)
    unfolding pad
    put-padded k x xs n e h =
        let room : m - n ≡ suc (m - suc n) = omega arith in
        let size : length (put_after k x xs) ≡ suc n = put-length k x xs ∙ ap suc e in
        let behind : drop (suc n) (pad m z xs) ≡ replicate (m - suc n) z =
        ap (λ (i : ℕ). drop i (pad m z xs)) (sym (add-one n)) ∙ sym (drop-drop 1 n (pad m z xs)) ∙ rw (drop-padded xs n e, room) in
        rw (pad-take m z xs n e, behind, size)

    pub removed-padded : (j : ℕ) (xs : List A) (n : ℕ) → length xs ≡ n → n ≤ m → j < n
        → removed j (take n (pad m z xs)) ++ z ∷ drop n (pad m z xs) ≡ pad m z (removed j xs)
    unfolding pad
    removed-padded j xs n e h g =
        let size : suc (length (removed j xs)) ≡ n = removed-length j xs (omega arith) ∙ e in
        let room : m - length (removed j xs) ≡ suc (m - n) = omega arith in
        rw (pad-take m z xs n e, drop-padded xs n e, room)

    pub push-padded : (x : A) (xs : List A) (n : ℕ) → length xs ≡ n → n < m → set (pad m z xs) n x ≡ pad m z (xs ++ x ∷ [])
    push-padded x xs n e h = rw e at (pad-push m z xs x (omega arith))

    pub set-padded : (k : ℕ) (x : A) (xs : List A) → k < length xs → set (pad m z xs) k x ≡ pad m z (set xs k x)
    unfolding pad
    set-padded k x xs h = rw (length-set xs k x) (set-append_left xs (replicate (m - length xs) z) k x h)

    pub clear-padded : (xs : List A) (n : ℕ) → length xs ≡ n → pad m z (take n (pad m z xs)) ≡ pad m z xs
    clear-padded xs n e = ap (pad m z) (pad-take m z xs n e)
