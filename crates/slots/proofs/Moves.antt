-- A part of an array that is moved by one slot, and the slot that is then set: an element put in, or one taken out. And
-- a part that is filled.
use Rattle.std.proofs.Common.{◌≡◌, ℕ, zero, suc, ◌+◌, ◌-◌, ◌<◌, ◌≤◌, List, [], ◌∷◌, ◌++◌, length, take, drop, ap, ◌∙◌, arith, add-one, take-take, refl, append-nil, replicate, length-take-le, take_all}
use Rattle.std.proofs.Math.ListN.{set, length-drop, drop_of_length-le}
use Rattle.std.proofs.Math.Nat.{suc-add, zero-add, not-suc-le-zero, le_of_suc-le-suc}
use Rattle.std.proofs.Math.Seq.{paste, set_at, drop-cons, length_paste_head}
use Rattle.std.proofs.lemmas.List.{drop-take}
use Rattle.lists.specs.Padding.{pad}
use Rattle.slots.specs.Slots.{put_after, removed}

module _ {A : Type 0} where
  -- the part from k on has moved up over m slots more, and x is set at k
  opened : (k m : ℕ) (x : A) (xs : List A) → k + m < length xs
      → set (take (suc k) xs ++ take m (drop k xs) ++ drop (suc (k + m)) xs) k x ≡ put_after k x (take (k + m) xs) ++ drop (suc (k + m)) xs
  opened k m x [] h = absurd (not-suc-le-zero h)
  opened zero m x (y ∷ ys) h = rw zero-add
  opened (suc k) m x (y ∷ ys) h = rw suc-add (ap (λ (l : List A). y ∷ l) (opened k m x ys (omega arith)))

  pub moved-up : (n k : ℕ) (x : A) (xs : List A) → k ≤ n → n < length xs
      → set (paste xs (k + 1) (drop k xs) (n - k)) k x ≡ put_after k x (take n xs) ++ drop (suc n) xs
  moved-up n k x xs h g =
      let all : k + (n - k) ≡ n = omega arith in
      let past : suc k + (n - k) ≡ suc n = omega arith in
      rw (add-one k, past) (rw all at (opened k (n - k) x xs (omega arith)))

  pub moved-down : (n j : ℕ) (z : A) (xs : List A) → j < n → n ≤ length xs
      → set (paste xs j (drop (j + 1) xs) (n - (j + 1))) (n - 1) z ≡ removed j (take n xs) ++ z ∷ drop n xs
  unfolding removed
  moved-down n j z xs h g =
      let m : ℕ = n - suc j in
      let all : suc j + m ≡ n = omega arith in
      let before : suc (j + m) ≡ n = omega arith in
      let last : j + m ≡ n - 1 = omega arith in
      let kept : take j (take n xs) ≡ take j xs = take-take j n xs (omega arith) in
      let moved : drop (suc j) (take n xs) ≡ take m (drop (suc j) xs) = rw all at (drop-take (suc j) m xs) in
      let size : length (take j xs ++ take m (drop (suc j) xs)) ≡ j + m =
      length_paste_head xs j (drop (suc j) xs) m (omega arith) (omega (arith, length-drop (suc j) xs)) in
      rw (add-one j, kept, moved, ← last, drop-cons xs (j + m) z (omega arith), set_at _ _ _ z (j + m) size, before)

  -- one slot more is filled
  pub filled-more : (i : ℕ) (z : A) (xs : List A) → i < length xs → set (replicate i z ++ drop i xs) i z ≡ replicate (i + 1) z ++ drop (i + 1) xs
  filled-more i z xs h = rw (add-one i) (go i xs h)
    where
      go : (i : ℕ) (xs : List A) → i < length xs → set (replicate i z ++ drop i xs) i z ≡ replicate (suc i) z ++ drop (suc i) xs
      go i [] h = absurd (not-suc-le-zero h)
      go zero (x ∷ xs) h = refl
      go (suc i) (x ∷ xs) h = ap (λ (l : List A). z ∷ l) (go i xs (le_of_suc-le-suc h))

  -- all of the part behind the first n is
  behind : (n : ℕ) (z : A) (xs part : List A) (i : ℕ) → n ≤ length xs → i ≡ length (take (length xs - n) (drop n xs))
      → part ≡ replicate i z ++ drop i (take (length xs - n) (drop n xs))
      → take n xs ++ (part ++ drop (length xs - n) (drop n xs)) ≡ pad (length xs) z (take n xs)
  unfolding pad
  behind n z xs part i h e f =
      let size : length (take n xs) ≡ n = length-take-le n xs h in
      let rest : length (drop n xs) ≡ length xs - n = length-drop n xs in
      let whole : take (length xs - n) (drop n xs) ≡ drop n xs = take_all (length xs - n) (drop n xs) (omega arith) in
      let all : i ≡ length xs - n = e ∙ ap length whole ∙ rest in
      let none : drop (length xs - n) (drop n xs) ≡ [] = drop_of_length-le (drop n xs) {i = length xs - n} (omega arith) in
      rw (f, whole, all, none, size) (simp append-nil)

  -- also where it begins at an m that is n
  pub cleared : (n m : ℕ) (z : A) (xs part : List A) (i : ℕ) → m ≡ n → n ≤ length xs
      → i ≡ length (take (length xs - m) (drop m xs))
      → part ≡ replicate i z ++ drop i (take (length xs - m) (drop m xs))
      → take m xs ++ (part ++ drop (length xs - m) (drop m xs)) ≡ pad (length xs) z (take n xs)
  cleared n m z xs part i s h e f = rw s (behind n z xs part i h (rw s at e) (rw s at f))
