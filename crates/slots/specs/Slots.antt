-- For the proofs of the code alone: a list with one element more, and with one less.
use Rattle.std.specs.Prelude.{ℕ, zero, suc, List, [], ◌∷◌, ◌++◌, take, drop}

-- y after the first k of a list, at its end where it is shorter
abbrev pub put_after : {A : Type 0} → ℕ → A → List A → List A
put_after zero y xs = y ∷ xs
put_after (suc k) y [] = y ∷ []
put_after (suc k) y (x ∷ xs) = x ∷ put_after k y xs

-- a list without what stands at the index
unfoldable pub removed : {A : Type 0} → ℕ → List A → List A
removed j xs = take j xs ++ drop (suc j) xs

-- an array with x put in after the first k of the first n
abbrev pub put_at : {A : Type 0} → ℕ → ℕ → A → List A → List A
put_at n k x xs = put_after k x (take n xs) ++ drop (suc n) xs

-- an array without what stands at j, of the first n, and z in the slot that is left
abbrev pub taken_at : {A : Type 0} → ℕ → ℕ → A → List A → List A
taken_at n j z xs = removed j (take n xs) ++ z ∷ drop n xs
