-- For the proofs of the code alone: identifiers as numbers, what a search among them finds, and where they stand.
use Rattle.std.specs.Prelude.{ℕ, suc, ◌+◌, ◌<◌, Bool, cond, eqb}
use mathlib.Core.List.{List, [], ◌∷◌, ◌++◌, map, Memᴰ}
use Rattle.woot.specs.declared.Identifier.{Identifier}
use Rattle.woot.specs.declared.Character.{Character}
use Rattle.woot.specs.Placing.{place_of}
use Rattle.std.specs.Prelude.{Option, Some, None}

-- the clock has its 16 bits, as in every value of the type
abbrev pub Small : Identifier → Type 0
Small x = x.clock < 65536

-- so have the clocks of each character's identifier and neighbours
pub record SmallParts (c : Character) : Type 0 where
  pub id : Small c.id
  pub previous : Small c.previous
  pub next : Small c.next

abbrev pub AllSmall : List Character → Type 0
AllSmall cs = (c : Character) → Memᴰ c cs → SmallParts c

-- the first index of k, or the length where it does not occur
unfoldable pub index_in : ℕ → List ℕ → ℕ
index_in k [] = 0
index_in k (x ∷ xs) = cond (eqb k x) 0 (suc (index_in k xs))

-- the index n further on
abbrev pub further : ℕ → Option ℕ → Option ℕ
further n (Some j) = Some (n + j)
further n None = None

-- the index of the first that passes the test
unfoldable pub first_index : {A : Type 0} → (A → Bool) → List A → Option ℕ
first_index p [] = None
first_index p (x ∷ xs) = cond (p x) (Some 0) (further 1 (first_index p xs))

-- the first index of k
unfoldable pub found : ℕ → List ℕ → Option ℕ
found k xs = first_index (λ x. eqb k x) xs

-- where k stands among the keys, the begin mark's above them and the end mark's below
unfoldable pub place_in : List ℕ → ℕ → ℕ
place_in ks k = index_in k (0 ∷ (ks ++ 1 ∷ []))

-- where the previous of each character stands, and the next
abbrev pub previous_places : List Character → List ℕ
previous_places cs = map (λ c. place_of cs c.previous) cs

abbrev pub next_places : List Character → List ℕ
next_places cs = map (λ c. place_of cs c.next) cs
