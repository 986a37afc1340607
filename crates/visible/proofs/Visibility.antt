-- The visible characters by their identifiers, with a mark before them and one after.
use mathlib.Core.Path.{◌≡◌, refl}
use mathlib.Core.List.{List, [], ◌∷◌, ◌++◌}
use Prim.Native.Nat.{ℕ, zero, suc, ◌-◌}
use native.Mathlib.Omega.{arith}
use lib.ListN.{get_or, length, length-map}
use Rattle.woot.specs.declared.Character.{Character}
use Rattle.woot.specs.Operations.{is_visible}
use Rattle.lists.specs.Lists.{keep}
use Rattle.woot.specs.Placing.{identifiers}
use Rattle.woot.specs.Calls.{visibles}

-- their number is that of their identifiers
pub visibles-length : (cs : List Character) → length (visibles cs) ≡ length (keep is_visible cs)
unfolding visibles
visibles-length cs = length-map (keep is_visible cs) (λ c. c.id)

-- the identifier of the one at an index, or of what stands for none
pub visible_identifier : (cs : List Character) (k : ℕ) (d : Character) → get_or (visibles cs) k d.id ≡ (get_or (keep is_visible cs) k d).id
unfolding visibles
visible_identifier cs k d = go (keep is_visible cs) k
  where
    go : (ds : List Character) (k : ℕ) → get_or (identifiers ds) k d.id ≡ (get_or ds k d).id
    go [] k = refl
    go (c ∷ ds) zero = refl
    go (c ∷ ds) (suc k) = go ds k

-- ---- a mark before the visible ones, and one after them

module _ {A : Type 0} where
  pub get_d_past : (x : A) (xs : List A) (g : ℕ) (d : A) → (g ≡ 0 → ⊥) → get_or xs (g - 1) d ≡ get_or (x ∷ xs) g d
  get_d_past x xs zero d n = absurd (n refl)
  get_d_past x xs (suc g) d n = let e : suc g - 1 ≡ g = omega arith in rw e

  pub get_d_last : (xs : List A) (g : ℕ) (d : A) → get_or xs g d ≡ get_or (xs ++ d ∷ []) g d
  get_d_last [] zero d = refl
  get_d_last [] (suc g) d = refl
  get_d_last (x ∷ xs) zero d = refl
  get_d_last (x ∷ xs) (suc g) d = get_d_last xs g d
