-- A list that rises strictly by some number of its elements is known by its members: the first of two such lists cannot
-- stand behind the first of the other.
use Prim.Native.Nat.{ℕ, ◌<◌}
use native.Mathlib.Omega.{arith}
use mathlib.Core.Path.{◌≡◌, refl, ap, sym, ◌∙◌, subst}
use mathlib.Core.Bool.{Bool, true, false, cond}
use mathlib.Core.Logic.{◌↔◌, ⊎_elim}
use mathlib.Core.List.Memᴰ
use mathlib.Core.List.{List, [], ◌∷◌, map, Memᴰ}
use Rattle.lists.specs.Lists.{keep}
use Rattle.lists.proofs.Members.{keep_member}

module _ {A : Type 0} (f : A → ℕ) where
  -- each element has a lower number than all behind it
  pub data Rising : List A → Type 0 where
    none : Rising []
    next : {x : A} {xs : List A} → ((y : A) → Memᴰ y xs → f x < f y) → Rising xs → Rising (x ∷ xs)

  pub rising_unique : (xs ys : List A) → Rising xs → Rising ys → ((z : A) → Memᴰ z xs ↔ Memᴰ z ys) → xs ≡ ys
  rising_unique [] [] r s e = refl
  rising_unique [] (y ∷ ys) r s e = absurd (Memᴰ.not-nil ((e y).1 (Memᴰ.head refl)))
  rising_unique (x ∷ xs) [] r s e = absurd (Memᴰ.not-nil ((e x).0 (Memᴰ.head refl)))
  rising_unique (x ∷ xs) (y ∷ ys) (next a r) (next b s) e = λ i. first i ∷ rising_unique xs ys r s (λ z. (to z, from z)) i
    where
      first : x ≡ y
      first =
          ⊎_elim (λ h. h)
          (λ m. ⊎_elim (λ h. sym h) (λ n. absurd (omega (arith, a y n, b x m))) (Memᴰ.cases_cons ((e y).1 (Memᴰ.head refl))))
          (Memᴰ.cases_cons ((e x).0 (Memᴰ.head refl)))

      to : (z : A) → Memᴰ z xs → Memᴰ z ys
      to z m =
          ⊎_elim (λ h. absurd (omega (arith, a z m, ap f (h ∙ sym first)))) (λ n. n)
          (Memᴰ.cases_cons ((e z).0 (Memᴰ.tail m)))

      from : (z : A) → Memᴰ z ys → Memᴰ z xs
      from z m =
          ⊎_elim (λ h. absurd (omega (arith, b z m, ap f (h ∙ first)))) (λ n. n)
          (Memᴰ.cases_cons ((e z).1 (Memᴰ.tail m)))

  -- what is kept of it rises
  pub rising_keep : (p : A → Bool) {xs : List A} → Rising xs → Rising (keep p xs)
  rising_keep p none = none
  rising_keep p (next {x} {xs} a r) = go (p x) (rising_keep p r)
    where
      go : (b : Bool) → Rising (keep p xs) → Rising (cond b (x ∷ keep p xs) (keep p xs))
      go true k = next (λ y m. a y (keep_member p xs m).0) k
      go false k = k

module _ {A : Type 0} (f g : A → ℕ) where
  -- it rises by another number too that keeps the order of its elements
  pub rising_as : {xs : List A} → ((x y : A) → Memᴰ x xs → Memᴰ y xs → f x < f y → g x < g y) → Rising f xs → Rising g xs
  rising_as k none = none
  rising_as k (next {x} {xs} a r) =
      next (λ y m. k x y (Memᴰ.head refl) (Memᴰ.tail m) (a y m))
      (rising_as (λ y z m n. k y z (Memᴰ.tail m) (Memᴰ.tail n)) r)

module _ {A B : Type 0} (h : A → B) (f : B → ℕ) where
  pub rising_map : {xs : List A} → Rising (λ x. f (h x)) xs → Rising f (map h xs)
  rising_map none = none
  rising_map (next {x} {xs} a r) =
      next (λ y m. let w = Memᴰ.of_map h xs m in subst (λ (z : B). f (h x) < f z) w.2 (a w.0 w.1)) (rising_map r)
