-- Conditions on lists as tests at their indices, which a loop makes one by one.
use Prim.Native.Nat.{ℕ, zero, suc, ◌≤◌, ◌<◌}
use native.Mathlib.Nat.{not-suc-le-zero, le_of_suc-le-suc}
use native.Mathlib.Omega.{arith}
use mathlib.Core.Path.{◌≡◌, refl, ap, sym, ◌∙◌}
use mathlib.Core.Bool.{Bool, ◌&&◌, and-true, and_assoc}
use mathlib.Core.List.{List, [], ◌∷◌, ◌++◌, map, Memᴰ}
use lib.ListN.{length, take, get_or}
use lib.Seq.{take-suc, take-length}
use Rattle.lists.specs.Lists.{every, throughout}
use Rattle.lists.proofs.Members.{every_append}

-- ---- lists by their indices

module _ {A : Type 0} where
  pub take_member : (n : ℕ) (xs : List A) {x : A} → Memᴰ x (take n xs) → Memᴰ x xs
  take_member (suc n) (y ∷ xs) (Memᴰ.head e) = Memᴰ.head e
  take_member (suc n) (y ∷ xs) (Memᴰ.tail m) = Memᴰ.tail (take_member n xs m)
  take_member zero xs x3 = elim x3 [ ]
  take_member (suc n) [] x6 = elim x6 [ ]

module _ {A B : Type 0} (f : A → B) where
  pub take-map : (n : ℕ) (xs : List A) → take n (map f xs) ≡ map f (take n xs)
  take-map zero xs = refl
  take-map (suc n) [] = refl
  take-map (suc n) (x ∷ xs) = ap (λ (ys : List B). f x ∷ ys) (take-map n xs)

  pub map_get_d : (xs : List A) (i : ℕ) (z : B) (d : A) → i < length xs → get_or (map f xs) i z ≡ f (get_or xs i d)
  map_get_d [] i z d h = absurd (not-suc-le-zero h)
  map_get_d (x ∷ xs) zero z d h = refl
  map_get_d (x ∷ xs) (suc i) z d h = map_get_d xs i z d (le_of_suc-le-suc h)

-- ---- conditions on lists as tests at their indices

-- a condition that one element more adds a test to
module _ {A : Type 0} (D : List A → Bool) (t : ℕ → Bool) (xs : List A) (d : A)
    (step : (i : ℕ) → i < length xs → D (take i xs ++ get_or xs i d ∷ []) ≡ D (take i xs) && t i) where
  pub grown-prefix : (n : ℕ) → n ≤ length xs → D (take n xs) ≡ D [] && throughout t n
  grown-prefix zero h = sym (and-true (D []))
  grown-prefix (suc n) h =
      rw (take-suc xs n d (omega arith), step n (omega arith), grown-prefix n (omega arith)) (and_assoc (D []) (throughout t n) (t n))

  pub grown : D xs ≡ D [] && throughout t (length xs)
  grown = ap D (sym (take-length xs)) ∙ grown-prefix (length xs) (omega arith)

-- a test of each element
module _ {A : Type 0} (p : A → Bool) (xs : List A) (d : A) where
  abbrev pub element_at : ℕ → Bool
  element_at i = p (get_or xs i d)

  last : (i : ℕ) → i < length xs → every p (take i xs ++ get_or xs i d ∷ []) ≡ every p (take i xs) && element_at i
  last i h = every_append p (take i xs) (get_or xs i d ∷ []) ∙ ap (λ (b : Bool). every p (take i xs) && b) (and-true (p (get_or xs i d)))

  pub every-prefix : (n : ℕ) → n ≤ length xs → every p (take n xs) ≡ throughout element_at n
  every-prefix = grown-prefix (every p) element_at xs d last

  pub every-throughout : every p xs ≡ throughout element_at (length xs)
  every-throughout = grown (every p) element_at xs d last

-- a test of what is made of each element
pub every_map : {A B : Type 0} (f : A → B) (p : B → Bool) (xs : List A) → every p (map f xs) ≡ every (λ x. p (f x)) xs
every_map f p [] = refl
every_map f p (x ∷ xs) = ap (λ (b : Bool). p (f x) && b) (every_map f p xs)
