-- Characters as numbers: numbers and identifiers are each other's, and the columns of the characters are the arrays.
use Prim.Native.Nat.{ℕ, zero, suc, ◌≤◌, ◌<◌}
use native.Mathlib.Omega.{arith}
use mathlib.Core.Path.{◌≡◌, refl, ap, ap₂, sym, ◌∙◌}
use mathlib.Core.Bool.{Bool, ◌&&◌, and-true}
use mathlib.Core.List.Memᴰ
use mathlib.Core.List.{List, [], ◌∷◌, ◌++◌, map, map-append, Memᴰ}
use mathlib.Core.Logic.{⊎_elim}
use lib.ListN.{length, take, get_or, length-append, get_or-append}
use lib.Seq.{take-suc, take-length, get_or_at}
use Rattle.lists.specs.Lists.{every, throughout}
use Rattle.lists.proofs.Members.{every_append}
use Rattle.lists.proofs.Tests.{side}
use Rattle.woot.specs.declared.Identifier.{Identifier}
use Rattle.woot.specs.declared.Character.{Character}
use Rattle.woot.specs.Table.{key, keys}
use Rattle.convergence.proofs.Identifiers.{identifier-path}
use Rattle.index.specs.Keys.{Small, SmallParts, AllSmall}
use Rattle.woot.specs.Memory.{identifier, character_of, each, character_at, characters_of, previous_keys, next_keys, code_points_of, toggle_counts}

-- ---- keys and identifiers

pub key-identifier : (k : ℕ) → key (identifier k) ≡ k
unfolding key identifier
key-identifier k = omega arith

pub identifier-small : (k : ℕ) → Small (identifier k)
unfolding identifier
identifier-small k = omega arith

pub identifier-key : (x : Identifier) → Small x → identifier (key x) ≡ x
unfolding key identifier
identifier-key x h = identifier-path (omega arith) (omega arith)

-- ---- lists by their indices

module _ {A : Type 0} where
  pub each-length : (f : ℕ → A) (n : ℕ) → length (each f n) ≡ n
  each-length f zero = refl
  each-length f (suc n) = omega (arith, length-append (each f n) (f n ∷ []), each-length f n)

  pub each_at : (f : ℕ → A) (n i : ℕ) (d : A) → i < n → get_or (each f n) i d ≡ f i
  each_at f zero i d h = absurd (omega arith)
  each_at f (suc n) i d h = ⊎_elim last (λ k. get_or-append (each f n) (f n ∷ []) d i (omega (arith, each-length f n)) ∙ each_at f n i d k) (side n i)
    where
      last : n ≤ i → get_or (each f n ++ f n ∷ []) i d ≡ f i
      last k = let same : i ≡ n = omega arith in rw same (get_or_at (each f n) (f n) [] d n (each-length f n))

  pub each_cong : (f g : ℕ → A) (n : ℕ) → ((i : ℕ) → i < n → f i ≡ g i) → each f n ≡ each g n
  each_cong f g zero e = refl
  each_cong f g (suc n) e = ap₂ (λ (xs : List A) (x : A). xs ++ x ∷ []) (each_cong f g n (λ i h. e i (omega arith))) (e n (omega arith))

  pub each_map : {B : Type 0} (g : A → B) (f : ℕ → A) (n : ℕ) → map g (each f n) ≡ each (λ i. g (f i)) n
  each_map g f zero = refl
  each_map {B} g f (suc n) = map-append g (each f n) (f n ∷ []) ∙ ap (λ (xs : List B). xs ++ g (f n) ∷ []) (each_map g f n)

  pub each_take : (xs : List A) (d : A) (n : ℕ) → n ≤ length xs → each (λ i. get_or xs i d) n ≡ take n xs
  each_take xs d zero h = refl
  each_take xs d (suc n) h = rw (take-suc xs n d (omega arith)) (ap (λ (ys : List A). ys ++ get_or xs n d ∷ []) (each_take xs d n (omega arith)))

  pub each_all : (xs : List A) (d : A) → each (λ i. get_or xs i d) (length xs) ≡ xs
  each_all xs d = each_take xs d (length xs) (omega arith) ∙ take-length xs

  pub each-every : (p : A → Bool) (f : ℕ → A) (n : ℕ) → every p (each f n) ≡ throughout (λ i. p (f i)) n
  each-every p f zero = refl
  each-every p f (suc n) = every_append p (each f n) (f n ∷ []) ∙ ap₂ (λ (a b : Bool). a && b) (each-every p f n) (and-true (p (f n)))

  pub each_member : (P : A → Type 0) (f : ℕ → A) → ((i : ℕ) → P (f i)) → (n : ℕ) (x : A) → Memᴰ x (each f n) → P x
  each_member P f h zero x m = absurd (mathlib.Core.List.Memᴰ.not-nil m)
  each_member P f h (suc n) x m =
      ⊎_elim (each_member P f h n x) (λ k. mathlib.Core.Path.subst P (sym (Memᴰ.eq_of_singleton k)) (h n)) (Memᴰ.append_cases (each f n) m)

-- ---- the columns

module _ (is ps ns cs ts : List ℕ) (n : ℕ) where
  pub rows-length : length (characters_of is ps ns cs ts n) ≡ n
  unfolding characters_of
  rows-length = each-length (character_at is ps ns cs ts) n

  pub rows-small : AllSmall (characters_of is ps ns cs ts n)
  unfolding characters_of character_of
  rows-small =
      each_member SmallParts (character_at is ps ns cs ts)
      (λ i. record { id = identifier-small (get_or is i 0); previous = identifier-small (get_or ps i 0); next = identifier-small (get_or ns i 0) })
      n

  pub rows-every : (p : Character → Bool) → every p (characters_of is ps ns cs ts n) ≡ throughout (λ i. p (character_at is ps ns cs ts i)) n
  unfolding characters_of
  rows-every p = each-every p (character_at is ps ns cs ts) n

  -- a column: what the rows are made of
  column : (f : Character → ℕ) (xs : List ℕ) → n ≤ length xs → ((i : ℕ) → f (character_at is ps ns cs ts i) ≡ get_or xs i 0) → map f (characters_of is ps ns cs ts n) ≡ take n xs
  unfolding characters_of
  column f xs h e = each_map f (character_at is ps ns cs ts) n ∙ each_cong _ _ n (λ i k. e i) ∙ each_take xs 0 n h

  pub rows-keys : n ≤ length is → keys (characters_of is ps ns cs ts n) ≡ take n is
  unfolding character_of
  rows-keys h = column (λ c. key c.id) is h (λ i. key-identifier (get_or is i 0))

  pub rows-previous : n ≤ length ps → previous_keys (characters_of is ps ns cs ts n) ≡ take n ps
  unfolding character_of
  rows-previous h = column (λ c. key c.previous) ps h (λ i. key-identifier (get_or ps i 0))

  pub rows_next : n ≤ length ns → next_keys (characters_of is ps ns cs ts n) ≡ take n ns
  unfolding character_of
  rows_next h = column (λ c. key c.next) ns h (λ i. key-identifier (get_or ns i 0))

  pub rows-codes : n ≤ length cs → code_points_of (characters_of is ps ns cs ts n) ≡ take n cs
  unfolding character_of
  rows-codes h = column (λ c. c.code_point) cs h (λ i. refl)

  pub rows-toggles : n ≤ length ts → toggle_counts (characters_of is ps ns cs ts n) ≡ take n ts
  unfolding character_of
  rows-toggles h = column (λ c. c.toggles) ts h (λ i. refl)

  -- the row at an index
  pub rows_at : (i : ℕ) (d : Character) → i < n → get_or (characters_of is ps ns cs ts n) i d ≡ character_at is ps ns cs ts i
  unfolding characters_of
  rows_at i d h = each_at (character_at is ps ns cs ts) n i d h
