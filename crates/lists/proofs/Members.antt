-- The tests on lists (`any`, `every`, `keep`, `distinct`) as facts about the members.
use mathlib.Core.Path.{◌≡◌, refl, ap, sym, ◌∙◌, subst}
use mathlib.Core.Bool.{Bool, true, false, ◌&&◌, ◌||◌, cond}
use mathlib.Core.List.Memᴰ
use mathlib.Core.List.{List, [], ◌∷◌, ◌++◌, map, Memᴰ}
use mathlib.Core.Logic.{⊎_elim}
use Rattle.lists.specs.Lists.{any, every, keep}
use Rattle.lists.proofs.Tests.{and_left_lem, and_right, and_intro, or_cases, or_left, or_right, or-false-left, or-false-right, or-false}
use Prim.Native.Nat.{ℕ, zero, suc, ◌≤◌, ◌<◌}
use native.Mathlib.Omega.{arith}
use lib.ListN.{length, get_or}

pub get_member : {A : Type 0} (xs : List A) (k : ℕ) (d : A) → k < length xs → Memᴰ (get_or xs k d) xs
get_member [] k d h = absurd (omega arith)
get_member (x ∷ xs) zero d h = Memᴰ.head refl
get_member (x ∷ xs) (suc k) d h = Memᴰ.tail (get_member xs k d (omega arith))

or_assoc : (a b c : Bool) → (a || (b || c)) ≡ ((a || b) || c)
or_assoc true b c = refl
or_assoc false b c = refl

and_assoc : (a b c : Bool) → (a && (b && c)) ≡ ((a && b) && c)
and_assoc true b c = refl
and_assoc false b c = refl

module _ {A : Type 0} where
  pub any_member : (p : A → Bool) (xs : List A) → any p xs ≡ true → (x : A) × Memᴰ x xs × (p x ≡ true)
  any_member p [] h = absurd (mathlib.Core.Bool.false≢true h)
  any_member p (y ∷ ys) h = ⊎_elim (λ e. (y, Memᴰ.head refl, e)) (λ e. later (any_member p ys e)) (or_cases (p y) (any p ys) h)
    where
      later : ((x : A) × Memᴰ x ys × (p x ≡ true)) → (x : A) × Memᴰ x (y ∷ ys) × (p x ≡ true)
      later w = (w.0, Memᴰ.tail w.1, w.2)

  pub member_any : (p : A → Bool) {x : A} {xs : List A} → Memᴰ x xs → p x ≡ true → any p xs ≡ true
  member_any p (Memᴰ.head {x = y} {xs = ys} e) h = or_left (p y) (any p ys) (subst (λ (z : A). p z ≡ true) e h)
  member_any p (Memᴰ.tail {x = y} {xs = ys} m) h = or_right (p y) (any p ys) (member_any p m h)

  -- nothing in the list passes
  pub any_none : (p : A → Bool) {x : A} {xs : List A} → any p xs ≡ false → Memᴰ x xs → p x ≡ false
  any_none p (h) (Memᴰ.head {x = y} {xs = ys} e) = subst (λ (z : A). p z ≡ false) (sym e) (or-false-left (p y) (any p ys) h)
  any_none p (h) (Memᴰ.tail {x = y} {xs = ys} m) = any_none p (or-false-right (p y) (any p ys) h) m

  pub none_any : (p : A → Bool) (xs : List A) → ((x : A) → Memᴰ x xs → p x ≡ false) → any p xs ≡ false
  none_any p [] f = refl
  none_any p (x ∷ xs) f = or-false (f x (Memᴰ.head refl)) (none_any p xs (λ y m. f y (Memᴰ.tail m)))

  pub every_member : (p : A → Bool) {x : A} {xs : List A} → every p xs ≡ true → Memᴰ x xs → p x ≡ true
  every_member p h (Memᴰ.head {x = y} {xs = ys} e) = subst (λ (z : A). p z ≡ true) (sym e) (and_left_lem (p y) (every p ys) h)
  every_member p h (Memᴰ.tail {x = y} {xs = ys} m) = every_member p (and_right (p y) (every p ys) h) m

  pub member_every : (p : A → Bool) (xs : List A) → ((x : A) → Memᴰ x xs → p x ≡ true) → every p xs ≡ true
  member_every p [] f = refl
  member_every p (x ∷ xs) f = and_intro (f x (Memᴰ.head refl)) (member_every p xs (λ y m. f y (Memᴰ.tail m)))

  pub any_append : (p : A → Bool) (xs ys : List A) → any p (xs ++ ys) ≡ (any p xs || any p ys)
  any_append p [] ys = refl
  any_append p (x ∷ xs) ys = ap (λ (b : Bool). p x || b) (any_append p xs ys) ∙ or_assoc (p x) (any p xs) (any p ys)

  pub every_append : (p : A → Bool) (xs ys : List A) → every p (xs ++ ys) ≡ (every p xs && every p ys)
  every_append p [] ys = refl
  every_append p (x ∷ xs) ys = ap (λ (b : Bool). p x && b) (every_append p xs ys) ∙ and_assoc (p x) (every p xs) (every p ys)

  pub keep_member : (p : A → Bool) {x : A} (xs : List A) → Memᴰ x (keep p xs) → Memᴰ x xs × (p x ≡ true)
  keep_member p [] m = absurd (Memᴰ.not-nil m)
  keep_member p {x} (y ∷ ys) m = go (p y) refl (λ n. keep_member p ys n) m
    where
      later : Memᴰ x ys × (p x ≡ true) → Memᴰ x (y ∷ ys) × (p x ≡ true)
      later r = (Memᴰ.tail r.0, r.1)

      go : (b : Bool) → p y ≡ b → (Memᴰ x (keep p ys) → Memᴰ x ys × (p x ≡ true)) → Memᴰ x (cond b (y ∷ keep p ys) (keep p ys)) → Memᴰ x (y ∷ ys) × (p x ≡ true)
      go true e r n = ⊎_elim (λ q. (Memᴰ.head q, ap p q ∙ e)) (λ l. later (r l)) (Memᴰ.cases_cons n)
      go false e r n = later (r n)

  pub member_keep : (p : A → Bool) {x : A} {xs : List A} → Memᴰ x xs → p x ≡ true → Memᴰ x (keep p xs)
  member_keep p (Memᴰ.head {x = y} {xs = ys} e) h = rw (sym (ap p e) ∙ h) (Memᴰ.head e)
  member_keep p {x} (Memᴰ.tail {x = y} {xs = ys} m) h = go (p y) (member_keep p m h)
    where
      go : (b : Bool) → Memᴰ x (keep p ys) → Memᴰ x (cond b (y ∷ keep p ys) (keep p ys))
      go true n = Memᴰ.tail n
      go false n = n

module _ {A B : Type 0} where
  pub keep-map : (f : A → B) (p : B → Bool) (q : A → Bool) → ((x : A) → p (f x) ≡ q x) → (xs : List A) → keep p (map f xs) ≡ map f (keep q xs)
  keep-map f p q e [] = refl
  keep-map f p q e (x ∷ xs) = ap (λ (b : Bool). cond b (f x ∷ keep p (map f xs)) (keep p (map f xs))) (e x) ∙ go (q x) (keep-map f p q e xs)
    where
      go : (b : Bool) → keep p (map f xs) ≡ map f (keep q xs) → cond b (f x ∷ keep p (map f xs)) (keep p (map f xs)) ≡ map f (cond b (x ∷ keep q xs) (keep q xs))
      go true r = ap (λ (ys : List B). f x ∷ ys) r
      go false r = r

pub keep-length : {A : Type 0} (p : A → Bool) (xs : List A) → length (keep p xs) ≤ length xs
keep-length p [] = omega arith
keep-length p (x ∷ xs) = go (p x) (keep-length p xs)
  where
    go : (b : Bool) → length (keep p xs) ≤ length xs → length (cond b (x ∷ keep p xs) (keep p xs)) ≤ suc (length xs)
    go true h = omega arith
    go false h = omega arith
