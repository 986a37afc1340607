-- A search in a list of numbers goes by what is left of it: one law for an element that is passed, one for the end.
use mathlib.Core.Path.{◌≡◌, refl, sym, ◌∙◌}
use mathlib.Core.Bool.{Bool, true, false, ◌&&◌, ◌||◌, cond}
use mathlib.Core.List.{List, [], ◌∷◌}
use Prim.Native.Nat.{ℕ, zero, suc, ◌+◌, ◌≤◌, ◌-◌, ◌<◌, min}
use native.Mathlib.Nat.{not-suc-le-zero, le_of_suc-le-suc}
use native.Mathlib.Numerals.{add-one}
use native.Mathlib.Omega.{arith}
use borrow.Author.Tests.{eq-eqb, ne_eqb}
use Rattle.std.specs.List.{count_by}
use Rattle.std.proofs.lemmas.List.Recursion.{is_count_by}
use lib.Dec.{eqb}
use lib.ListN.{length, drop, get_or, drop_of_length-le, length-drop}
use lib.Seq.{drop-cons}
use Rattle.lists.specs.Lists.{keep}
use Rattle.pending.specs.Counts.{sender_of, senders_of, has_toggle}

-- ---- counting

-- how many of the elements from i on pass the test
abbrev pub left : {A : Type 0} → (A → Bool) → List A → ℕ → ℕ
left p xs i = length (keep p (drop i xs))

module _ {A : Type 0} (p : A → Bool) (xs : List A) (i : ℕ) (d : A) (h : i < length xs) where
  pub left-counted : p (get_or xs i d) ≡ true → left p xs i ≡ left p xs (i + 1) + 1
  left-counted e = rw (drop-cons xs i d h, add-one i, e) (sym (add-one (left p xs (suc i))))

  pub left_passed : p (get_or xs i d) ≡ false → left p xs i ≡ left p xs (i + 1)
  left_passed e = rw (drop-cons xs i d h, add-one i, e)

pub left-none : {A : Type 0} (p : A → Bool) (xs : List A) (i : ℕ) → length xs ≤ i → left p xs i ≡ 0
left-none p xs i h = rw (drop_of_length-le xs {i = i} h)

-- ---- who sends

senders_length : (os vs : List ℕ) → length (senders_of os vs) ≡ min (length os) (length vs)
unfolding senders_of
senders_length [] vs = omega arith
senders_length (o ∷ os) [] = omega arith
senders_length (o ∷ os) (v ∷ vs) = omega (arith, senders_length os vs)

sender-at : (os vs : List ℕ) (i : ℕ) → i < length os → i < length vs → get_or (senders_of os vs) i 0 ≡ sender_of (get_or os i 0) (get_or vs i 0)
unfolding senders_of
sender-at [] vs i h g = absurd (not-suc-le-zero h)
sender-at (o ∷ os) [] i h g = absurd (not-suc-le-zero g)
sender-at (o ∷ os) (v ∷ vs) zero h g = refl
sender-at (o ∷ os) (v ∷ vs) (suc i) h g = sender-at os vs i (le_of_suc-le-suc h) (le_of_suc-le-suc g)

-- how many of the operations from i on have the sender s
abbrev pub sent_left : ℕ → List ℕ → List ℕ → ℕ → ℕ
sent_left s os vs i = left (λ n. eqb n s) (senders_of os vs) i

module _ (os vs : List ℕ) (i n s : ℕ) (p : i < length os) (q : i < length vs) (e : n ≡ sender_of (get_or os i 0) (get_or vs i 0)) where
  is-sender : get_or (senders_of os vs) i 0 ≡ n
  is-sender = sender-at os vs i p q ∙ sym e

  inside : i < length (senders_of os vs)
  inside = omega (arith, senders_length os vs)

  pub sent-counted : n ≡ s → sent_left s os vs i ≡ sent_left s os vs (i + 1) + 1
  sent-counted h = left-counted (λ (m : ℕ). eqb m s) (senders_of os vs) i 0 inside (eq-eqb _ s (is-sender ∙ h))

  pub sent-passed : (n ≡ s → ⊥) → sent_left s os vs i ≡ sent_left s os vs (i + 1)
  sent-passed h = left_passed (λ (m : ℕ). eqb m s) (senders_of os vs) i 0 inside (ne_eqb _ s (λ g. h (sym is-sender ∙ g)))

pub sent-none : (s : ℕ) (os vs : List ℕ) (i : ℕ) → min (length os) (length vs) ≤ i → sent_left s os vs i ≡ 0
sent-none s os vs i h = left-none (λ (m : ℕ). eqb m s) (senders_of os vs) i (omega (arith, senders_length os vs))

-- ---- a toggle

min-less : (a b i : ℕ) → min (a - i) (b - i) ≡ min a b - i
min-less a b i = omega arith

none_left : (a b i : ℕ) → min a b ≤ i → min (a - i) (b - i) ≡ 0
none_left a b i h = omega arith

module _ (k n : ℕ) (os fs ss : List ℕ) where
  -- among the operations from i on
  abbrev pub toggle_left : ℕ → Bool
  toggle_left i = has_toggle k n (drop i os) (drop i fs) (drop i ss)

  -- the operation at i
  abbrev pub toggle_at : ℕ → Bool
  toggle_at i = eqb (get_or os i 0) 0 && (eqb n (get_or ss i 0) && eqb k (get_or fs i 0))

  module _ (i : ℕ) (p : i < length os) (q : i < length fs) (r : i < length ss) where
    toggle_step : toggle_left i ≡ (toggle_at i || toggle_left (i + 1))
    unfolding has_toggle
    toggle_step = rw (drop-cons os i 0 p, drop-cons fs i 0 q, drop-cons ss i 0 r, add-one i)

    pub toggle_here : toggle_at i ≡ true → toggle_left i ≡ true
    toggle_here e = toggle_step ∙ rw e

    pub toggle_passed : toggle_at i ≡ false → toggle_left i ≡ toggle_left (i + 1)
    toggle_passed e = toggle_step ∙ rw e

  short : (xs ys zs : List ℕ) → min (length xs) (min (length ys) (length zs)) ≡ 0 → has_toggle k n xs ys zs ≡ false
  unfolding has_toggle
  short [] ys zs e = refl
  short (x ∷ xs) [] zs e = refl
  short (x ∷ xs) (y ∷ ys) [] e = refl
  short (x ∷ xs) (y ∷ ys) (z ∷ zs) e = absurd (omega arith)

  pub toggle_none : (i : ℕ) → min (length os) (min (length fs) (length ss)) ≤ i → toggle_left i ≡ false
  toggle_none i h =
      short (drop i os) (drop i fs) (drop i ss)
      (rw (length-drop i os, length-drop i fs, length-drop i ss, min-less (length fs) (length ss) i) (none_left (length os) (min (length fs) (length ss)) i h))

-- ---- the library's count

-- what the library counts is what is kept
module _ {A : Type 0} (p : A → Bool) where
  one-more : (b : Bool) (x : A) (xs : List A) → length (cond b (x ∷ xs) xs) ≡ cond b (1 + length xs) (length xs)
  one-more true x xs = omega arith
  one-more false x xs = refl

  pub keep-counted : (xs : List A) {n : ℕ} → n ≡ count_by p xs → n ≡ length (keep p xs)
  keep-counted xs e =
      e ∙ sym (is_count_by (λ (ys : List A). length (keep p ys)) p refl (λ y ys. one-more (p y) y (keep p ys)) xs)
