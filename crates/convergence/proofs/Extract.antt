-- A list with one element more at some place: what tests, members, lengths and distinctness have to do with it.
use Prim.Native.Nat.{suc, ◌+◌, ◌≤◌}
use native.Mathlib.Omega.{arith}
use mathlib.Core.Path.{◌≡◌, refl, ap, sym, ◌∙◌, subst}
use mathlib.Core.Bool.{Bool, true, false, ◌||◌, not, cond}
use mathlib.Core.Logic.{◌⊎◌, inl, inr, ⊎_elim}
use mathlib.Core.List.{List, [], ◌∷◌, ◌++◌, map, Memᴰ}
use lib.ListN.{length}
use borrow.Author.Tests.{not-true}
use Rattle.lists.specs.Lists.{any, every, keep, distinct}
use Rattle.lists.proofs.Members.{any_none}
use Rattle.lists.proofs.Tests.{clash, and_left_lem, and_right, and_intro, or-false-left, or-false-right, or-false, not-intro}

-- zs is ys with x at some place
pub data Extract {A : Type 0} (x : A) : List A → List A → Type 0 where
  front : {ys : List A} → Extract x ys (x ∷ ys)
  past : {y : A} {ys zs : List A} → Extract x ys zs → Extract x (y ∷ ys) (y ∷ zs)

or_swap : (a b c : Bool) → a || (b || c) ≡ b || (a || c)
or_swap true true c = refl
or_swap true false c = refl
or_swap false true c = refl
or_swap false false c = refl

module _ {A : Type 0} where
  pub extract_length : {x : A} {ys zs : List A} → Extract x ys zs → length zs ≡ suc (length ys)
  extract_length front = refl
  extract_length (past e) = ap suc (extract_length e)

  pub extract_old : {x y : A} {ys zs : List A} → Extract x ys zs → Memᴰ y ys → Memᴰ y zs
  extract_old front m = Memᴰ.tail m
  extract_old (past e) (Memᴰ.head h) = Memᴰ.head h
  extract_old (past e) (Memᴰ.tail m) = Memᴰ.tail (extract_old e m)

  pub extract_itself : {x : A} {ys zs : List A} → Extract x ys zs → Memᴰ x zs
  extract_itself front = Memᴰ.head refl
  extract_itself (past e) = Memᴰ.tail (extract_itself e)

  pub extract_cases : {x y : A} {ys zs : List A} → Extract x ys zs → Memᴰ y zs → (y ≡ x) ⊎ Memᴰ y ys
  extract_cases front (Memᴰ.head h) = inl h
  extract_cases front (Memᴰ.tail m) = inr m
  extract_cases (past e) (Memᴰ.head h) = inr (Memᴰ.head h)
  extract_cases (past e) (Memᴰ.tail m) = ⊎_elim (λ h. inl h) (λ n. inr (Memᴰ.tail n)) (extract_cases e m)

  pub extract_append : (ws : List A) {x : A} {ys zs : List A} → Extract x ys zs → Extract x (ws ++ ys) (ws ++ zs)
  extract_append [] e = e
  extract_append (w ∷ ws) e = past (extract_append ws e)

  -- at the end of the first of two lists
  pub extract_front : {x : A} {ys zs : List A} (ws : List A) → Extract x ys zs → Extract x (ys ++ ws) (zs ++ ws)
  extract_front ws front = front
  extract_front ws (past e) = past (extract_front ws e)

  pub extract_last : (x : A) (ys : List A) → Extract x ys (ys ++ x ∷ [])
  extract_last x [] = front
  extract_last x (y ∷ ys) = past (extract_last x ys)

  pub extract_any : (p : A → Bool) {x : A} {ys zs : List A} → Extract x ys zs → any p zs ≡ p x || any p ys
  extract_any p front = refl
  extract_any p {x = x} (past {y = y} {ys = ys} e) = ap (λ b. p y || b) (extract_any p e) ∙ or_swap (p y) (p x) (any p ys)

  pub extract_every : (p : A → Bool) {x : A} {ys zs : List A} → Extract x ys zs → p x ≡ true → every p ys ≡ true → every p zs ≡ true
  extract_every p front h k = and_intro h k
  extract_every p (past {y = y} {ys = ys} e) h k = and_intro (and_left_lem (p y) (every p ys) k) (extract_every p e h (and_right (p y) (every p ys) k))

  pub every_extract : (p : A → Bool) {x : A} {ys zs : List A} → Extract x ys zs → every p zs ≡ true → every p ys ≡ true
  every_extract p {x = x} (front {ys = ys}) k = and_right (p x) (every p ys) k
  every_extract p (past {y = y} {zs = zs} e) k = and_intro (and_left_lem (p y) (every p zs) k) (every_extract p e (and_right (p y) (every p zs) k))

  -- what passes the test is taken out too, or nothing is
  pub keep_extract : (p : A → Bool) {x : A} {ys zs : List A} → Extract x ys zs → p x ≡ true → Extract x (keep p ys) (keep p zs)
  keep_extract p (front {ys = ys}) h = rw h front
  keep_extract p {x = x} (past {y = y} {ys = ys} {zs = zs} e) h = go (p y) (keep_extract p e h)
    where
      go : (b : Bool) → Extract x (keep p ys) (keep p zs) → Extract x (cond b (y ∷ keep p ys) (keep p ys)) (cond b (y ∷ keep p zs) (keep p zs))
      go true w = past w
      go false w = w

  pub keep_same : (p : A → Bool) {x : A} {ys zs : List A} → Extract x ys zs → p x ≡ false → keep p zs ≡ keep p ys
  keep_same p (front {ys = ys}) h = rw h
  keep_same p (past {y = y} {ys = ys} {zs = zs} e) h = rw (keep_same p e h)

  -- an element of a list of distinct ones is not among the others, by a symmetric test
  pub distinct_extract : (same : A → A → Bool) → ((a b : A) → same a b ≡ same b a) → {x : A} {ys zs : List A} → Extract x ys zs → distinct same zs ≡ true → (any (same x) ys ≡ false) × (distinct same ys ≡ true)
  distinct_extract same swap {x = x} (front {ys = ys}) h = (not-true (any (same x) ys) (and_left_lem (not (any (same x) ys)) (distinct same ys) h), and_right (not (any (same x) ys)) (distinct same ys) h)
  distinct_extract same swap {x = x} (past {y = y} {ys = ys} {zs = zs} e) h =
      let none : any (same y) zs ≡ false = not-true (any (same y) zs) (and_left_lem (not (any (same y) zs)) (distinct same zs) h) in
      let apart : same y x || any (same y) ys ≡ false = sym (extract_any (same y) e) ∙ none in
      let rest = distinct_extract same swap e (and_right (not (any (same y) zs)) (distinct same zs) h) in
      (or-false (swap x y ∙ or-false-left (same y x) (any (same y) ys) apart) rest.0, and_intro (not-intro (or-false-right (same y x) (any (same y) ys) apart)) rest.1)

  pub extract_distinct : (same : A → A → Bool) → ((a b : A) → same a b ≡ same b a) → {x : A} {ys zs : List A} → Extract x ys zs → any (same x) ys ≡ false → distinct same ys ≡ true → distinct same zs ≡ true
  extract_distinct same swap front h k = and_intro (not-intro h) k
  extract_distinct same swap {x = x} (past {y = y} {ys = ys} {zs = zs} e) h k =
      let apart : any (same y) zs ≡ false = extract_any (same y) e ∙ or-false (swap y x ∙ or-false-left (same x y) (any (same x) ys) h) (not-true (any (same y) ys) (and_left_lem (not (any (same y) ys)) (distinct same ys) k)) in
      and_intro (not-intro apart) (extract_distinct same swap e (or-false-right (same x y) (any (same x) ys) h) (and_right (not (any (same y) ys)) (distinct same ys) k))

pub extract_map : {A B : Type 0} (f : A → B) {x : A} {ys zs : List A} → Extract x ys zs → Extract (f x) (map f ys) (map f zs)
extract_map f front = front
extract_map f (past e) = past (extract_map f e)

-- ---- how many there can be

module _ {A : Type 0} where
  pub extracted : {x : A} {ys : List A} → Memᴰ x ys → (zs : List A) × Extract x zs ys
  extracted {x} (Memᴰ.head {x = y} {xs = ys} e) = (ys, subst (λ (z : A). Extract x ys (z ∷ ys)) e front)
  extracted (Memᴰ.tail {x = y} {xs = ys} m) = let w = extracted m in (y ∷ w.0, past w.1)

  -- distinct ones are no more than those of a list that has them all
  pub no_more : (same : A → A → Bool) → ((a : A) → same a a ≡ true) → (xs ys : List A) → distinct same xs ≡ true
      → ((x : A) → Memᴰ x xs → Memᴰ x ys) → length xs ≤ length ys
  no_more same itself [] ys d f = omega arith
  no_more same itself (x ∷ xs) ys d f =
      let w = extracted (f x (Memᴰ.head refl)) in
      let new = not-true (any (same x) xs) (and_left_lem (not (any (same x) xs)) (distinct same xs) d) in
      let r =
      no_more same itself xs w.0 (and_right (not (any (same x) xs)) (distinct same xs) d)
      (λ y m.
      ⊎_elim (λ e. clash (subst (λ (z : A). same x z ≡ true) (sym e) (itself x)) (any_none (same x) new m)) (λ n. n)
      (extract_cases w.1 (f y (Memᴰ.tail m))))
      in
      omega (arith, extract_length w.1, r)
