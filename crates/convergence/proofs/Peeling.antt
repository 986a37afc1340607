-- Peeling empties a list of characters exactly where its characters have births: a character is born after its
-- neighbours, and in the round in which it is taken away they are gone.
use Prim.Native.Nat.{ℕ, zero, suc, ◌≤◌, ◌<◌}
use native.Mathlib.Omega.{arith}
use mathlib.Core.Path.{◌≡◌, refl, ap, sym, ◌∙◌, subst}
use mathlib.Core.Bool.{Bool, true, false, not, cond}
use mathlib.Core.Logic.{◌⊎◌, inl, inr}
use mathlib.Core.List.{List, [], ◌∷◌, Memᴰ}
use lib.ListN.{length}
use borrow.Author.Tests.{not-true, eqb-true}
use Rattle.woot.specs.declared.Identifier.{Identifier}
use Rattle.woot.specs.declared.Character.{Character}
use Rattle.woot.specs.Identifiers.{same}
use Rattle.woot.specs.Placing.{identifiers}
use Rattle.bulk.specs.Loading.{among, free, bound, peeled, acyclic}
use Rattle.lists.specs.Lists.{keep}
use Rattle.lists.proofs.Tests.{either, and_intro, and_left_lem, and_right, not-intro}
use Rattle.lists.proofs.Members.{any_member, member_any, member_keep, keep_member, keep-length}
use Rattle.convergence.specs.Agreement.{Births}
use Rattle.convergence.proofs.Identifiers.{same_refl, same-eq}

-- ---- members

pub member_among : {left : List Character} {c : Character} → Memᴰ c left → among left c.id ≡ true
unfolding among
member_among {left} {c} m = member_any (same c.id) (mathlib.Core.List.Memᴰ.map (λ (b : Character). b.id) m) (same_refl c.id)

pub among_member : (left : List Character) (x : Identifier) → among left x ≡ true
    → (c : Character) × Memᴰ c left × (x ≡ c.id)
unfolding among
among_member left x h =
    let w = any_member (same x) (identifiers left) h in
    let v = mathlib.Core.List.Memᴰ.of_map (λ (b : Character). b.id) left w.1 in
    (v.0, v.1, same-eq x w.0 w.2 ∙ sym v.2)

free-previous : (left : List Character) (c : Character) → free left c ≡ true → among left c.previous ≡ false
unfolding free
free-previous left c f =
    not-true (among left c.previous) (and_left_lem (not (among left c.previous)) (not (among left c.next)) f)

free-next : (left : List Character) (c : Character) → free left c ≡ true → among left c.next ≡ false
unfolding free
free-next left c f =
    not-true (among left c.next) (and_right (not (among left c.previous)) (not (among left c.next)) f)

-- ---- births from peeling

-- how many rounds x stays
survives : ℕ → List Character → Identifier → ℕ
survives zero left x = 0
survives (suc n) left x = cond (among left x) (suc (survives n (bound left) x)) 0

module _ (pick : Character → Identifier)
    (freed : (left : List Character) (c : Character) → free left c ≡ true → among left (pick c) ≡ false) where
  abbrev Earlier : ℕ → List Character → Type 0
  Earlier n left =
      (c : Character) → Memᴰ c left → survives n left (pick c) < survives n left c.id

  -- a neighbour stays for fewer rounds
  earlier : (n : ℕ) (left : List Character) → peeled n left ≡ [] → Earlier n left
  unfolding peeled survives bound
  earlier zero left e c m = absurd (mathlib.Core.List.Memᴰ.not-nil (subst (Memᴰ c) e m))
  earlier (suc n) left e c m = go (either (free left c)) (earlier n (bound left) e)
    where
      most : (b : Bool) (k : ℕ) → cond b (suc k) 0 ≤ suc k
      most true k = omega arith
      most false k = omega arith

      own : survives (suc n) left c.id ≡ suc (survives n (bound left) c.id)
      own = rw (member_among m, survives)

      go : (free left c ≡ true) ⊎ (free left c ≡ false) → Earlier n (bound left)
          → survives (suc n) left (pick c) < survives (suc n) left c.id
      go (inl f) r =
          let z : survives (suc n) left (pick c) ≡ 0 = rw (freed left c f, survives) in omega (arith, z, own)
      go (inr f) r =
          let k : Memᴰ c (bound left) = member_keep (λ d. not (free left d)) m (not-intro f) in
          omega (arith, own, r c k, most (among left (pick c)) (survives n (bound left) (pick c)))

none-long : {A : Type 0} (xs : List A) → length xs ≡ 0 → xs ≡ []
none-long [] h = refl
none-long (x ∷ xs) h = absurd (omega arith)

pub peeled_births : (cs : List Character) → acyclic cs ≡ true → Births cs
unfolding acyclic
peeled_births cs h =
    record {
      birth = survives (length cs) cs;
      after-previous = earlier (λ c. c.previous) free-previous (length cs) cs gone;
      after_next = earlier (λ c. c.next) free-next (length cs) cs gone;
    }
  where
    gone : peeled (length cs) cs ≡ []
    gone = none-long (peeled (length cs) cs) (eqb-true (length (peeled (length cs) cs)) 0 h)

-- ---- peeling by births

pub keep-less : {A : Type 0} (p : A → Bool) (xs : List A) {x : A} → Memᴰ x xs → p x ≡ false
    → length (keep p xs) < length xs
keep-less {A = A} p [] {x = x} x4 h = elim x4 [ ]
keep-less p (y ∷ ys) {x} (mathlib.Core.List.Memᴰ.head e) h =
    let k : p y ≡ false = sym (ap p e) ∙ h in rw k (omega (arith, keep-length p ys))
keep-less p (y ∷ ys) {x} (mathlib.Core.List.Memᴰ.tail m) h = go (p y) (keep-less p ys m h)
  where
    go : (b : Bool) → length (keep p ys) < length ys → length (cond b (y ∷ keep p ys) (keep p ys)) < suc (length ys)
    go true r = omega arith
    go false r = omega arith

pub keep_all : {A : Type 0} (p : A → Bool) (xs : List A) → ((x : A) → Memᴰ x xs → p x ≡ true)
    → length (keep p xs) ≡ length xs
keep_all p [] f = refl
keep_all p (x ∷ xs) f =
    let h = f x (mathlib.Core.List.Memᴰ.head refl) in
    rw h (ap suc (keep_all p xs (λ y m. f y (mathlib.Core.List.Memᴰ.tail m))))

module _ (cs : List Character) (b : Births cs) where
  abbrev Within : List Character → Type 0
  Within left = (c : Character) → Memᴰ c left → Memᴰ c cs

  abbrev SomeFree : List Character → Type 0
  SomeFree left = (d : Character) × Memᴰ d left × (free left d ≡ true)

  -- of characters that are left one is free: from any of them a neighbour that is left is born before it
  pub some-free : (n : ℕ) (left : List Character) → Within left → (c : Character) → Memᴰ c left
      → b.birth c.id < n → SomeFree left
  unfolding free
  some-free zero left f c m h = absurd (omega arith)
  some-free (suc n) left f c m h =
      go (either (among left c.previous)) (either (among left c.next)) (some-free n left f)
    where
      go : (among left c.previous ≡ true) ⊎ (among left c.previous ≡ false)
          → (among left c.next ≡ true) ⊎ (among left c.next ≡ false)
          → ((c : Character) → Memᴰ c left → b.birth c.id < n → SomeFree left) → SomeFree left
      go (inl p) q r =
          let w = among_member left c.previous p in
          r w.0 w.1 (omega (arith, ap b.birth w.2, b.after-previous c (f c m)))
      go (inr p) (inl q) r =
          let w = among_member left c.next q in
          r w.0 w.1 (omega (arith, ap b.birth w.2, b.after_next c (f c m)))
      go (inr p) (inr q) r = (c, m, and_intro (not-intro p) (not-intro q))

  -- so each round takes one away
  empties : (n : ℕ) (left : List Character) → length left ≤ n → Within left → peeled n left ≡ []
  unfolding peeled bound
  empties zero [] h f = refl
  empties zero (c ∷ left) h f = absurd (omega arith)
  empties (suc n) [] h f = empties n [] (omega arith) f
  empties (suc n) (c ∷ left) h f =
      let w = some-free (suc (b.birth c.id)) (c ∷ left) f c (mathlib.Core.List.Memᴰ.head refl) (omega arith) in
      let l : length (bound (c ∷ left)) < suc (length left) =
      keep-less (λ d. not (free (c ∷ left) d)) (c ∷ left) w.1 (rw w.2) in
      empties n (bound (c ∷ left)) (omega (arith, l))
      (λ d m. f d (keep_member (λ e. not (free (c ∷ left) e)) (c ∷ left) m).0)

  pub births_peeled : acyclic cs ≡ true
  unfolding acyclic
  births_peeled = rw (empties (length cs) cs (omega arith) (λ c m. m))
