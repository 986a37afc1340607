-- Characters that stand are acyclic exactly where their rows have no knot: the rows that taking away leaves would be
-- one, and no round takes any of a knot.
use Prim.Native.Nat.{ℕ, zero, suc, ◌-◌, ◌≤◌, ◌<◌}
use native.Mathlib.Omega.{arith}
use mathlib.Core.Path.{◌≡◌, refl, sym, ap, ◌∙◌, subst}
use mathlib.Core.Bool.{Bool, true, false, ◌&&◌, ◌||◌, not, cond, and-false as and_no}
use mathlib.Core.List.Memᴰ
use mathlib.Core.List.{List, [], ◌∷◌, Memᴰ}
use mathlib.Core.Logic.{◌⊎◌, inl, inr, ⊎_elim}
use borrow.Author.Tests.{ltb-false, ne_eqb, le-ltb, not-false}
use lib.Dec.{eqb, ltb}
use lib.ListN.{length, get_or}
use Rattle.lists.specs.Lists.{any, keep}
use Rattle.lists.proofs.Tests.{either, clash, and-false, or-false, or-false-left, or-false-right}
use Rattle.lists.proofs.Tests.{not-intro}
use Rattle.lists.proofs.Members.{any_member, member_any, any_none, keep_member, member_keep, keep-length}
use Rattle.woot.specs.declared.Identifier.{Identifier}
use Rattle.woot.specs.declared.Character.{Character}
use Rattle.woot.specs.Identifiers.{same}
use Rattle.woot.specs.Placing.{identifiers, place_of, held}
use Rattle.woot.specs.State.{blank_character}
use Rattle.bulk.specs.Loading.{among, free, bound, peeled, acyclic}
use Rattle.convergence.specs.Agreement.{Standing}
use Rattle.convergence.proofs.Identifiers.{same_refl, same-eq}
use Rattle.convergence.proofs.Places.{held-id, place-held, place-injective}
use Rattle.convergence.proofs.Characters.{at-index, own-index, member_place, same-character}
use Rattle.neighbours.specs.Steps.{settled, free_at, Knotted, Unknotted, Knot}
use Rattle.neighbours.proofs.Passing.{positive}

-- ---- members

member_among : {left : List Character} {c : Character} → Memᴰ c left → among left c.id ≡ true
unfolding among
member_among {left} {c} m = member_any (same c.id) (Memᴰ.map (λ (b : Character). b.id) m) (same_refl c.id)

among_member : (left : List Character) (x : Identifier) → among left x ≡ true
    → (c : Character) × Memᴰ c left × (x ≡ c.id)
unfolding among
among_member left x h =
    let w = any_member (same x) (identifiers left) h in
    let v = Memᴰ.of_map (λ (b : Character). b.id) left w.1 in
    (v.0, v.1, same-eq x w.0 w.2 ∙ sym v.2)

keep-less : {A : Type 0} (p : A → Bool) (xs : List A) {x : A} → Memᴰ x xs → p x ≡ false
    → length (keep p xs) < length xs
keep-less {A = A} p [] {x = x} x4 h = elim x4 [ ]
keep-less p (y ∷ ys) {x} (Memᴰ.head e) h =
    let k : p y ≡ false = sym (ap p e) ∙ h in rw k (omega (arith, keep-length p ys))
keep-less p (y ∷ ys) {x} (Memᴰ.tail m) h = go (p y) (keep-less p ys m h)
  where
    go : (b : Bool) → length (keep p ys) < length ys → length (cond b (y ∷ keep p ys) (keep p ys)) < suc (length ys)
    go true r = omega arith
    go false r = omega arith

member_long : {A : Type 0} {x : A} (xs : List A) → Memᴰ x xs → 0 < length xs
member_long [] m = absurd (Memᴰ.not-nil m)
member_long (y ∷ ys) m = omega arith

-- ---- rounds

abbrev SomeFree : List Character → Type 0
SomeFree left = (d : Character) × Memᴰ d left × (free left d ≡ true)

abbrev Part : List Character → List Character → Type 0
Part cs left = (c : Character) → Memᴰ c left → Memᴰ c cs

-- where one is free as long as any is left, as many rounds as there are characters leave none
empties : (cs : List Character)
    → ((left : List Character) → Part cs left → (c : Character) → Memᴰ c left → SomeFree left)
    → (n : ℕ) (left : List Character) → length left ≤ n → Part cs left → peeled n left ≡ []
unfolding peeled bound
empties cs s zero [] h f = refl
empties cs s zero (c ∷ left) h f = absurd (omega arith)
empties cs s (suc n) [] h f = empties cs s n [] (omega arith) f
empties cs s (suc n) (c ∷ left) h f =
    let w = s (c ∷ left) f c (Memᴰ.head refl) in
    let l : length (bound (c ∷ left)) < suc (length left) =
    keep-less (λ d. not (free (c ∷ left) d)) (c ∷ left) w.1 (rw w.2) in
    empties cs s n (bound (c ∷ left)) (omega (arith, l))
    (λ d m. f d (keep_member (λ e. not (free (c ∷ left) e)) (c ∷ left) m).0)

-- ---- by places

-- a row that is left settles no place
unsettled : (rows : ℕ → Bool) (n i : ℕ) → i < n → rows i ≡ true → (p : ℕ) → p ≡ suc i → settled rows n p ≡ false
unfolding settled
unsettled rows n i h r p e =
    let f : p - 1 ≡ i = omega arith in
    or-false (ne_eqb p 0 (λ z. omega arith))
    (or-false (le-ltb n p (omega arith)) (ap not (ap rows f ∙ r)))

module _ (cs : List Character) (s : Standing cs) (above below : List ℕ)
    (previous : (i : ℕ) → i < length cs → get_or above i 0 ≡ place_of cs (get_or cs i blank_character).previous)
    (next : (i : ℕ) → i < length cs → get_or below i 0 ≡ place_of cs (get_or cs i blank_character).next) where
  abbrev at : ℕ → Character
  at i = get_or cs i blank_character

  -- a place that is not settled is that of a row which is left
  left_at : (rows : ℕ → Bool) (x : Identifier) → settled rows (length cs) (place_of cs x) ≡ false
      → (i : ℕ) × (i < length cs) × (rows i ≡ true) × (x ≡ (at i).id)
  unfolding settled
  left_at rows x h = (p - 1, inside, row, place-injective cs x (at (p - 1)).id place there (held-id cs own.0))
    where
      p : ℕ
      p = place_of cs x

      rest : (ltb (length cs) p || not (rows (p - 1))) ≡ false
      rest = or-false-right (eqb p 0) (ltb (length cs) p || not (rows (p - 1))) h

      some : 0 < p
      some = positive p (or-false-left (eqb p 0) (ltb (length cs) p || not (rows (p - 1))) h)

      few : p ≤ length cs
      few = ltb-false (length cs) p (or-false-left (ltb (length cs) p) (not (rows (p - 1))) rest)

      inside : p - 1 < length cs
      inside = omega (arith, some, few)

      row : rows (p - 1) ≡ true
      row = not-false (rows (p - 1)) (or-false-right (ltb (length cs) p) (not (rows (p - 1))) rest)

      own : Memᴰ (at (p - 1)) cs × (place_of cs (at (p - 1)).id ≡ suc (p - 1))
      own = at-index cs s (p - 1) blank_character inside

      place : place_of cs x ≡ place_of cs (at (p - 1)).id
      place = omega (arith, some, own.1)

      there : held cs x ≡ true
      there = place-held cs x (omega (arith, few))

  -- ---- a knot of characters that are left

  -- the rows of those
  abbrev rows_of : List Character → ℕ → Bool
  rows_of left i = among left (at i).id

  -- one of them has a place that is not settled
  among_unsettled : (left : List Character) → Part cs left → (x : Identifier) → among left x ≡ true
      → settled (rows_of left) (length cs) (place_of cs x) ≡ false
  among_unsettled left f x h =
      let w = among_member left x h in
      let m = f w.0 w.1 in
      let i = own-index cs s blank_character m in
      let b = member_place cs s m in
      unsettled (rows_of left) (length cs) i.0 (omega (arith, i.1, b.1))
      (ap (λ (c : Character). among left c.id) i.2 ∙ member_among w.1) (place_of cs x)
      (ap (place_of cs) w.2 ∙ i.1)

  -- none of them is free
  knot_of : (left : List Character) → Part cs left → any (free left) left ≡ false
      → Knotted above below (length cs) (rows_of left)
  unfolding free free_at
  knot_of left f none i h r = go (either (among left (at i).previous))
    where
      bound-here : free left (at i) ≡ false
      bound-here =
          let w = among_member left (at i).id r in
          let e : at i ≡ w.0 = same-character cs s (at-index cs s i blank_character h).0 (f w.0 w.1) w.2 in
          ap (free left) e ∙ any_none (free left) none w.1

      first : Bool
      first = settled (rows_of left) (length cs) (get_or above i 0)

      second : Bool
      second = settled (rows_of left) (length cs) (get_or below i 0)

      go : (among left (at i).previous ≡ true) ⊎ (among left (at i).previous ≡ false) → first && second ≡ false
      go (inl e) =
          let q : first ≡ false =
          ap (settled (rows_of left) (length cs)) (previous i h) ∙ among_unsettled left f (at i).previous e in
          ap (λ (b : Bool). b && second) q
      go (inr e) =
          let g : among left (at i).next ≡ true =
          not-false (among left (at i).next)
          (and-false (not (among left (at i).previous)) (not (among left (at i).next)) bound-here (not-intro e)) in
          let q : second ≡ false =
          ap (settled (rows_of left) (length cs)) (next i h) ∙ among_unsettled left f (at i).next g in
          ap (λ (b : Bool). first && b) q ∙ and_no first

  pub unknotted_acyclic : Unknotted above below (length cs) → acyclic cs ≡ true
  unfolding acyclic
  unknotted_acyclic u = rw (empties cs some (length cs) cs (omega arith) (λ c m. m))
    where
      some : (left : List Character) → Part cs left → (c : Character) → Memᴰ c left → SomeFree left
      some left f c m = ⊎_elim (any_member (free left) left) none (either (any (free left) left))
        where
          none : any (free left) left ≡ false → SomeFree left
          none e =
              let i = own-index cs s blank_character (f c m) in
              let b = member_place cs s (f c m) in
              clash (ap (λ (d : Character). among left d.id) i.2 ∙ member_among m)
              (u (rows_of left) (knot_of left f e) i.0 (omega (arith, i.1, b.1)))

  -- ---- a knot stays

  module _ (knot : Knot above below (length cs)) where
    abbrev Holds : List Character → Type 0
    Holds left = (i : ℕ) → i < length cs → knot.rows i ≡ true → Memᴰ (at i) left

    -- a place that is not settled is held
    holds-among : (left : List Character) → Holds left → (x : Identifier)
        → settled knot.rows (length cs) (place_of cs x) ≡ false → among left x ≡ true
    holds-among left h x f =
        let w = left_at knot.rows x f in
        ap (among left) w.3 ∙ member_among (h w.0 w.1 w.2)

    not_free : (left : List Character) → Holds left → (i : ℕ) → i < length cs → knot.rows i ≡ true
        → free left (at i) ≡ false
    unfolding free free_at
    not_free left h i l r = go (either (settled knot.rows (length cs) (get_or above i 0)))
      where
        go : (settled knot.rows (length cs) (get_or above i 0) ≡ true)
            ⊎ (settled knot.rows (length cs) (get_or above i 0) ≡ false)
            → not (among left (at i).previous) && not (among left (at i).next) ≡ false
        go (inr e) =
            let q = holds-among left h (at i).previous
            (sym (ap (settled knot.rows (length cs)) (previous i l)) ∙ e) in
            ap (λ (b : Bool). not b && not (among left (at i).next)) q
        go (inl e) =
            let g = and-false (settled knot.rows (length cs) (get_or above i 0))
            (settled knot.rows (length cs) (get_or below i 0)) (knot.knotted i l r) e in
            let q = holds-among left h (at i).next
            (sym (ap (settled knot.rows (length cs)) (next i l)) ∙ g) in
            ap (λ (b : Bool). not (among left (at i).previous) && not b) q
            ∙ and_no (not (among left (at i).previous))

    holds-peeled : (m : ℕ) (left : List Character) → Holds left → Holds (peeled m left)
    unfolding peeled bound
    holds-peeled zero left h = h
    holds-peeled (suc m) left h =
        holds-peeled m (bound left)
        (λ i l r. member_keep (λ c. not (free left c)) (h i l r) (not-intro (not_free left h i l r)))

    pub knot_cyclic : acyclic cs ≡ false
    unfolding acyclic
    knot_cyclic =
        let m = holds-peeled (length cs) cs (λ i l r. (at-index cs s i blank_character l).0) knot.one knot.within
        knot.there in
        ne_eqb (length (peeled (length cs) cs)) 0 (λ e. omega (arith, e, member_long (peeled (length cs) cs) m))
