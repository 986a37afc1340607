-- Req 13: the characters that are visible on two replicas have the same inserts on both, and on both these rise by
-- their places on the second, so they are one list.
use Prim.Native.Nat.{ℕ, suc, ◌<◌}
use native.Mathlib.Omega.{arith}
use mathlib.Core.Path.{◌≡◌, refl, ap, sym, ◌∙◌, subst}
use mathlib.Core.Bool.{Bool, true, ◌&&◌}
use mathlib.Core.List.Memᴰ
use mathlib.Core.List.{List, [], ◌∷◌, map, Memᴰ}
use Rattle.lists.specs.Lists.{any, keep}
use Rattle.lists.proofs.Tests.{and_intro, and_left_lem, and_right}
use Rattle.lists.proofs.Members.{any_member, member_any, keep_member, member_keep}
use Rattle.woot.specs.declared.Identifier.{Identifier}
use Rattle.woot.specs.declared.Insert.{Insert}
use Rattle.woot.specs.declared.Character.{Character}
use Rattle.woot.specs.Operations.{origin, is_visible, same_insert}
use Rattle.woot.specs.Placing.{Located, located, place_of, held, above}
use Rattle.bulk.specs.Beginnings.{characters_after}
use Rattle.bulk.specs.Common.{visible_among, common_visible}
use Rattle.convergence.specs.Agreement.{Standing, Grown, OneMeaning}
use Rattle.convergence.specs.Common.{CommonAgrees}
use Rattle.convergence.proofs.Equal.{insert-same, insert-refl}
use Rattle.convergence.proofs.Places.{held-id, above_place, place-above}
use Rattle.convergence.proofs.Characters.{located-bound, located-place}
use Rattle.convergence.proofs.Agreement.{agreement_held}
use Rattle.convergence.proofs.Grown.{grown-throughout}
use Rattle.convergence.proofs.Rising.{Rising, none, next, rising_unique, rising_keep, rising_as, rising_map}

-- ---- characters rise by their places

found-located : (k : ℕ) {y : Character} (xs : List Character) → Memᴰ y xs → (l : Located) × Memᴰ l (located k xs) × (l.at ≡ y)
found-located k {y = y} [] x' = elim x' [ ]
found-located k (x ∷ xs) (Memᴰ.head e) = (record { place = k; at = x }, Memᴰ.head refl, sym e)
found-located k (x ∷ xs) (Memᴰ.tail m) = let r = found-located (suc k) xs m in (r.0, Memᴰ.tail r.1, r.2)

places_rise : (f : Character → ℕ) (k : ℕ) (xs : List Character) → ((l : Located) → Memᴰ l (located k xs) → f l.at ≡ l.place) → Rising f xs
places_rise f k [] h = none
places_rise f k (x ∷ xs) h =
    next {x = x}
    (λ y m. let r = found-located (suc k) xs m in omega (arith, h (record { place = k; at = x }) (Memᴰ.head refl), h r.0 (Memᴰ.tail r.1), ap f r.2, (located-bound (suc k) xs r.1).0))
    (places_rise f (suc k) xs (λ l m. h l (Memᴰ.tail m)))

pub characters_rise : (cs : List Character) → Standing cs → Rising (λ c. place_of cs c.id) cs
characters_rise cs s = places_rise (λ c. place_of cs c.id) 1 cs (λ l m. located-place cs s m)

-- ---- what is visible on both

module _ (cs ds : List Character) where
  -- what is kept of the first
  abbrev shared : Character → Bool
  shared c = is_visible c && visible_among ds c

  -- has a visible character of the same insert on the second
  twin : {c : Character} → Memᴰ c (keep shared cs)
      → Memᴰ c cs × (is_visible c ≡ true) × ((d : Character) × Memᴰ d ds × (is_visible d ≡ true) × (origin c ≡ origin d))
  unfolding visible_among
  twin {c} m =
      let k = keep_member shared cs m in
      let w = any_member (λ d. is_visible d && same_insert (origin c) (origin d)) ds (and_right (is_visible c) (visible_among ds c) k.1) in (
        k.0,
        and_left_lem (is_visible c) (visible_among ds c) k.1,
        (
          w.0,
          w.1,
          and_left_lem (is_visible w.0) (same_insert (origin c) (origin w.0)) w.2,
          insert-same (origin c) (origin w.0) (and_right (is_visible w.0) (same_insert (origin c) (origin w.0)) w.2),
        ),
      )

  -- whoever has one is kept
  twinned : {c d : Character} → Memᴰ c cs → is_visible c ≡ true → Memᴰ d ds → is_visible d ≡ true → origin c ≡ origin d → Memᴰ c (keep shared cs)
  unfolding visible_among
  twinned {c} {d} m v n w e =
      member_keep shared m
      (and_intro v
      (member_any (λ b. is_visible b && same_insert (origin c) (origin b)) n
      (and_intro w (subst (λ (i : Insert). same_insert (origin c) i ≡ true) e (insert-refl (origin c))))))

to-other : (cs ds : List Character) (i : Insert) → Memᴰ i (common_visible cs ds) → Memᴰ i (common_visible ds cs)
unfolding common_visible
to-other cs ds i m =
    let r = Memᴰ.of_map origin (keep (shared cs ds) cs) m in
    let t = twin cs ds r.1 in
    subst (λ (j : Insert). Memᴰ j (map origin (keep (shared ds cs) ds))) (sym t.2.3 ∙ r.2)
    (Memᴰ.map origin (twinned ds cs t.2.1 t.2.2 t.0 t.1 (sym t.2.3)))

pub common_same : (cs ds : List Character) → Grown cs → Grown ds → OneMeaning cs ds → common_visible cs ds ≡ common_visible ds cs
unfolding common_visible origin
common_same cs ds g h one =
    rising_unique by (common_visible cs ds) (common_visible ds cs) first second (λ i. (to-other cs ds i, to-other ds cs i))
  where
    by : Insert → ℕ
    by i = place_of ds i.id

    there : {c : Character} → Memᴰ c (keep (shared cs ds) cs) → held ds c.id ≡ true
    there m =
        let t = twin cs ds m in
        subst (λ (x : Identifier). held ds x ≡ true) (sym (ap (λ (i : Insert). i.id) t.2.3)) (held-id ds t.2.1)

    carried : (c d : Character) → Memᴰ c (keep (shared cs ds) cs) → Memᴰ d (keep (shared cs ds) cs)
        → place_of cs c.id < place_of cs d.id → place_of ds c.id < place_of ds d.id
    carried c d m n l =
        let a = held-id cs (keep_member (shared cs ds) cs m).0 in
        let b = held-id cs (keep_member (shared cs ds) cs n).0 in
        above_place ds c.id d.id
        (sym (agreement_held cs ds g h one c.id d.id a b (there m) (there n)) ∙ place-above cs c.id d.id l b)

    first : Rising by (map origin (keep (shared cs ds) cs))
    first =
        rising_map origin by
        (rising_as (λ c. place_of cs c.id) (λ c. place_of ds c.id) carried
        (rising_keep (λ c. place_of cs c.id) (shared cs ds) (characters_rise cs g.standing)))

    second : Rising by (map origin (keep (shared ds cs) ds))
    second = rising_map origin by (rising_keep (λ c. place_of ds c.id) (shared ds cs) (characters_rise ds h.standing))

pub common_agrees : CommonAgrees
common_agrees a b cs ds =
    common_same (characters_after a cs) (characters_after b ds) (grown-throughout a cs) (grown-throughout b ds)
