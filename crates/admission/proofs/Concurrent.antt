-- The pairs that the test by places looks at are those of the rule: the upper row of such a pair stands below the
-- previous of the lower, which stands above the next of the upper. Keys are ordered as identifiers are.
use Prim.Native.Nat.{ℕ, suc, ◌+◌, ◌≤◌, ◌<◌}
use native.Mathlib.Omega.{arith}
use mathlib.Core.Path.{◌≡◌, refl, sym, ap, ◌∙◌, subst}
use mathlib.Core.Bool.{Bool, true, false, ◌&&◌, ◌||◌, not}
use mathlib.Core.List.{List, Memᴰ}
use mathlib.Core.Logic.{◌⊎◌, inl, inr, ⊎_elim}
use borrow.Author.Tests.{ltb-true, ltb-false, lt-ltb, not-true}
use lib.Dec.{ltb}
use lib.ListN.{length, get_or}
use Rattle.lists.specs.Lists.{every, throughout}
use Rattle.lists.proofs.Tests.{side, either, clash, fails, agree, and_intro, and_left_lem, and_right, and-false, or_cases}
use Rattle.lists.proofs.Tests.{or_left, or_right, not-intro}
use Rattle.lists.proofs.Members.{every_member, member_every}
use Rattle.lists.proofs.Throughout.{throughout-at, throughout-all}
use Rattle.woot.specs.declared.Identifier.{Identifier}
use Rattle.woot.specs.declared.Character.{Character}
use Rattle.woot.specs.Identifiers.{below}
use Rattle.woot.specs.Placing.{place_of, above}
use Rattle.woot.specs.State.{blank_character}
use Rattle.bulk.specs.Loading.{ordered_pair, ordered_pairs}
use Rattle.woot.specs.Table.{key}
use Rattle.convergence.specs.Agreement.{Standing}
use Rattle.convergence.proofs.Places.{held-id, above_place, place-above}
use Rattle.convergence.proofs.Characters.{at-index, own-index, member_place}
use Rattle.convergence.proofs.Sorting.{next-held}
use Rattle.index.specs.Keys.{AllSmall}
use Rattle.index.proofs.Keys.{key-injective, key_below}
use Rattle.neighbours.specs.Steps.{pair_at, row_at}

module _ (cs : List Character) (s : Standing cs) (small : AllSmall cs) (ids ups downs : List ℕ)
    (own : (i : ℕ) → i < length cs → get_or ids i 0 ≡ key (get_or cs i blank_character).id)
    (previous : (i : ℕ) → i < length cs → get_or ups i 0 ≡ place_of cs (get_or cs i blank_character).previous)
    (next : (i : ℕ) → i < length cs → get_or downs i 0 ≡ place_of cs (get_or cs i blank_character).next) where
  abbrev at : ℕ → Character
  at i = get_or cs i blank_character

  -- c stands above d, and each between the other's neighbours
  abbrev crossing : Character → Character → Bool
  crossing c d = above cs c.id d.id && above cs d.previous c.id && above cs d.id c.next

  -- where no pair of rows is out of order
  module _ (h : throughout (row_at ids ups downs) (length cs) ≡ true) where
    -- row i stands above row j, and each between the other's neighbours
    ranked : (i j : ℕ) → i < j → j < length cs → place_of cs (at j).previous < suc i
        → suc j < place_of cs (at i).next → key (at i).id ≤ key (at j).id
    unfolding pair_at
    ranked i j l m p q =
        let row = throughout-at (row_at ids ups downs) (length cs) j m h in
        let cell = throughout-at (pair_at ids downs (get_or ups j 0) j) j i l row in
        let lower : ltb (j + 1) (get_or downs i 0) ≡ true =
        lt-ltb (j + 1) (get_or downs i 0) (omega (arith, next i (omega arith))) in
        ⊎_elim (λ e. absurd (omega (arith, ltb-true i (get_or ups j 0) e, previous j m)))
        (λ e.
        omega (
          arith,
          own i (omega arith),
          own j m,
          ltb-false (get_or ids j 0) (get_or ids i 0)
              (and-false (ltb (j + 1) (get_or downs i 0)) (ltb (get_or ids j 0) (get_or ids i 0))
              (not-true (ltb (j + 1) (get_or downs i 0) && ltb (get_or ids j 0) (get_or ids i 0)) e) lower),
        ))
        (or_cases (ltb i (get_or ups j 0)) (not (ltb (j + 1) (get_or downs i 0) && ltb (get_or ids j 0) (get_or ids i 0))) cell)

    crossing_below : {c d : Character} → Memᴰ c cs → Memᴰ d cs → crossing c d ≡ true
        → below c.id d.id ≡ true
    crossing_below {c} {d} m n e =
        sym (key_below c.id d.id (small c m).id (small d n).id)
        ∙ lt-ltb (key c.id) (key d.id) (strict lower)
      where
        x : Bool
        x = above cs c.id d.id

        y : Bool
        y = above cs d.previous c.id

        z : Bool
        z = above cs d.id c.next

        order : place_of cs c.id < place_of cs d.id
        order = above_place cs c.id d.id (and_left_lem x y (and_left_lem (x && y) z e))

        upper : place_of cs d.previous < place_of cs c.id
        upper = above_place cs d.previous c.id (and_right x y (and_left_lem (x && y) z e))

        under : place_of cs d.id < place_of cs c.next
        under = above_place cs d.id c.next (and_right (x && y) z e)

        lower : key c.id ≤ key d.id
        lower =
            let i = own-index cs s blank_character m in
            let j = own-index cs s blank_character n in
            let b = member_place cs s n in
            subst (λ (a : Character). key a.id ≤ key d.id) i.2
            (subst (λ (a : Character). key (at i.0).id ≤ key a.id) j.2
            (ranked i.0 j.0 (omega (arith, order, i.1, j.1)) (omega (arith, j.1, b.1))
            (subst (λ (a : Character). place_of cs a.previous < suc i.0) (sym j.2) (omega (arith, upper, i.1)))
            (subst (λ (a : Character). suc j.0 < place_of cs a.next) (sym i.2) (omega (arith, under, j.1)))))

        apart : key c.id ≡ key d.id → ⊥
        apart f =
            let g = ap (place_of cs) (key-injective c.id d.id (small c m).id (small d n).id f) in
            omega (arith, order, g)

        strict : key c.id ≤ key d.id → key c.id < key d.id
        strict g =
            ⊎_elim (λ l. absurd (apart (omega (arith, l, g)))) (λ l. l) (side (key d.id) (key c.id))

    rows-pairs : ordered_pairs cs ≡ true
    unfolding ordered_pairs ordered_pair
    rows-pairs =
        member_every (λ c. every (ordered_pair cs c) cs) cs
        (λ c m. member_every (ordered_pair cs c) cs (λ d n. one c m d n (either (crossing c d))))
      where
        one : (c : Character) → Memᴰ c cs → (d : Character) → Memᴰ d cs
            → (crossing c d ≡ true) ⊎ (crossing c d ≡ false) → not (crossing c d) || below c.id d.id ≡ true
        one c m d n (inl e) = or_right (not (crossing c d)) (below c.id d.id) (crossing_below m n e)
        one c m d n (inr e) = or_left (not (crossing c d)) (below c.id d.id) (not-intro e)

  -- where the rule finds none
  pairs-rows : ordered_pairs cs ≡ true → throughout (row_at ids ups downs) (length cs) ≡ true
  unfolding ordered_pairs ordered_pair pair_at
  pairs-rows h =
      throughout-all (row_at ids ups downs) (length cs)
      (λ k l. throughout-all (pair_at ids downs (get_or ups k 0) k) k (λ j i. cell k l j i))
    where
      cell : (k : ℕ) → k < length cs → (j : ℕ) → j < k
          → ltb j (get_or ups k 0) || not (ltb (k + 1) (get_or downs j 0) && ltb (get_or ids k 0) (get_or ids j 0)) ≡ true
      cell k l j i =
          ⊎_elim (or_left up (not (down && less))) (λ e. or_right up (not (down && less)) (rest e)) (either up)
        where
          up : Bool
          up = ltb j (get_or ups k 0)

          down : Bool
          down = ltb (k + 1) (get_or downs j 0)

          less : Bool
          less = ltb (get_or ids k 0) (get_or ids j 0)

          c : Memᴰ (at j) cs × (place_of cs (at j).id ≡ suc j)
          c = at-index cs s j blank_character (omega arith)

          d : Memᴰ (at k) cs × (place_of cs (at k).id ≡ suc k)
          d = at-index cs s k blank_character l

          crossed : up ≡ false → down ≡ true → crossing (at j) (at k) ≡ true
          crossed e f =
              and_intro
              (and_intro (place-above cs (at j).id (at k).id (omega (arith, c.1, d.1)) (held-id cs d.0))
              (place-above cs (at k).previous (at j).id
              (omega (arith, c.1, previous k l, ltb-false j (get_or ups k 0) e)) (held-id cs c.0)))
              (place-above cs (at k).id (at j).next
              (omega (arith, d.1, next j (omega arith), ltb-true (k + 1) (get_or downs j 0) f)) (next-held cs s c.0))

          rest : up ≡ false → not (down && less) ≡ true
          rest e = not-intro (fails (down && less) (λ f. wrong (and_left_lem down less f) (and_right down less f)))
            where
              wrong : down ≡ true → less ≡ true → ⊥
              wrong f g =
                  let pair = every_member (ordered_pair cs (at j))
                  (every_member (λ c. every (ordered_pair cs c) cs) h c.0) d.0 in
                  let b : below (at j).id (at k).id ≡ true =
                  ⊎_elim (λ q. clash (crossed e f) (not-true (crossing (at j) (at k)) q)) (λ q. q)
                  (or_cases (not (crossing (at j) (at k))) (below (at j).id (at k).id) pair) in
                  let q = ltb-true (key (at j).id) (key (at k).id)
                  (key_below (at j).id (at k).id (small (at j) c.0).id (small (at k) d.0).id ∙ b) in
                  omega (arith, q, own j (omega arith), own k l, ltb-true (get_or ids k 0) (get_or ids j 0) g)

  pub pairs-same : throughout (row_at ids ups downs) (length cs) ≡ ordered_pairs cs
  pairs-same = agree _ _ rows-pairs pairs-rows
