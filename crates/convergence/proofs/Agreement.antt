-- Two lists that grew from the empty one order what both hold alike: two of their characters stand as one of them does
-- to a neighbour of the other, born earlier, or they are concurrent and their identifiers decide.
use Prim.Native.Nat.{ℕ, zero, suc, ◌+◌, ◌≤◌, ◌<◌}
use native.Mathlib.Omega.{arith}
use native.Mathlib.Nat.{le_of_eq}
use mathlib.Core.Path.{◌≡◌, ap, sym, subst, subst₂}
use mathlib.Core.Bool.{true}
use mathlib.Core.List.{List, Memᴰ}
use mathlib.Core.Logic.{⊎_elim}
use Rattle.woot.specs.declared.Identifier.{Identifier}
use Rattle.woot.specs.declared.Insert.{Insert}
use Rattle.woot.specs.declared.Character.{Character}
use Rattle.woot.specs.Identifiers.{begin, below}
use Rattle.woot.specs.Operations.{origin}
use Rattle.woot.specs.Placing.{identifiers, place_of, held, above}
use Rattle.convergence.specs.Agreement.{Standing, Grown, OneMeaning}
use Rattle.lists.proofs.Tests.{agree}
use Rattle.convergence.proofs.Identifiers.{ne_same, below-asym}
use Rattle.convergence.proofs.Places.{Holding, is-begin, is-character, is-end, holding, held-id, held_member, held_place, above_place, above_lower, above-upper, place-above, place-injective, place-begin, place-later}
use Rattle.lists.proofs.Tests.{side}
use Rattle.convergence.proofs.Characters.{id_in_range, place_end, held-is-character}
use Rattle.convergence.proofs.Sorting.{Ranked, Ascending, sorted_ascending, previous-place, next_place, previous-held, next-held}

-- both lists hold x
record Common (cs ds : List Character) (x : Identifier) : Type 0 where
  left : held cs x ≡ true
  right : held ds x ≡ true

-- the other list has a character of the same insert
record Shared (cs ds : List Character) (c : Character) : Type 0 where
  member : Memᴰ c cs
  other : Character
  other-member : Memᴰ other ds
  alike : origin other ≡ origin c

-- what the other list says of a shared character, its neighbours and those concurrent with it
module _ (cs ds : List Character) (h : Standing ds) where
  shared-previous : {c : Character} → Shared cs ds c → above ds c.previous c.id ≡ true
  unfolding origin
  shared-previous t = subst (λ (i : Insert). above ds i.previous i.id ≡ true) t.alike (h.below-previous t.other t.other-member)

  shared-next : {c : Character} → Shared cs ds c → above ds c.id c.next ≡ true
  unfolding origin
  shared-next t = subst (λ (i : Insert). above ds i.id i.next ≡ true) t.alike (h.above-next t.other t.other-member)

  shared_ascending : {c d : Character} → Ascending ds → Shared cs ds c → Shared cs ds d → Ranked ds c.id c.next d.previous d.id
  unfolding origin
  shared_ascending a t u =
      subst₂ (λ (i j : Insert). Ranked ds i.id i.next j.previous j.id) t.alike u.alike
      (a t.other u.other t.other-member u.other-member)

module _ (cs ds : List Character) (g : Grown cs) (h : Grown ds) where
  abbrev born : Identifier → ℕ
  born = g.births.birth

  -- what is to be shown of two that both hold: they stand in the other list as in the first
  abbrev OrderKept : Identifier → Identifier → Type 0
  OrderKept x y = place_of cs x < place_of cs y → place_of ds x < place_of ds y

  -- it is shown of those with a lower sum of births
  abbrev Settled : ℕ → Type 0
  Settled n = (x y : Identifier) → Common cs ds x → Common cs ds y → born x + born y < n → OrderKept x y

  common_id : {c : Character} → Shared cs ds c → Common cs ds c.id
  common_id {c} t =
      record {
        left = held-id cs t.member;
        right = above_lower ds c.previous c.id (shared-previous cs ds h.standing t);
      }

  common_previous : {c : Character} → Shared cs ds c → Common cs ds c.previous
  common_previous {c} t =
      record {
        left = previous-held cs g.standing t.member;
        right = above-upper ds c.previous c.id (shared-previous cs ds h.standing t);
      }

  common_next : {c : Character} → Shared cs ds c → Common cs ds c.next
  common_next {c} t =
      record {
        left = next-held cs g.standing t.member;
        right = above_lower ds c.id c.next (shared-next cs ds h.standing t);
      }

  module _ (n : ℕ) (settled : Settled n) (c d : Character) (t : Shared cs ds c) (u : Shared cs ds d) (b : born c.id + born d.id < suc n) where
    not-under : (x y : Identifier) → Common cs ds x → Common cs ds y → born x + born y < n → place_of cs x ≤ place_of cs y → place_of ds x ≤ place_of ds y
    not-under x y i j l p =
        ⊎_elim (λ q. le_of_eq (ap (place_of ds) (place-injective cs x y (omega arith) i.left j.left)))
        (λ q. omega (arith, settled x y i j l q))
        (side (place_of cs y) (place_of cs x))

    -- c is at or above d's previous
    by-previous : place_of cs c.id ≤ place_of cs d.previous → place_of ds c.id < place_of ds d.id
    by-previous q =
        let e : born c.id + born d.previous < n = omega (arith, g.births.after-previous d u.member) in
        let r = not-under c.id d.previous (common_id t) (common_previous u) e q in
        omega (arith, above_place ds d.previous d.id (shared-previous cs ds h.standing u))

    -- d is at or below c's next
    by_next : place_of cs c.next ≤ place_of cs d.id → place_of ds c.id < place_of ds d.id
    by_next q =
        let e : born c.next + born d.id < n = omega (arith, g.births.after_next c t.member) in
        let r = not-under c.next d.id (common_next t) (common_id u) e q in
        omega (arith, above_place ds c.id c.next (shared-next cs ds h.standing t))

    -- otherwise they are concurrent, in both lists
    by-identifier : place_of cs c.id < place_of cs d.id → place_of cs d.previous < place_of cs c.id → place_of cs d.id < place_of cs c.next
        → place_of ds c.id < place_of ds d.id
    by-identifier p q r = ⊎_elim (λ e. absurd (other_way_lem e)) (λ e. e) (side (place_of ds d.id) (place_of ds c.id))
      where
        lower : below c.id d.id ≡ true
        lower = sorted_ascending cs g.standing g.sorted c d t.member u.member p q r

        previous-over : place_of ds c.previous < place_of ds d.id
        previous-over =
            settled c.previous d.id (common_previous t) (common_id u) (omega (arith, g.births.after-previous c t.member))
            (omega (arith, previous-place cs g.standing t.member))

        next_under : place_of ds c.id < place_of ds d.next
        next_under =
            settled c.id d.next (common_id t) (common_next u) (omega (arith, g.births.after_next d u.member))
            (omega (arith, next_place cs g.standing u.member))

        higher : place_of ds d.id < place_of ds c.id → below d.id c.id ≡ true
        higher f = shared_ascending cs ds h.standing (sorted_ascending ds h.standing h.sorted) u t f previous-over next_under

        other_way_lem : place_of ds d.id ≤ place_of ds c.id → ⊥
        other_way_lem e =
            ⊎_elim (λ f. omega (arith, ap (place_of cs) (place-injective ds c.id d.id (omega arith) (common_id t).right (common_id u).right)))
            (λ f. below-asym c.id d.id lower (higher f))
            (side (place_of ds c.id) (place_of ds d.id))

    characters-kept : OrderKept c.id d.id
    characters-kept p =
        ⊎_elim by-previous (λ q. ⊎_elim by_next (by-identifier p q) (side (place_of cs c.next) (place_of cs d.id)))
        (side (place_of cs c.id) (place_of cs d.previous))

  module _ (one : OneMeaning cs ds) where
    shared : {c : Character} → Memᴰ c cs → held ds c.id ≡ true → Shared cs ds c
    shared {c} m e =
        let r = held-is-character ds h.standing c.id (id_in_range cs g.standing m) e in
        record { member = m; other = r.0; other-member = r.1; alike = sym (one c r.0 m r.1 r.2) }

    order-kept : (n : ℕ) → Settled n
    order-kept zero x y i j b = absurd (omega arith)
    order-kept (suc n) x y i j b = go (order-kept n) (holding cs x i.left) (holding cs y j.left)
      where
        sharing : {z : Identifier} (c : Character) → Memᴰ c cs → z ≡ c.id → Common cs ds z → Shared cs ds c
        sharing c m e k = shared m (subst (λ (z : Identifier). held ds z ≡ true) e k.right)

        go : Settled n → Holding cs x → Holding cs y → OrderKept x y
        go r (is-begin e) w p =
            let f = ne_same y begin (λ f. omega (arith, p, ap (place_of cs) f, place-begin cs)) in
            omega (arith, ap (place_of ds) e, place-begin ds, place-later ds y f)
        go r (is-end e) w p = absurd (omega (arith, ap (place_of cs) e, place_end cs g.standing, held_place cs y j.left))
        go r (is-character c m e) (is-begin f) p = absurd (omega (arith, ap (place_of cs) f, place-begin cs))
        go r (is-character c m e) (is-end f) p =
            let t = sharing c m e i in
            let q = above_place ds c.id c.next (shared-next cs ds h.standing t) in
            omega (arith, ap (place_of ds) e, ap (place_of ds) f, place_end ds h.standing, q, held_place ds c.next (common_next t).right)
        go r (is-character c m e) (is-character d k f) p =
            subst₂ (λ (a b : Identifier). born a + born b < suc n → OrderKept a b) (sym e) (sym f)
            (characters-kept n r c d (sharing c m e i) (sharing d k f j))
            b
            p

    carries : (x y : Identifier) → Common cs ds x → Common cs ds y → OrderKept x y
    carries x y i j = order-kept (suc (born x + born y)) x y i j (omega arith)

    carries_back : (x y : Identifier) → Common cs ds x → Common cs ds y → place_of ds x < place_of ds y → place_of cs x < place_of cs y
    carries_back x y i j p = ⊎_elim (λ f. absurd (other_way_lem f)) (λ f. f) (side (place_of cs y) (place_of cs x))
      where
        other_way_lem : place_of cs y ≤ place_of cs x → ⊥
        other_way_lem f =
            ⊎_elim (λ q. omega (arith, ap (place_of ds) (place-injective cs x y (omega arith) i.left j.left)))
            (λ q. omega (arith, carries y x j i q))
            (side (place_of cs x) (place_of cs y))

    -- what both lists hold, marks or characters, stands alike in both
    pub agreement_held : (x y : Identifier) → held cs x ≡ true → held cs y ≡ true → held ds x ≡ true → held ds y ≡ true → above cs x y ≡ above ds x y
    agreement_held x y i j k l =
        agree (above cs x y) (above ds x y) (λ e. place-above ds x y (carries x y both-x both-y (above_place cs x y e)) l)
        (λ e. place-above cs x y (carries_back x y both-x both-y (above_place ds x y e)) j)
      where
        both-x : Common cs ds x
        both-x = record { left = i; right = k }

        both-y : Common cs ds y
        both-y = record { left = j; right = l }

pub agreement : (cs ds : List Character) → Grown cs → Grown ds → OneMeaning cs ds → (x y : Identifier)
    → Memᴰ x (identifiers cs) → Memᴰ y (identifiers cs) → Memᴰ x (identifiers ds) → Memᴰ y (identifiers ds)
    → above cs x y ≡ above ds x y
agreement cs ds g h one x y i j k l = agreement_held cs ds g h one x y (held_member cs i) (held_member cs j) (held_member ds k) (held_member ds l)
