-- Two lists that grew from the empty one by the same inserts are the same list: in each the places of the other's
-- identifiers rise, so none stands higher in one than in the other.
use Prim.Native.Nat.{ℕ, zero, suc, ◌≤◌, ◌<◌}
use native.Mathlib.Omega.{arith}
use mathlib.Core.Path.{◌≡◌, refl, ap, sym, ◌∙◌, subst}
use mathlib.Core.Bool.{true}
use mathlib.Core.List.Memᴰ
use mathlib.Core.List.{List, map, Memᴰ}
use mathlib.Core.Logic.{◌↔◌}
use lib.ListN.{length, get_or, length-map, get_or-map}
use lib.Seq.{ext_get_or}
use Rattle.woot.specs.declared.Identifier.{Identifier}
use Rattle.woot.specs.declared.Insert.{Insert}
use Rattle.woot.specs.declared.Character.{Character}
use Rattle.woot.specs.Identifiers.{begin, end}
use Rattle.woot.specs.Operations.{origin}
use Rattle.woot.specs.State.{blank_character}
use Rattle.woot.specs.Placing.{place_of, held}
use Rattle.convergence.specs.Agreement.{Grown, OneMeaning}
use Rattle.convergence.proofs.Places.{Holding, is-begin, is-character, is-end, holding, held-begin, held-end, held-id, held_place, above_place, place-above, place-begin}
use Rattle.convergence.proofs.Characters.{at-index, place_end, own-index, same-character}
use Rattle.convergence.proofs.Agreement.{agreement_held}

-- the inserts of the first are among those of the second
module _ (cs ds : List Character) (g : Grown cs) (h : Grown ds) (among : (i : Insert) → Memᴰ i (map origin cs) → Memᴰ i (map origin ds)) where
  -- the second's character of the same insert
  pub counterpart : {c : Character} → Memᴰ c cs → (d : Character) × Memᴰ d ds × (origin d ≡ origin c) × (d.id ≡ c.id)
  unfolding origin
  counterpart {c} m =
      let r = Memᴰ.of_map origin ds (among (origin c) (Memᴰ.map origin m)) in
      (r.0, r.1, r.2, ap (λ (i : Insert). i.id) r.2)

  pub one-meaning : OneMeaning cs ds
  one-meaning c d m n e = let r = counterpart m in sym r.2 ∙ ap origin (same-character ds h.standing r.1 n (r.3 ∙ e))

  held_too : (x : Identifier) → held cs x ≡ true → held ds x ≡ true
  held_too x e = go (holding cs x e)
    where
      go : Holding cs x → held ds x ≡ true
      go (is-begin f) = subst (λ (y : Identifier). held ds y ≡ true) (sym f) (held-begin ds)
      go (is-character c m f) = let r = counterpart m in subst (λ (y : Identifier). held ds y ≡ true) (r.3 ∙ sym f) (held-id ds r.1)
      go (is-end f) = subst (λ (y : Identifier). held ds y ≡ true) (sym f) (held-end ds)

  -- what stands at a place
  at : (k : ℕ) → k ≤ length cs → (x : Identifier) × (held cs x ≡ true) × (place_of cs x ≡ k)
  at zero l = (begin, held-begin cs, place-begin cs)
  at (suc k) l = let r = at-index cs g.standing k blank_character l in ((get_or cs k blank_character).id, held-id cs r.0, r.1)

  not_higher : (k : ℕ) (x : Identifier) → held cs x ≡ true → place_of cs x ≡ k → k ≤ place_of ds x
  not_higher zero x e f = omega arith
  not_higher (suc k) x e f = step (at k (omega (arith, held_place cs x e))) (not_higher k)
    where
      step : ((y : Identifier) × (held cs y ≡ true) × (place_of cs y ≡ k))
          → ((y : Identifier) → held cs y ≡ true → place_of cs y ≡ k → k ≤ place_of ds y) → suc k ≤ place_of ds x
      step r s =
          let alike = agreement_held cs ds g h one-meaning r.0 x r.1 e (held_too r.0 r.1) (held_too x e) in
          omega (arith, s r.0 r.1 r.2, above_place ds r.0 x (sym alike ∙ place-above cs r.0 x (omega (arith, r.2)) e))

pub same-list : (cs ds : List Character) → Grown cs → Grown ds → ((i : Insert) → Memᴰ i (map origin cs) ↔ Memᴰ i (map origin ds))
    → map origin cs ≡ map origin ds
same-list cs ds g h among =
    ext_get_or (origin blank_character) (map origin cs) (map origin ds) (length-map cs origin ∙ lengths ∙ sym (length-map ds origin))
    element
  where
    to : (i : Insert) → Memᴰ i (map origin cs) → Memᴰ i (map origin ds)
    to i = (among i).0

    from : (i : Insert) → Memᴰ i (map origin ds) → Memᴰ i (map origin cs)
    from i = (among i).1

    places : (x : Identifier) → held cs x ≡ true → place_of cs x ≡ place_of ds x
    places x e =
        omega (arith, not_higher cs ds g h to (place_of cs x) x e refl, not_higher ds cs h g from (place_of ds x) x (held_too cs ds g h to x e) refl)

    lengths : length cs ≡ length ds
    lengths = omega (arith, places end (held-end cs), place_end cs g.standing, place_end ds h.standing)

    at_same : (i : ℕ) → i < length cs → origin (get_or cs i blank_character) ≡ origin (get_or ds i blank_character)
    at_same i l =
        let r = at-index cs g.standing i blank_character l in
        let d = counterpart cs ds g h to r.0 in
        let j = own-index ds h.standing blank_character d.1 in
        let e : j.0 ≡ i = omega (arith, r.1, j.1, ap (place_of ds) d.3, places (get_or cs i blank_character).id (held-id cs r.0)) in
        sym d.2 ∙ ap origin (sym j.2) ∙ ap (λ (k : ℕ). origin (get_or ds k blank_character)) e

    element : (i : ℕ) → i < length (map origin cs) → get_or (map origin cs) i (origin blank_character) ≡ get_or (map origin ds) i (origin blank_character)
    element i l =
        get_or-map origin cs i blank_character ∙ at_same i (omega (arith, length-map cs origin))
        ∙ sym (get_or-map origin ds i blank_character)
