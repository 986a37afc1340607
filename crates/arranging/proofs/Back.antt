-- An order leads both ways: the places of an archive lead to its characters, and where each place's slot leads to its row
-- the rows in that order are at their places.
use Prim.Native.Nat.{ℕ, zero, suc, ◌+◌, ◌-◌, ◌≤◌, ◌<◌}
use native.Mathlib.Omega.{arith}
use mathlib.Core.Path.{◌≡◌, refl, ap, sym, ◌∙◌, subst}
use mathlib.Core.Bool.{true, false}
use mathlib.Core.List.{List, [], ◌∷◌, map, Memᴰ}
use lib.Dec.{ltb}
use lib.ListN.{length, get_or, take, length-map, get_or-map}
use Rattle.lists.specs.Lists.{every}
use Rattle.lists.specs.Sorting.{sorted_by, rises_by}
use Rattle.lists.proofs.Indices.{map_get_d}
use Rattle.lists.proofs.Sorting.{sorted_member}
use Rattle.lists.proofs.Tests.{fails, and_left_lem, and_right}
use Rattle.woot.specs.declared.Character.{Character}
use Rattle.woot.specs.Limits.{capacity}
use Rattle.woot.specs.Memory.{character_slots}
use Rattle.woot.specs.Ranges.{character_in_range}
use Rattle.woot.specs.State.{blank_character}
use Rattle.woot.specs.Table.{keys}
use Rattle.bulk.specs.Archiving.{Placed, placed_from, places_of, characters_of, by_identifier, archived, unarchived, place_in_range, each_once, places_kept}
use Rattle.bulk.specs.Archiving.{identifiers_rise, arranged}
use Rattle.convergence.proofs.Archiving.{row_at, at_places, places-bound, places_exactly}
use Rattle.index.proofs.Keys.{key_below, range_small}
use Rattle.arranging.specs.Order.{Leads, LeadsBack, PlacedIn, characters_led}
use Rattle.arranging.proofs.Packing.{map-map-on}
use Rattle.arranging.proofs.Places.{member_index}

-- ---- the way forth

-- the characters that the places lead to are those of the archive
pub led-archived : (cs : List Character) → characters_led cs (places_of (archived cs)) ≡ characters_of (archived cs)
unfolding characters_led archived
led-archived cs =
    map-map-on (λ (p : Placed). p.place) (λ (k : ℕ). get_or cs (k - 1) blank_character) (λ (p : Placed). p.character) (sorted_by by_identifier (placed_from 1 cs))
    (λ p m. row_at 1 cs (sorted_member by_identifier (placed_from 1 cs) m))

-- ---- the order

-- places as rows, whatever their characters
blank_at : ℕ → Placed
blank_at k = record { place = k; character = blank_character }

blanks : (ns : List ℕ) → places_of (map blank_at ns) ≡ ns
unfolding blank_at
blanks [] = refl
blanks (n ∷ ns) = ap (λ (l : List ℕ). n ∷ l) (blanks ns)

-- each slot leads to some row
pub leads-all : (places order : List ℕ) → each_once places ≡ true → LeadsBack places order → Leads order (length places) (length places)
unfolding LeadsBack places_kept
leads-all places order once back k h =
    let ps = map blank_at places in
    let kept : places_kept ps ≡ true = ap each_once (blanks places) ∙ once in
    let m : Memᴰ (k + 1) (places_of ps) = (places_exactly ps kept (k + 1)).1 (omega arith, omega (arith, h, length-map places blank_at)) in
    let r = member_index (subst (λ (l : List ℕ). Memᴰ (k + 1) l) (blanks places) m) in
    let e : get_or places r.0 0 - 1 ≡ k = omega (arith, r.2) in
    let f : get_or order k 0 ≡ r.0 + 1 = ap (λ (n : ℕ). get_or order n 0) (sym e) ∙ back r.0 r.1 in
    (omega (arith, f), omega (arith, f, r.1))

row-index : {p : Placed} {ps : List Placed} → Memᴰ p ps → (j : ℕ) × (j < length ps) × (get_or ps j (blank_at 0) ≡ p)
row-index (mathlib.Core.List.Memᴰ.head e) = (zero, omega arith, sym e)
row-index (mathlib.Core.List.Memᴰ.tail m) = let r = row-index m in (suc r.0, omega (arith, r.1), r.2)

-- the rows in that order are those at their places
led-back : (ps : List Placed) (order : List ℕ) → each_once (places_of ps) ≡ true → LeadsBack (places_of ps) order → length order ≡ length ps
    → characters_led (characters_of ps) order ≡ unarchived ps
unfolding LeadsBack places_kept characters_led blank_at
led-back ps order once back size =
    at_places ps (map row order) once (length-map order row ∙ size) (λ p m.
    let r = row-index m in
    let at : get_or (places_of ps) r.0 0 ≡ p.place = get_or-map (λ (q : Placed). q.place) ps r.0 (blank_at 0) ∙ ap (λ (q : Placed). q.place) r.2 in
    let there : get_or (characters_of ps) r.0 blank_character ≡ p.character =
    get_or-map (λ (q : Placed). q.character) ps r.0 (blank_at 0) ∙ ap (λ (q : Placed). q.character) r.2 in
    let n : length (places_of ps) ≡ length ps = length-map ps (λ (q : Placed). q.place) in
    let i : get_or order (p.place - 1) 0 ≡ r.0 + 1 = ap (λ (k : ℕ). get_or order (k - 1) 0) (sym at) ∙ back r.0 (omega (arith, n, r.1)) in
    let z : r.0 + 1 - 1 ≡ r.0 = omega arith in
    let v = (places_exactly ps once p.place).0 (mathlib.Core.List.Memᴰ.map (λ (q : Placed). q.place) m) in
    let w : p.place - 1 < length order = omega (arith, v.0, v.1, size) in
    map_get_d row order (p.place - 1) blank_character 0 w
    ∙ ap row i ∙ ap (λ (k : ℕ). get_or (characters_of ps) k blank_character) z ∙ there)
  where
    row : ℕ → Character
    row k = get_or (characters_of ps) (k - 1) blank_character

-- ---- what is answered

too_many : (ps : List Placed) → every place_in_range ps ≡ true → capacity < length ps → arranged ps ≡ false
unfolding arranged
too_many ps ranged h = fails _ (λ e. omega (arith, h, places-bound ps ranged (and_left_lem (places_kept ps) (identifiers_rise ps) e)))

misplaced : (ps : List Placed) → each_once (places_of ps) ≡ false → arranged ps ≡ false
unfolding arranged places_kept
misplaced ps e = rw e

keys_rise : (ps : List Placed) → every character_in_range (characters_of ps) ≡ true → rises_by ltb (keys (characters_of ps)) ≡ identifiers_rise ps
unfolding identifiers_rise by_identifier
keys_rise [] r = refl
keys_rise (p ∷ []) r = refl
keys_rise (p ∷ q ∷ ps) r =
    let s = and_right (character_in_range p.character) _ r in
    let a = (range_small p.character (and_left_lem (character_in_range p.character) _ r)).id in
    let b = (range_small q.character (and_left_lem (character_in_range q.character) _ s)).id in
    rw (key_below p.character.id q.character.id a b, keys_rise (q ∷ ps) s)

placed-rises : (ps : List Placed) → every character_in_range (characters_of ps) ≡ true → each_once (places_of ps) ≡ true
    → rises_by ltb (keys (characters_of ps)) ≡ arranged ps
unfolding arranged places_kept
placed-rises ps r e = keys_rise ps r ∙ rw e

-- ---- the same of lent arrays

module _ (ps : List Placed) (ids places : List ℕ) (n : ℕ) (h : PlacedIn ps ids places n) where
  pub above-slots : character_slots < n → false ≡ arranged ps
  above-slots l = sym (too_many ps h.places-ranged (omega (arith, l, h.counted)))

  module _ (fits : n ≤ character_slots) where
    pub not-once : each_once (take n places) ≡ false → false ≡ arranged ps
    not-once e = sym (misplaced ps (ap each_once (sym (h.places-held fits)) ∙ e))

    module _ (once : each_once (take n places) ≡ true) where
      once-held : each_once (places_of ps) ≡ true
      once-held = ap each_once (sym (h.places-held fits)) ∙ once

      pub rising : rises_by ltb (take n ids) ≡ arranged ps
      rising = ap (rises_by ltb) (h.keys-held fits) ∙ placed-rises ps h.ranged once-held

      pub brought-back : (order : List ℕ) → LeadsBack (take n places) order → length order ≡ n → characters_led (characters_of ps) order ≡ unarchived ps
      brought-back order back size =
          led-back ps order once-held (subst (λ (l : List ℕ). LeadsBack l order) (h.places-held fits) back) (size ∙ h.counted)
