-- What the tests of the check say of a replica, by how those before them came out: the ranges make the columns those of
-- its meaning, and the table tells its keys apart.
use native.Mathlib.Omega.{arith}
use mathlib.Core.Path.{◌≡◌, refl, sym, ap, ◌∙◌}
use mathlib.Core.Bool.{Bool, true, false, ◌&&◌, and-true, and-false as and_no}
use mathlib.Core.List.{List, map}
use mathlib.Core.Logic.{⊎_elim}
use lib.Dec.{eqb}
use lib.ListN.{take}
use lib.Seq.{length-take-le}
use Rattle.lists.specs.Lists.{every, distinct}
use Rattle.lists.proofs.Tests.{either, and_left_lem, and_right, and-false, three}
use Rattle.woot.specs.declared.Character.{Character}
use Rattle.woot.specs.declared.Operation.{Operation}
use Rattle.memory.specs.Columns.{Replica}
use Rattle.woot.specs.Ranges.{site_in_range, character_in_range, in_range}
use Rattle.woot.specs.Form.{all_in_range, shares_kept, capacity_kept, identifiers_distinct, toggles_distinct, ordered, neighbours_ordered, none_executable, clock_kept}
use Rattle.woot.specs.Form.{well_formed}
use Rattle.woot.specs.Table.{keys, agrees}
use Rattle.woot.specs.Memory.{own_key, first_key, second_key, value_of, characters_of, operations_of}
use Rattle.memory.specs.Columns.{characters_in, operations_in, meaning, counted, table_agrees}
use Rattle.memory.specs.Columns.{replica_well_formed}
use Rattle.index.specs.Tabled.{Tabled}
use Rattle.index.proofs.Agreement.{agreeing_apart}
use Rattle.memory.specs.Lent.{Slots}
use Rattle.memory.proofs.Stored.{Counts, counts, ids_in, own_in, first-in, second-in, values_in}
use Rattle.well_formed.specs.Form.{ranges_kept, clock_reached}
use Rattle.well_formed.specs.PendingForm.{pending_formed}
use Rattle.well_formed.proofs.PendingForm.{pending_conditions}
use Rattle.well_formed.proofs.Reaching.{clock-reached}

-- the conditions in another order
arranged : (b c d e f g t : Bool) → b && c && d && e && f && g && t ≡ f && ((b && c && d && e && g) && t)
arranged b c d e f g t = go (b && c && d && e) f
  where
    go : (x y : Bool) → x && y && g && t ≡ y && (x && g && t)
    go true true = refl
    go true false = refl
    go false true = refl
    go false false = refl

module _ (r : Replica) where
  -- what its arrays stand for
  abbrev pub characters_as : List Character
  characters_as =
      characters_of r.document.ids r.document.previous r.document.next r.document.code_points r.document.toggles r.document.length

  abbrev pub operations_as : List Operation
  operations_as = operations_of r.document.own r.document.firstKeys r.document.secondKeys r.document.values r.document.waiting

  -- the first test of the check
  abbrev pub ranged : Bool
  ranged = ranges_kept r.site r.document.length characters_as r.document.waiting operations_as

  ranged_is : ranged ≡ counted r && all_in_range (meaning r)
  unfolding ranges_kept counted all_in_range meaning characters_in operations_in
  ranged_is = refl

  pub out_of_range_lem : ranged ≡ false → replica_well_formed r ≡ false
  unfolding replica_well_formed well_formed
  out_of_range_lem h = ⊎_elim within (λ (e : counted r ≡ false). rw e) (either (counted r))
    where
      within : counted r ≡ true → replica_well_formed r ≡ false
      within e = let f : all_in_range (meaning r) ≡ false = and-false (counted r) (all_in_range (meaning r)) (sym ranged_is ∙ h) e in rw (e, f)

  module _ (full : Slots r.document) (h : ranged ≡ true) where
    within_arrays : counted r ≡ true
    within_arrays = and_left_lem (counted r) (all_in_range (meaning r)) (sym ranged_is ∙ h)

    in-range : all_in_range (meaning r) ≡ true
    in-range = and_right (counted r) (all_in_range (meaning r)) (sym ranged_is ∙ h)

    pub few : Counts r.document
    few = counts r within_arrays

    parts : (site_in_range r.site ≡ true) × (every character_in_range (meaning r).characters ≡ true) × (every in_range (meaning r).pending ≡ true)
    unfolding all_in_range meaning
    parts = three (site_in_range r.site) _ _ in-range

    pub characters_ranged : every character_in_range characters_as ≡ true
    unfolding meaning characters_in
    characters_ranged = parts.1

    keys_used : keys (meaning r).characters ≡ take r.document.length r.document.ids
    unfolding meaning
    keys_used = ids_in r.document (omega (arith, few.characters, full.ids))

    table_is : table_agrees r ≡ agrees r.document.table (take r.document.length r.document.ids)
    unfolding table_agrees
    table_is = ap (agrees r.document.table) keys_used

    pub untabled : agrees r.document.table (take r.document.length r.document.ids) ≡ false → replica_well_formed r ≡ false
    unfolding replica_well_formed
    untabled e = rw (table_is ∙ e) (and_no (counted r && well_formed (meaning r)))

    module _ (e : agrees r.document.table (take r.document.length r.document.ids) ≡ true) where
      pub tabled : Tabled r.document.table (take r.document.length r.document.ids)
      tabled =
          record {
            heads = full.heads;
            links = full.links;
            few = omega (arith, few.characters, length-take-le r.document.length r.document.ids (omega (arith, few.characters, full.ids)));
            agree = e;
          }

      -- no key stands twice
      apart : distinct eqb (keys (meaning r).characters) ≡ true
      apart = ap (distinct eqb) keys_used ∙ agreeing_apart r.document.table _ e

      -- the last test of the check
      abbrev pub queue_formed : Bool
      queue_formed =
          pending_formed (take r.document.length r.document.ids) (take r.document.waiting r.document.own)
          (take r.document.waiting r.document.firstKeys)
          (take r.document.waiting r.document.secondKeys)
          (take r.document.waiting r.document.values)
          && clock_reached r.site (take r.document.length r.document.ids) (take r.document.waiting r.document.own)

      -- the columns of the pending operations
      columns : (map own_key (meaning r).pending ≡ take r.document.waiting r.document.own)
          × (map first_key (meaning r).pending ≡ take r.document.waiting r.document.firstKeys)
          × (map second_key (meaning r).pending ≡ take r.document.waiting r.document.secondKeys)
          × (map value_of (meaning r).pending ≡ take r.document.waiting r.document.values)
      unfolding meaning
      columns =
          let d = r.document in (
            own_in d parts.2 (omega (arith, few.pending, full.own)),
            first-in d parts.2 (omega (arith, few.pending, full.firstKeys)),
            second-in d parts.2 (omega (arith, few.pending, full.secondKeys)),
            values_in d parts.2 (omega (arith, few.pending, full.values)),
          )

      queue_is : let s = meaning r in
          (shares_kept s && capacity_kept s && identifiers_distinct s && toggles_distinct s && none_executable s) && clock_kept s ≡ queue_formed
      unfolding meaning
      queue_is =
          rw (
            pending_conditions (meaning r) parts.1 parts.2 apart,
            clock-reached (meaning r) in-range,
            keys_used,
            columns.0,
            columns.1,
            columns.2,
            columns.3,
          )

      form_is : well_formed (meaning r) ≡ every (ordered characters_as) characters_as && queue_formed
      unfolding well_formed neighbours_ordered meaning characters_in
      form_is =
          rw in-range
          (arranged (shares_kept (meaning r)) (capacity_kept (meaning r)) (identifiers_distinct (meaning r)) (toggles_distinct (meaning r))
          (neighbours_ordered (meaning r)) (none_executable (meaning r)) (clock_kept (meaning r))
          ∙ ap (λ (b : Bool). neighbours_ordered (meaning r) && b) queue_is)

      conditions : replica_well_formed r ≡ every (ordered characters_as) characters_as && queue_formed
      unfolding replica_well_formed
      conditions = rw (within_arrays, table_is ∙ e) (and-true (well_formed (meaning r)) ∙ form_is)

      pub disordered : every (ordered characters_as) characters_as ≡ false → replica_well_formed r ≡ false
      disordered o = conditions ∙ rw o

      pub decided : every (ordered characters_as) characters_as ≡ true → {b : Bool} → b ≡ queue_formed → b ≡ replica_well_formed r
      decided o q = q ∙ sym (conditions ∙ rw o)
