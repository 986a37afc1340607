-- `places::find_places` meets its contract. The loop's invariant: the first i places are found.
use Prim.Native.Nat.{ℕ, ◌+◌, ◌≤◌, ◌<◌}
use native.Mathlib.Omega.{arith}
use mathlib.Core.Path.{◌≡◌, refl, ◌∙◌, subst}
use mathlib.Core.List.{List}
use mathlib.Core.Logic.{⊎_elim}
use lib.ListN.{length, get_or, set, length-set}
use lib.Seq.{get_or-set_same, get_or-set_other}
use Rattle.lists.proofs.Tests.{side}
use Rattle.index.specs.Keys.{place_in}
use Rattle.index.proofs.Indices.{place-bounded}
use Rattle.neighbours.proofs.places.find_places.Invariants.{Found}
use Rattle.neighbours.proofs.places.find_places.Goals as goal

-- one place more
found-more : (ids keys places : List ℕ) (i p : ℕ) → i < length places → p ≡ place_in ids (get_or keys i 0)
    → Found ids keys places i → Found ids keys (set places i p) (i + 1)
found-more ids keys places i p h e f j l = ⊎_elim here before (side i j)
  where
    here : i ≤ j → get_or (set places i p) j 0 ≡ place_in ids (get_or keys j 0)
    here g =
        let q : i ≡ j = omega (arith, g, l) in
        subst (λ (k : ℕ). get_or (set places i p) k 0 ≡ place_in ids (get_or keys k 0)) q
        (get_or-set_same places i p 0 h ∙ e)

    before : j < i → get_or (set places i p) j 0 ≡ place_in ids (get_or keys j 0)
    before g = get_or-set_other places i j p 0 (λ q. omega (arith, q, g)) ∙ f j g

pub loop-i-init : goal.loop-i-init
loop-i-init c = (refl, (λ j h. absurd (omega (arith, h))))

pub overflow_add-i : goal.overflow_add-i
overflow_add-i c = omega (arith, c.requires.tabled.few, c.requires.past_bound)

pub place_near-at-requires : goal.place_near-at-requires
place_near-at-requires c =
    record {
      tabled = c.requires.tabled;
      end_value = c.requires.end_value;
    }

pub overflow_cast-places : goal.overflow_cast-places
overflow_cast-places c =
    let l = c.loop-i in
    omega (
      arith,
      c.place_near-at.ensures,
      place-bounded c.args.ids.now (get_or c.args.keys.now l.i 0),
      c.requires.tabled.few,
    )

pub bounds-places-i : goal.bounds-places-i
bounds-places-i c =
    let l = c.loop-i in
    omega (arith, l.invariant.0, c.requires.ids_in_bounds_2)

pub loop-i-preserved : goal.loop-i-preserved
loop-i-preserved c =
    let l = c.loop-i in (
      length-set l.places l.i c.place_near-at.result ∙ l.invariant.0,
      found-more c.args.ids.now c.args.keys.now l.places l.i c.place_near-at.result
          (omega (arith, l.invariant.0, c.requires.ids_in_bounds_2)) c.place_near-at.ensures l.invariant.1,
    )

pub shape_of-places : goal.shape_of-places
shape_of-places c = c.loop-i.invariant.0

pub returns : goal.returns
returns c =
    let l = c.loop-i in
    record {
      places_len_unchanged = l.invariant.0;
      placed = record { at = λ i h. l.invariant.1 i (omega arith) };
    }
