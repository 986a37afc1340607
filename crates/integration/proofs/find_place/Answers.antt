-- `integration::find_place` meets its contract: both places are those of the rules, and so are the tests on them.
use Prim.Native.Nat.{ℕ, ◌≤◌}
use native.Mathlib.Omega.{arith}
use mathlib.Core.Path.{◌≡◌, sym, ap, ◌∙◌}
use mathlib.Core.List.{List}
use lib.ListN.{length, take, length-map, length-take}
use lib.Seq.{length-take-le}
use Rattle.woot.specs.declared.Character.{Character}
use Rattle.woot.specs.Placing.{place_of, between}
use Rattle.woot.specs.Table.{key, keys}
use Rattle.index.specs.Keys.{AllSmall}
use Rattle.index.proofs.Places.{placed-previous, placed-next}
use Rattle.integration.specs.Placements.{placement_at}
use Rattle.integration.proofs.Placing.{position-same}
use Rattle.integration.proofs.Placements.{sought, previous-missing, next-missing, places-crossed, places-found}
use Rattle.integration.proofs.find_place.Goals.{After-place_near-lower, After-place_near-upper}
use Rattle.integration.proofs.find_place.Goals as goal

-- there are as many characters as keys in use
counted : (cs : List Character) (n : ℕ) (ks : List ℕ) → n ≤ length ks → take n ks ≡ keys cs → n ≡ length cs
counted cs n ks h e = sym (length-take-le n ks h) ∙ ap length e ∙ length-map cs (λ (d : Character). key d.id)

-- as many neighbours are lent
as_long : (n : ℕ) (ks ls : List ℕ) → n ≤ length ks → n ≤ length ls → length (take n ks) ≤ length (take n ls)
as_long n ks ls h g = omega (arith, length-take-le n ks h, length-take-le n ls g)

-- where the previous stands, among how many
upper-at : (c : After-place_near-upper)
    → let a = c.args in (cs : List Character)
    → take a.n a.keys.now ≡ keys cs
    → AllSmall cs
    → (a.n ≡ length cs) × (c.place_near-upper.result ≡ place_of cs a.insert.previous)
upper-at c cs e s =
    (counted cs _ _ c.requires.n_in_bounds e, sought cs s _ e _ _ _ (c.key.ensures.value, c.key.ensures.small) c.place_near-upper.ensures)

-- where the next does
lower-at : (c : After-place_near-lower)
    → let a = c.args in (cs : List Character)
    → take a.n a.keys.now ≡ keys cs
    → AllSmall cs
    → c.place_near-lower.result ≡ place_of cs a.insert.next
lower-at c cs e s = sought cs s _ e _ _ _ (c.key-2.ensures.value, c.key-2.ensures.small) c.place_near-lower.ensures

pub slice_bounds-ids-end : goal.slice_bounds-ids-end
slice_bounds-ids-end c = simp length-take (omega arith)

pub slice_bounds-firsts-end : goal.slice_bounds-firsts-end
slice_bounds-firsts-end c = simp length-take (omega arith)

pub slice_bounds-seconds-end : goal.slice_bounds-seconds-end
slice_bounds-seconds-end c = simp length-take (omega arith)

pub returns-then-n-upper : goal.returns-then-n-upper
returns-then-n-upper c cs e above below s =
    let upper = upper-at (goal.at.returns-then-n-upper c).After-place_near-upper cs e s in sym (previous-missing cs _ (omega arith))

pub returns-then-n-lower : goal.returns-then-n-lower
returns-then-n-lower c cs e above below s =
    let upper = upper-at (goal.at.returns-then-n-lower c).After-place_near-upper cs e s in
    let lower = lower-at (goal.at.returns-then-n-lower c).After-place_near-lower cs e s in
    sym (next-missing cs _ (omega arith) (omega arith))

pub returns-then-lower-upper : goal.returns-then-lower-upper
returns-then-lower-upper c cs e above below s =
    let upper = upper-at (goal.at.returns-then-lower-upper c).After-place_near-upper cs e s in
    let lower = lower-at (goal.at.returns-then-lower-upper c).After-place_near-lower cs e s in
    sym (places-crossed cs _ (omega arith) (omega arith) (omega arith))

pub position-requires : goal.position-requires
position-requires c =
    let end = c.place_of-end.ensures in
    let a = c.args in
    let firsts = as_long a.n a.keys.now a.previous.now (omega arith) (omega arith) in
    let seconds = as_long a.n a.keys.now a.next.now (omega arith) (omega arith) in
    record {
      tabled = c.requires.tabled;
      end_value = end;
      ids_in_bounds = firsts;
      ids_in_bounds_2 = seconds;
    }

pub returns : goal.returns
unfolding between
returns c cs e above below s =
    let upper = upper-at (goal.at.returns c).After-place_near-upper cs e s in
    let lower = lower-at (goal.at.returns c).After-place_near-lower cs e s in
    let own = c.key-own.ensures in
    rw (c.position.ensures, e, above, below, placed-previous cs s, placed-next cs s, own.value, upper.1, lower)
    (ap placement_at (position-same cs s _ own.small _ _) ∙ sym (places-found cs _ (omega arith) (omega arith) (omega arith)))
