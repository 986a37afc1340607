-- `order::characters_ordered` meets its contract: between the places of its neighbours, a character is in the order of
-- the rules.
use native.Mathlib.Omega.{arith}
use lib.ListN.{length-take}
use Rattle.well_formed.proofs.Ordering.{rows-ordered}
use Rattle.well_formed.proofs.order.characters_ordered.Goals as goal

pub slice_bounds-all_between-end : goal.slice_bounds-all_between-end
slice_bounds-all_between-end c = simp length-take (omega arith)

pub all_between-requires : goal.all_between-requires
all_between-requires c =
    record {
      tabled = c.requires.tabled;
      ids_in_bounds = simp length-take (omega (arith, c.requires.n_in_bounds_2));
      ids_in_bounds_2 = simp length-take (omega (arith, c.requires.n_in_bounds_3));
    }

pub returns : goal.returns
returns c =
    let a = c.args in
    λ points toggles.
    rows-ordered a.ids.now a.previous.now a.next.now points toggles a.n c.requires.n_in_bounds c.requires.tabled c.all_between.ensures
