-- `integration::position` meets its contract. The loop's invariant: the search from where it stands, with passes enough left, gives
-- what the whole search gives.
use native.Mathlib.Omega.{arith}
use mathlib.Core.Path.{refl, ap}
use Rattle.integration.specs.Passes.{position_in}
use Rattle.integration.specs.Placements.{placement_at}
use Rattle.integration.proofs.Searching.{arrived, nowhere, again}
use Rattle.integration.proofs.position.Goals as goal

pub loop-narrower-init : goal.loop-narrower-init
unfolding position_in
loop-narrower-init c = record { passes = c.args.interval.lower; enough = omega arith; gives = refl }

pub pass-narrower-requires : goal.pass-narrower-requires
pass-narrower-requires c =
    record {
      tabled = c.requires.tabled;
      end_value = c.requires.end_value;
      ids_in_bounds = c.requires.ids_in_bounds;
      ids_in_bounds_2 = c.requires.ids_in_bounds_2;
      upper_lt_lower = omega (arith, c.width.ensures);
    }

pub returns-then-width : goal.returns-then-width
unfolding placement_at
returns-then-width c =
    ap placement_at
    (nowhere _ _ _ _ _ c.pass-narrower.ensures (omega (arith, c.width.ensures))
    (omega (arith, c.width-in-loop-narrower.ensures, c.width-in-loop-narrower-2.ensures)) c.loop-narrower.invariant)

pub loop-narrower-smaller : goal.loop-narrower-smaller
loop-narrower-smaller c = omega (arith, c.width-in-loop-narrower.ensures, c.width-in-loop-narrower-2.ensures)

pub loop-narrower-preserved : goal.loop-narrower-preserved
loop-narrower-preserved c =
    again _ _ _ _ _ c.pass-narrower.ensures (omega (arith, c.width.ensures))
    (omega (arith, c.width-in-loop-narrower.ensures, c.width-in-loop-narrower-2.ensures)) c.loop-narrower.invariant

pub returns : goal.returns
unfolding placement_at
returns c =
    ap placement_at (arrived _ _ _ _ (omega (arith, c.width.ensures)) c.loop-narrower.invariant)
