-- `integration::position` meets its contract. The loop's invariant: the search from where it stands, with passes enough left, gives
-- what the whole search gives.
use mathlib.Core.List.{map}
use Rattle.index.specs.Keys.{place_in}
use Rattle.integration.specs.Passes.{located_keys, width, position_in}
use Rattle.integration.proofs.Searching.{Searching}
use Rattle.integration.proofs.position.Given as goal

abbrev pub invariant-loop-narrower : goal.invariant-loop-narrower
invariant-loop-narrower l = let above = map (place_in l.ids) l.previous in
    let below = map (place_in l.ids) l.next in
    Searching (located_keys 1 l.ids above below) l.key l.v (position_in l.ids above below l.key l.initial.v.upper l.initial.v.lower)

abbrev pub decreases-loop-narrower : goal.decreases-loop-narrower
decreases-loop-narrower l = width l.v
