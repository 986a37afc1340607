-- `passes::place_all` makes passes until one places none. The loop's invariant: passes over those that are left
-- come to what they came to from the beginning, and there are enough of them.
use native.Mathlib.Omega.{arith}
use mathlib.Core.Path.{◌∙◌}
use Rattle.passes.proofs.Passing.{offering_slots}
use Rattle.passes.proofs.Repeating.{repeating_begun, repeating_offers, repeating_ended}
use Rattle.passes.proofs.Repeating.{repeating_fewer, repeating_again}
use Rattle.passes.proofs.place_all.Goals as goal

pub loop-length-init : goal.loop-length-init
loop-length-init c = (c.requires.characters_len, λ o. repeating_begun o)

pub pass-passed-requires : goal.pass-passed-requires
pass-passed-requires c =
    record {
      characters_len = c.loop-length.invariant.0;
      offers = repeating_offers (c.loop-length.invariant.1 c.requires.offers);
    }

-- ---- the arrays keep their lengths

pub shape_of-characters-then-passed-length : goal.shape_of-characters-then-passed-length
shape_of-characters-then-passed-length c =
    omega (arith, c.pass-passed.auto.characters, c.loop-length.invariant.0, c.requires.characters_len)

pub shape_of-toggles-then-passed-length : goal.shape_of-toggles-then-passed-length
shape_of-toggles-then-passed-length c =
    let o = c.requires.offers in
    omega (arith, c.pass-passed.auto.toggles, (offering_slots o.offering).toggles, (offering_slots (c.loop-length.invariant.1 o).offering).toggles)

pub shape_of-inserts-then-passed-length : goal.shape_of-inserts-then-passed-length
shape_of-inserts-then-passed-length c =
    let o = c.requires.offers in
    omega (arith, c.pass-passed.auto.inserts, o.offering.held.size, (c.loop-length.invariant.1 o).offering.held.size)

pub returns-then-passed-length : goal.returns-then-passed-length
returns-then-passed-length c o =
    let r = c.loop-length.invariant.1 o in
    repeating_ended r (c.pass-passed.ensures (repeating_offers r)) c.if-passed-length.true

pub loop-length-smaller : goal.loop-length-smaller
loop-length-smaller c =
    let r = c.loop-length.invariant.1 c.requires.offers in
    repeating_fewer r (c.pass-passed.ensures (repeating_offers r)) c.if-passed-length.false

pub loop-length-preserved : goal.loop-length-preserved
loop-length-preserved c =
    let f = c.pass-passed in
    (f.auto.characters ∙ c.loop-length.invariant.0, λ o. let r = c.loop-length.invariant.1 o in repeating_again r (f.ensures (repeating_offers r)) c.if-passed-length.false)
