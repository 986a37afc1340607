-- `passes::pass` offers one insert after another. The loop's invariant: what the pass is to come to, by the rules,
-- it will.
use native.Mathlib.Omega.{arith}
use mathlib.Core.Path.{◌∙◌}
use Rattle.passes.specs.Steps.{laid_as, Offers, Reaches}
use Rattle.passes.proofs.Passing.{reached-begun, reached-ended, offering_slots, reaching_slots}
use Rattle.passes.proofs.pass.Goals.{In-loop-i}
use Rattle.passes.proofs.pass.Goals as goal

pub loop-i-init : goal.loop-i-init
loop-i-init c = (c.requires.characters_len, omega arith, λ o. reached-begun o.offering)

-- where the loop is, and what it has come to
abbrev reaches : (c : In-loop-i)
    → let l = c.loop-i in
    Offers (laid_as c.args.characters.now c.args.toggles.now c.args.n c.args.table.now) c.args.inserts.now c.args.m
    → Reaches (laid_as l.characters l.toggles l.at.length l.table) l.inserts l.at.left l.i
reaches c o = record { many = _; passed = _; reached = c.loop-i.invariant.2 o; within = c.loop-i-test.true }

pub offer-at-requires : goal.offer-at-requires
offer-at-requires c =
    record {
      characters_len = c.loop-i.invariant.0;
      reaches = reaches (goal.at.offer-at-requires c).In-loop-i c.requires.offers;
    }

pub loop-i-preserved : goal.loop-i-preserved
loop-i-preserved c =
    let f = c.offer-at in
    (f.auto.characters ∙ c.loop-i.invariant.0, omega (arith, c.loop-i-test.true), λ o. f.ensures (reaches (goal.at.loop-i-preserved c).In-loop-i o))

-- ---- the arrays keep their lengths

pub shape_of-characters : goal.shape_of-characters
shape_of-characters c = omega (arith, c.loop-i.invariant.0, c.requires.characters_len)

pub shape_of-toggles : goal.shape_of-toggles
shape_of-toggles c =
    let o = c.requires.offers in
    omega (arith, (offering_slots o.offering).toggles, (reaching_slots (c.loop-i.invariant.2 o)).toggles)

pub shape_of-inserts : goal.shape_of-inserts
shape_of-inserts c =
    let o = c.requires.offers in
    omega (arith, o.offering.held.size, (c.loop-i.invariant.2 o).held.size)

pub returns : goal.returns
returns c o = reached-ended (c.loop-i.invariant.2 o) c.loop-i-test.false c.loop-i.invariant.1
