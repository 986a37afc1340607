-- `visible::nth` meets its contract. The loop's invariant: what is left of the count, sought among the visible
-- ones that are left, gives what the whole search gives.
use Prim.Native.Nat.{◌≤◌}
use mathlib.Core.Path.{refl, sym, ◌∙◌}
use borrow.Author.Tests.{eq-eqb, ne_eqb}
use lib.ListN.{length}
use Rattle.visible.specs.Shown.{shown}
use Rattle.visible.proofs.Shown.{nth_here, nth-counted, nth-passed, nth-none, shown-nth}
use native.Mathlib.Omega.{arith}
use Rattle.visible.proofs.nth.Goals.{then-toggles-i-eq0+else-rest-eq0, else-toggles-i-eq0}
use Rattle.visible.proofs.nth.Goals as goal

pub loop-i-init : goal.loop-i-init
loop-i-init c = refl

pub returns-then-rest-eq0 : goal.returns-then-rest-eq0
returns-then-rest-eq0 c cs e =
    let a = c.args in
    let l = c.loop-i in
    let ts = a.toggles.now in
    let few : a.n ≤ length ts = omega (arith, c.requires) in
    sym (nth_here shown ts a.n l.i 0 (omega arith) few l.rest (eq-eqb _ _ c.if-toggles-i-eq0.true) c.if-rest-eq0.true)
    ∙ l.invariant
    ∙ shown-nth cs a.toggles.now a.n a.k e

pub loop-i-preserved : goal.loop-i-preserved
loop-i-preserved c =
    let a = c.args in
    let l = c.loop-i in
    let ts = a.toggles.now in
    let few : a.n ≤ length ts = omega (arith, c.requires) in
    elim c.if-toggles-i-eq0.branch [
      | then-toggles-i-eq0+else-rest-eq0 w ↦
          rw w.rest-is (sym (nth-counted shown ts a.n l.i 0 (omega arith) few l.rest (eq-eqb _ _ w.if-toggles-i-eq0.true) w.if-rest-eq0.false)
          ∙ l.invariant)
      | else-toggles-i-eq0 w ↦
          rw w.rest-is (sym (nth-passed shown ts a.n l.i 0 (omega arith) few l.rest (ne_eqb _ _ w.if-toggles-i-eq0.false)) ∙ l.invariant)
    ]

pub returns : goal.returns
returns c cs e =
    let a = c.args in
    let l = c.loop-i in
    sym (nth-none shown a.toggles.now a.n l.i l.rest (omega arith))
    ∙ l.invariant
    ∙ shown-nth cs a.toggles.now a.n a.k e
