-- `counts::has_toggle` meets its contract. The loop's invariant: what is asked of the whole is asked of what is
-- left.
use mathlib.Core.Path.{refl, sym, ◌∙◌}
use native.Mathlib.Omega.{arith}
use Rattle.pending.proofs.Searches.{toggle_here, toggle_passed, toggle_none}
use Rattle.pending.proofs.counts.has_toggle.Goals as goal

pub loop-i-init : goal.loop-i-init
loop-i-init c = refl

pub returns-then-is_toggle : goal.returns-then-is_toggle
returns-then-is_toggle c =
    let a = c.args in
    let l = c.loop-i in
    let here = toggle_here a.key a.stamp a.own.now a.first.now a.values.now l.i in
    sym (l.invariant ∙ here (omega arith) (omega arith) (omega arith) (rw c.is_toggle.ensures at c.if-is_toggle.true))

pub loop-i-preserved : goal.loop-i-preserved
loop-i-preserved c =
    let a = c.args in
    let l = c.loop-i in
    let passed = toggle_passed a.key a.stamp a.own.now a.first.now a.values.now l.i in
    l.invariant ∙ passed (omega arith) (omega arith) (omega arith) (rw c.is_toggle.ensures at c.if-is_toggle.false)

pub returns : goal.returns
returns c =
    let a = c.args in
    let l = c.loop-i in
    sym (l.invariant ∙ toggle_none a.key a.stamp a.own.now a.first.now a.values.now l.i (omega arith))
