-- `conversion::pending_within` meets its contract. The loop's invariant: the first j operations pass.
use mathlib.Core.Path.{◌≡◌, refl, sym, ◌∙◌}
use Rattle.lists.proofs.Throughout.{throughout-more, throughout-fails}
use native.Mathlib.Omega.{arith}
use Rattle.conversion.proofs.pending_within.Invariants.{within}
use Rattle.conversion.proofs.pending_within.Goals as goal

pub loop-j-init : goal.loop-j-init
loop-j-init c = (omega arith, refl)

pub returns-then-not-operation_within : goal.returns-then-not-operation_within
returns-then-not-operation_within c =
    let a = c.args in
    let l = c.loop-j in
    let here = sym c.operation_within.ensures ∙ c.if-not-operation_within.true in
    sym (throughout-fails (within a.own.now a.values.now) a.w l.j (omega arith) here)

pub loop-j-preserved : goal.loop-j-preserved
loop-j-preserved c =
    let a = c.args in
    let l = c.loop-j in
    let here = sym c.operation_within.ensures ∙ c.if-not-operation_within.false in
    (omega arith, throughout-more (within a.own.now a.values.now) l.j l.invariant.1 here)

pub returns : goal.returns
returns c =
    let a = c.args in
    let l = c.loop-j in
    let done : l.j ≡ a.w = omega arith in
    rw (← done) (sym l.invariant.1)
