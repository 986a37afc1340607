-- `ready::ready` meets its contract. The loop's invariant: what is found in the whole is found in what is left.
use mathlib.Core.Path.{sym, ◌∙◌}
use native.Mathlib.Omega.{arith}
use Rattle.pending.proofs.Earliest.{ready_start, ready_here, ready_passed, ready_none}
use Rattle.pending.proofs.ready.ready.Goals as goal

pub loop-i-init : goal.loop-i-init
loop-i-init c = ready_start _ _ _

pub are_held-requires : goal.are_held-requires
are_held-requires c = c.requires

pub returns-then-are_held : goal.returns-then-are_held
returns-then-are_held c =
    let a = c.args in
    let l = c.loop-i in
    sym (l.invariant ∙ ready_here a.ids.now a.first.now a.second.now l.i (omega arith) (omega arith)
    (rw c.are_held.ensures at c.if-are_held.true))

pub loop-i-preserved : goal.loop-i-preserved
loop-i-preserved c =
    let a = c.args in
    let l = c.loop-i in
    l.invariant ∙ ready_passed a.ids.now a.first.now a.second.now l.i (omega arith) (omega arith)
    (rw c.are_held.ensures at c.if-are_held.false)

pub returns : goal.returns
returns c =
    let a = c.args in
    let l = c.loop-i in
    sym (l.invariant ∙ ready_none a.ids.now a.first.now a.second.now l.i (omega arith))
