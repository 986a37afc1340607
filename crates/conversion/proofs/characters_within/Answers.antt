-- `conversion::characters_within` meets its contract. The loop's invariant: the first i counts pass.
use mathlib.Core.Path.{◌≡◌, refl, sym}
use lib.ListN.{get_or}
use borrow.Author.Tests.{lt-leb, le-leb}
use Rattle.lists.proofs.Throughout.{throughout-more, throughout-fails}
use Rattle.conversion.specs.Columns.{count_within}
use native.Mathlib.Omega.{arith}
use Rattle.conversion.proofs.characters_within.Goals as goal

pub loop-i-init : goal.loop-i-init
loop-i-init c = (omega arith, refl)

pub returns-then-toggles-i-gt1 : goal.returns-then-toggles-i-gt1
returns-then-toggles-i-gt1 c =
    let a = c.args in
    let l = c.loop-i in
    sym (throughout-fails (λ j. count_within (get_or a.toggles.now j 0)) a.n l.i (omega arith) (lt-leb _ 1 c.if-toggles-i-gt1.true))

pub loop-i-preserved : goal.loop-i-preserved
loop-i-preserved c =
    let a = c.args in
    let l = c.loop-i in
    (omega arith, throughout-more (λ j. count_within (get_or a.toggles.now j 0)) l.i l.invariant.1 (le-leb _ 1 c.if-toggles-i-gt1.false))

pub returns : goal.returns
returns c =
    let a = c.args in
    let l = c.loop-i in
    let done : l.i ≡ a.n = omega arith in
    rw (← done) (sym l.invariant.1)
