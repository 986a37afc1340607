-- `index::table::agrees` meets its contract. The loop's invariant: each of the first i keys is found at its own index.
use native.Mathlib.Omega.{arith}
use mathlib.Core.Path.{◌≡◌, refl, sym}
use lib.ListN.{length}
use Rattle.lists.proofs.Tests.{failed, passed}
use Rattle.lists.proofs.Throughout.{throughout-more, throughout-fails}
use Rattle.woot.specs.Table.{found_at, agrees}
use Rattle.index.proofs.table.agrees.Goals as goal

pub loop-i-init : goal.loop-i-init
loop-i-init c = refl

pub returns-then-not-found_at : goal.returns-then-not-found_at
unfolding agrees
returns-then-not-found_at c =
    let a = c.args in
    let l = c.loop-i in
    sym (throughout-fails (found_at a.table.now a.keys.now) (length a.keys.now) l.i (omega arith) (failed c.found_at.ensures c.if-not-found_at.true-raw))

pub loop-i-preserved : goal.loop-i-preserved
loop-i-preserved c =
    let a = c.args in
    let l = c.loop-i in
    throughout-more (found_at a.table.now a.keys.now) l.i l.invariant (passed c.found_at.ensures c.if-not-found_at.false-raw)

pub returns : goal.returns
unfolding agrees
returns c =
    let l = c.loop-i in
    let all : l.i ≡ length c.args.keys.now = omega arith in
    sym (rw (← all) l.invariant)
