-- `waiting::none_repeated` meets its contract. The loop's invariant: none of the first j operations repeats an earlier one.
use native.Mathlib.Omega.{arith}
use mathlib.Core.Path.{◌≡◌, refl, sym}
use lib.ListN.{length}
use Rattle.lists.proofs.Tests.{failed, passed}
use Rattle.well_formed.specs.PendingForm.{fresh_at}
use Rattle.lists.proofs.Throughout.{throughout-more, throughout-fails}
use Rattle.well_formed.proofs.waiting.none_repeated.Goals as goal

pub loop-j-init : goal.loop-j-init
loop-j-init c = refl

pub returns-then-not-fresh_at : goal.returns-then-not-fresh_at
returns-then-not-fresh_at c =
    let a = c.args in
    let l = c.loop-j in
    let test = fresh_at a.own.now a.first.now a.values.now in
    sym (throughout-fails test (length a.own.now) l.j (omega arith) (failed {u = test l.j} c.fresh_at.ensures c.if-not-fresh_at.true-raw))

pub loop-j-preserved : goal.loop-j-preserved
loop-j-preserved c =
    let a = c.args in
    let l = c.loop-j in
    let test = fresh_at a.own.now a.first.now a.values.now in
    throughout-more test l.j l.invariant (passed {u = test l.j} c.fresh_at.ensures c.if-not-fresh_at.false-raw)

pub returns : goal.returns
returns c =
    let l = c.loop-j in
    let done : l.j ≡ length c.args.own.now = omega arith in
    sym (rw (← done) l.invariant)
