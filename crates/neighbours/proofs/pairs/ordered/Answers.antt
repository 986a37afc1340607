-- `pairs::ordered` meets its contract. The loop's invariant: no row above row k is out of order with one above it.
use Prim.Native.Nat.{ℕ}
use native.Mathlib.Omega.{arith}
use mathlib.Core.Path.{◌≡◌, refl, sym, ap, ◌∙◌}
use mathlib.Core.Bool.{Bool}
use mathlib.Core.List.{List}
use lib.ListN.{length, get_or}
use Rattle.lists.specs.Lists.{throughout}
use Rattle.lists.proofs.Tests.{failed, passed}
use Rattle.lists.proofs.Throughout.{throughout-more, throughout-fails}
use Rattle.neighbours.specs.Steps.{pair_at, row_at}
use Rattle.neighbours.proofs.pairs.ordered.Goals.{After-row_ordered}
use Rattle.neighbours.proofs.pairs.ordered.Goals as goal

-- the test of a row, at the place that was read
read : (ids above below : List ℕ) (k : ℕ) {p : ℕ} {b : Bool} → p ≡ get_or above k 0
    → b ≡ throughout (pair_at ids below p k) k → b ≡ row_at ids above below k
read ids above below k e f = f ∙ ap (λ (p : ℕ). throughout (pair_at ids below p k) k) e

pub loop-k-init : goal.loop-k-init
loop-k-init c = refl

row : (c : After-row_ordered)
    → let a = c.args in
    let l = c.loop-k in
    c.row_ordered.result ≡ row_at a.ids.now a.above.now a.below.now l.k
row c =
    let a = c.args in
    read a.ids.now a.above.now a.below.now c.loop-k.k
    c.place.ensures c.row_ordered.ensures

pub returns-then-not-row_ordered : goal.returns-then-not-row_ordered
returns-then-not-row_ordered c =
    let a = c.args in
    let l = c.loop-k in
    sym (throughout-fails (row_at a.ids.now a.above.now a.below.now) (length a.ids.now) l.k
    (omega arith) (failed (row (goal.at.returns-then-not-row_ordered c).After-row_ordered) c.if-not-row_ordered.true-raw))

pub loop-k-preserved : goal.loop-k-preserved
loop-k-preserved c =
    let a = c.args in
    let l = c.loop-k in
    throughout-more (row_at a.ids.now a.above.now a.below.now) l.k l.invariant
    (passed (row (goal.at.loop-k-preserved c).After-row_ordered) c.if-not-row_ordered.false-raw)

pub returns : goal.returns
returns c =
    let l = c.loop-k in
    let done : l.k ≡ length c.args.ids.now = omega arith in
    sym (rw (← done) l.invariant)
