-- `waiting::keys_new` meets its contract. The loop's invariant: the first j keys are new.
use Prim.Native.Nat.{ℕ}
use native.Mathlib.Omega.{arith}
use mathlib.Core.Path.{◌≡◌, refl, sym}
use mathlib.Core.Bool.{Bool, ◌&&◌}
use mathlib.Core.List.{List}
use lib.ListN.{length, take, get_or, length-take}
use Rattle.lists.proofs.Tests.{failed, passed}
use Rattle.well_formed.specs.PendingForm.{unheld_key, free_at}
use Rattle.lists.proofs.Throughout.{throughout-more, throughout-fails}
use Rattle.well_formed.proofs.waiting.keys_new.Goals as goal

reading : (ids own : List ℕ) (j : ℕ) {p q : Bool} → unheld_key ids (get_or own j 0) ≡ p → unheld_key (take j own) (get_or own j 0) ≡ q → free_at ids own j ≡ p && q
unfolding free_at
reading ids own j e f = λ i. e i && f i

pub loop-j-init : goal.loop-j-init
loop-j-init c = refl

pub unheld-requires : goal.unheld-requires
unheld-requires c = c.requires

pub returns-then-not-unheld : goal.returns-then-not-unheld
returns-then-not-unheld c =
    let a = c.args in
    let l = c.loop-j in
    sym (throughout-fails (free_at a.ids.now a.own.now) (length a.own.now) l.j (omega arith)
    (reading _ _ _ (failed c.unheld.ensures c.if-not-unheld.true-raw) refl))

pub slice_bounds-unseen-end : goal.slice_bounds-unseen-end
slice_bounds-unseen-end c = simp length-take (omega arith)

pub returns-then-not-unseen : goal.returns-then-not-unseen
returns-then-not-unseen c =
    let a = c.args in
    let l = c.loop-j in
    sym (throughout-fails (free_at a.ids.now a.own.now) (length a.own.now) l.j (omega arith)
    (reading _ _ _ (passed c.unheld.ensures c.if-not-unheld.false-raw)
    (failed c.unseen.ensures c.if-not-unseen.true-raw)))

pub loop-j-preserved : goal.loop-j-preserved
loop-j-preserved c =
    let a = c.args in
    let l = c.loop-j in
    throughout-more (free_at a.ids.now a.own.now) l.j l.invariant
    (reading _ _ _ (passed c.unheld.ensures c.if-not-unheld.false-raw)
    (passed c.unseen.ensures c.if-not-unseen.false-raw))

pub returns : goal.returns
returns c =
    let l = c.loop-j in
    let done : l.j ≡ length c.args.own.now = omega arith in
    sym (rw (← done) l.invariant)
