-- `order::all_between` meets its contract: the first i characters stand between their neighbours.
use mathlib.Core.Path.{◌≡◌, refl, sym, ◌∙◌}
use native.Mathlib.Omega.{arith}
use mathlib.Core.List.{List}
use Rattle.lists.proofs.Tests.{failed, passed}
use Rattle.lists.proofs.Throughout.{throughout-more, throughout-fails}
use Prim.Native.Nat.{ℕ}
use mathlib.Core.Bool.{Bool}
use lib.ListN.{length, get_or}
use Rattle.index.specs.Keys.{place_in}
use Rattle.well_formed.specs.Order.{stands_between, between_at}
use Rattle.well_formed.proofs.order.all_between.Goals as goal

reading : (ks ps ns : List ℕ) (i : ℕ) {a b : ℕ} {r : Bool} → place_in ks (get_or ps i 0) ≡ a → place_in ks (get_or ns i 0) ≡ b → stands_between (length ks) i a b ≡ r
    → between_at ks ps ns i ≡ r
unfolding between_at
reading ks ps ns i e f g = (λ k. stands_between (length ks) i (e k) (f k)) ∙ g

pub loop-i-init : goal.loop-i-init
loop-i-init c = (c.place_of-end.ensures, refl)

pub returns-then-not-stands_between : goal.returns-then-not-stands_between
returns-then-not-stands_between c =
    let a = c.args in
    let l = c.loop-i in
    sym (throughout-fails (between_at a.ids.now a.previous.now a.next.now) (length a.ids.now) l.i (omega arith)
    (reading a.ids.now a.previous.now a.next.now l.i (sym c.place_near-above.ensures)
    (sym c.place_near-below.ensures) (failed c.stands_between.ensures c.if-not-stands_between.true-raw)))

pub loop-i-preserved : goal.loop-i-preserved
loop-i-preserved c =
    let a = c.args in
    let l = c.loop-i in (
      l.invariant.0,
      throughout-more (between_at a.ids.now a.previous.now a.next.now) l.i l.invariant.1
          (reading a.ids.now a.previous.now a.next.now l.i (sym c.place_near-above.ensures)
          (sym c.place_near-below.ensures) (passed c.stands_between.ensures c.if-not-stands_between.false-raw)),
    )

pub returns : goal.returns
returns c =
    let l = c.loop-i in
    let done : l.i ≡ length c.args.ids.now = omega arith in
    sym (rw (← done) l.invariant.1)
