-- `pairs::row_ordered` meets its contract. The loop's invariant: no row above row j is out of order with row k.
use Prim.Native.Nat.{ℕ, ◌+◌, ◌≤◌, ◌<◌}
use native.Mathlib.Omega.{arith}
use mathlib.Core.Path.{◌≡◌, sym, ap, ◌∙◌}
use mathlib.Core.Bool.{Bool, true, false, ◌&&◌, not, and-false as and_no}
use mathlib.Core.List.{List}
use borrow.Author.Tests.{lt-ltb, le-ltb}
use lib.Dec.{ltb}
use lib.ListN.{get_or}
use Rattle.lists.specs.Lists.{throughout}
use Rattle.lists.proofs.Tests.{and_intro, or_left, or_right, or-false}
use Rattle.lists.proofs.Throughout.{throughout-more, throughout-fails, throughout-at, throughout-all}
use Rattle.neighbours.specs.Steps.{pair_at}
use Rattle.neighbours.proofs.pairs.row_ordered.Goals.{else-k-place-via-then-k-place+else-key-ids, else-k-place-via-else-k-place}
use Rattle.neighbours.proofs.pairs.row_ordered.Goals as goal

module _ (ids below : List ℕ) (p k : ℕ) where
  -- rows above the place

  outside : (n : ℕ) → n ≤ p → throughout (pair_at ids below p k) n ≡ true
  unfolding pair_at
  outside n h =
      throughout-all (pair_at ids below p k) n
      (λ j i. or_left (ltb j p) (not (ltb (k + 1) (get_or below j 0) && ltb (get_or ids k 0) (get_or ids j 0)))
      (lt-ltb j p (omega (arith, i, h))))

  module _ (j : ℕ) where
    wrong : {q : ℕ} → p ≤ j → q ≡ get_or below j 0 → k + 1 < q → get_or ids k 0 < get_or ids j 0
        → pair_at ids below p k j ≡ false
    unfolding pair_at
    wrong h e f g =
        or-false (le-ltb j p h)
        (ap not (and_intro (lt-ltb (k + 1) (get_or below j 0) (omega (arith, e, f)))
        (lt-ltb (get_or ids k 0) (get_or ids j 0) g)))

    right_key : get_or ids j 0 ≤ get_or ids k 0 → pair_at ids below p k j ≡ true
    unfolding pair_at
    right_key g =
        or_right (ltb j p) (not (ltb (k + 1) (get_or below j 0) && ltb (get_or ids k 0) (get_or ids j 0)))
        (ap not (ap (λ (b : Bool). ltb (k + 1) (get_or below j 0) && b) (le-ltb (get_or ids k 0) (get_or ids j 0) g)
        ∙ and_no (ltb (k + 1) (get_or below j 0))))

    right-place : {q : ℕ} → q ≡ get_or below j 0 → q ≤ k + 1 → pair_at ids below p k j ≡ true
    unfolding pair_at
    right-place e f =
        or_right (ltb j p) (not (ltb (k + 1) (get_or below j 0) && ltb (get_or ids k 0) (get_or ids j 0)))
        (ap (λ (b : Bool). not (b && ltb (get_or ids k 0) (get_or ids j 0)))
        (le-ltb (k + 1) (get_or below j 0) (omega (arith, e, f))))

pub loop-j-init : goal.loop-j-init
loop-j-init c =
    let a = c.args in
    outside a.ids.now a.below.now a.above a.k a.above (omega arith)

pub returns-then-key-ids : goal.returns-then-key-ids
returns-then-key-ids c =
    let a = c.args in
    let l = c.loop-j in
    sym (throughout-fails (pair_at a.ids.now a.below.now a.above a.k) a.k l.j (omega arith)
    (wrong a.ids.now a.below.now a.above a.k l.j (omega arith)
    c.place.ensures c.if-k-place.true c.if-key-ids.true))

pub loop-j-preserved : goal.loop-j-preserved
loop-j-preserved c =
    let a = c.args in
    let l = c.loop-j in
    let p = c.place.ensures in
    throughout-more (pair_at a.ids.now a.below.now a.above a.k) l.j l.invariant
    (elim c.else-k-place.branch [
      | else-k-place-via-then-k-place+else-key-ids w ↦ right_key a.ids.now a.below.now a.above a.k l.j w.if-key-ids.false
      | else-k-place-via-else-k-place w ↦ right-place a.ids.now a.below.now a.above a.k l.j p w.if-k-place.false
    ])

pub returns : goal.returns
returns c =
    let a = c.args in
    let l = c.loop-j in
    let t = pair_at a.ids.now a.below.now a.above a.k in
    sym (throughout-all t a.k (λ i h. throughout-at t l.j i (omega arith) l.invariant))
