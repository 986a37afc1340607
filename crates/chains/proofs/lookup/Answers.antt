-- `chains::lookup` meets its contract. The loop's invariant: the walk from where it stands finds what the lookup finds.
use mathlib.Core.Path.{◌≡◌, ◌∙◌}
use Prim.Native.Nat.{ℕ, ◌-◌, ◌≤◌, ◌<◌}
use native.Mathlib.Omega.{arith}
use mathlib.Core.Option.{Option, some}
use borrow.Author.Tests.{leb-true, leb-false}
use lib.ListN.{length}
use Rattle.woot.specs.Table.{lookup}
use Rattle.chains.specs.Places.{place_found}
use Rattle.chains.proofs.Walks.{leads_nowhere, walk_ends, walk_here, walk-on}
use Rattle.chains.proofs.lookup.Goals as goal

-- the place of what is found at the index before it
here : (w : Option ℕ) (p : ℕ) → 0 < p → w ≡ some (p - 1) → p ≡ place_found w
here w p h e = rw e (omega arith)

pub loop-at-init : goal.loop-at-init
unfolding lookup
loop-at-init c =
    let whole : length c.args.keys.now - 0 ≡ length c.args.keys.now = omega arith in
    (omega arith, omega arith, rw (c.place-next.ensures.value, c.chain.ensures.value, whole))

pub bounds-keys-next : goal.bounds-keys-next
bounds-keys-next c = omega (arith, leb-true)

pub returns-then-keys-next : goal.returns-then-keys-next
returns-then-keys-next c =
    let l = c.loop-at in
    let a = c.args in
    here _ l.next (omega arith) (l.invariant.2 ∙ walk_here a.table.now.links a.keys.now a.key (length a.keys.now - l.at) l.rest l.at l.next (omega arith) (omega arith) (omega (arith, leb-true)) (omega (arith, c.if-keys-next.true)))

pub bounds-table-slot : goal.bounds-table-slot
bounds-table-slot c = omega (arith, leb-true)

pub loop-at-smaller : goal.loop-at-smaller
loop-at-smaller c = omega (arith, leb-true)

pub loop-at-preserved : goal.loop-at-preserved
loop-at-preserved c =
    let l = c.loop-at in
    let a = c.args in
    let within : l.next ≤ length a.keys.now = omega (arith, leb-true) in (
      within,
      omega arith,
      l.invariant.2
          ∙ walk-on a.table.now.links a.keys.now a.key (length a.keys.now - l.at) l.rest l.at l.next (omega arith) (omega arith) within (length a.keys.now - l.next) (omega arith) (λ e. c.if-keys-next.false (omega arith))
          ∙ rw (c.place-next-in-loop-at.ensures.value, c.slot.ensures.value),
    )

pub returns-else-next-keys : goal.returns-else-next-keys
returns-else-next-keys c =
    let l = c.loop-at in
    let n = length c.args.keys.now in
    let out : n < l.next = omega (arith, leb-false) in
    let ends = leads_nowhere n l.at l.next (λ f g. omega arith) in
    rw (l.invariant.2, walk_ends _ _ _ (n - l.at) l.rest l.at l.next ends)

pub returns-after-loop-at : goal.returns-after-loop-at
returns-after-loop-at c =
    let l = c.loop-at in
    let n = length c.args.keys.now in
    let back : l.next ≤ l.at = c.loop-at-test.false in
    let ends = leads_nowhere n l.at l.next (λ f g. omega arith) in
    rw (l.invariant.2, walk_ends _ _ _ (n - l.at) l.rest l.at l.next ends)
