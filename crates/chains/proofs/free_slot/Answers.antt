-- `chains::free_slot` meets its contract. The loop's invariant: the way from where it stands ends where the whole way ends.
use mathlib.Core.Path.{sym, ◌∙◌}
use Prim.Native.Nat.{◌-◌, ◌≤◌, ◌<◌}
use native.Mathlib.Omega.{arith}
use borrow.Author.Tests.{leb-true, leb-false}
use Rattle.chains.proofs.Walks.{leads-on, leads_nowhere}
use Rattle.chains.proofs.Slots.{free-here, free_on, free-enough}
use Rattle.chains.proofs.free_slot.Goals as goal

pub overflow_cast-next : goal.overflow_cast-next
overflow_cast-next c = omega (arith, c.type_inv.links c.slot-free.result)

pub loop-at-init : goal.loop-at-init
loop-at-init c =
    let a = c.args in
    let s = c.slot-free.ensures in
    (omega arith, omega arith, s.upper_bound, s.value, rw s.value, free-enough a.links.now a.n a.n (a.n - a.head) a.key a.head (omega arith) (omega arith))

pub slot-free-requires-in-loop-at : goal.slot-free-requires-in-loop-at
slot-free-requires-in-loop-at c =
    record {
      at_nonzero = omega (arith, leb-true);
      at_bound = omega (arith, leb-true);
    }

pub offset_bounds-links-free-in-loop-at : goal.offset_bounds-links-free-in-loop-at
offset_bounds-links-free-in-loop-at c = omega (arith, leb-true)

pub bounds-links-free-in-loop-at : goal.bounds-links-free-in-loop-at
bounds-links-free-in-loop-at c = omega (arith, leb-true)

pub overflow_cast-next-in-loop-at : goal.overflow_cast-next-in-loop-at
overflow_cast-next-in-loop-at c = omega (arith, c.type_inv.links c.slot-free-in-loop-at.result)

pub loop-at-smaller : goal.loop-at-smaller
loop-at-smaller c = omega (arith, leb-true)

pub loop-at-preserved : goal.loop-at-preserved
loop-at-preserved c =
    let l = c.loop-at in
    let a = c.args in
    let s = c.slot-free-in-loop-at.ensures in
    let later : l.at < l.next = omega arith in
    let within : l.next ≤ a.n = omega (arith, leb-true) in
    let on = rw l.invariant.4 at (leads-on a.n l.at l.next later within) in
    (omega arith, within, s.upper_bound, s.value, rw s.value, l.invariant.5 ∙ free_on a.links.now a.n (a.n - l.at) (a.n - l.next) l.rest l.at (omega arith) (omega (arith, l.invariant.4)) on ∙ rw (← l.invariant.4))

pub returns-else-next-n : goal.returns-else-next-n
returns-else-next-n c =
    let l = c.loop-at in
    let a = c.args in
    let out : a.n < l.next = omega (arith, leb-false) in
    let ends = rw l.invariant.4 at (leads_nowhere a.n l.at l.next (λ f g. omega arith)) in
    record {
      value = l.invariant.3 ∙ sym (l.invariant.5 ∙ free-here a.links.now a.n (a.n - l.at) l.rest l.at ends);
      upper_bound = omega arith;
    }

pub returns-after-loop-at : goal.returns-after-loop-at
returns-after-loop-at c =
    let l = c.loop-at in
    let a = c.args in
    let back : l.next ≤ l.at = c.loop-at-test.false in
    let ends = rw l.invariant.4 at (leads_nowhere a.n l.at l.next (λ f g. omega arith)) in
    record {
      value = l.invariant.3 ∙ sym (l.invariant.5 ∙ free-here a.links.now a.n (a.n - l.at) l.rest l.at ends);
      upper_bound = omega arith;
    }
