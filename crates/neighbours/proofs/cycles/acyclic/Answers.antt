-- `cycles::acyclic` meets its contract. The loop's invariant: so many rows are left, and every knot among them.
use Prim.Native.Nat.{ℕ}
use native.Mathlib.Omega.{arith}
use mathlib.Core.Path.{refl, ◌∙◌}
use lib.ListN.{length-replicate}
use Rattle.lists.proofs.Tests.{clash}
use Rattle.neighbours.proofs.Passing.{remaining-first, spared_first, none_left, some_stuck, taken-few}
use Rattle.neighbours.proofs.cycles.acyclic.Goals as goal

pub loop-left-init : goal.loop-left-init
loop-left-init c =
    let full = length-replicate {A = ℕ} 1024 0 in
    (remaining-first 1024 c.args.n c.requires.n_le_character_slots, spared_first _ _ c.args.n c.requires.n_le_character_slots, full)

pub pass_down-first-requires : goal.pass_down-first-requires
pass_down-first-requires c =
    let l = c.loop-left in
    record {
      n_in_bounds = c.requires.n_in_bounds;
      n_in_bounds_2 = c.requires.n_in_bounds_2;
      n_in_bounds_3 = omega (arith, l.invariant.2, c.requires.n_le_character_slots);
    }

pub pass_up-second-requires : goal.pass_up-second-requires
pass_up-second-requires c =
    let p = c.pass_down-first.ensures in
    let l = c.loop-left in
    record {
      n_in_bounds = c.requires.n_in_bounds;
      n_in_bounds_2 = c.requires.n_in_bounds_2;
      n_in_bounds_3 = omega (arith, p.size, l.invariant.2, c.requires.n_le_character_slots);
    }

pub overflow_add-taken : goal.overflow_add-taken
overflow_add-taken c =
    let p = c.pass_down-first.ensures in
    let q = c.pass_up-second.ensures in
    omega (arith, taken-few _ _ _ p, taken-few _ _ _ q, c.requires.n_le_character_slots)

pub returns-then-taken-eq0 : goal.returns-then-taken-eq0
returns-then-taken-eq0 c =
    let p = c.pass_down-first.ensures in
    let l = c.loop-left in
    record {
      unknotted = (λ e. clash e refl);
      knot = (λ e. some_stuck _ _ _ p (omega arith) (omega (arith, l.invariant.0)));
    }

pub overflow_sub-left : goal.overflow_sub-left
overflow_sub-left c =
    let p = c.pass_down-first.ensures in
    let q = c.pass_up-second.ensures in
    let l = c.loop-left in
    omega (arith, p.counted, q.counted, l.invariant.0)

pub loop-left-smaller : goal.loop-left-smaller
loop-left-smaller c =
    let p = c.pass_down-first.ensures in
    let q = c.pass_up-second.ensures in
    let l = c.loop-left in
    omega (arith, p.counted, q.counted, l.invariant.0, c.if-taken-eq0.false)

pub loop-left-preserved : goal.loop-left-preserved
loop-left-preserved c =
    let p = c.pass_down-first.ensures in
    let q = c.pass_up-second.ensures in
    let l = c.loop-left in (
      omega (arith, p.counted, q.counted, l.invariant.0),
      (λ rows r. q.spares rows r (p.spares rows r (l.invariant.1 rows r))),
      q.size ∙ p.size ∙ l.invariant.2,
    )

pub returns : goal.returns
returns c =
    let l = c.loop-left in
    record {
      unknotted = (λ e. none_left _ _ _ l.flags l.invariant.1 (omega (arith, l.invariant.0)));
      knot = (λ e. clash refl e);
    }
