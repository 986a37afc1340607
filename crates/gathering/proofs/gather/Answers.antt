-- `gathering::gather` meets its contract, by the invariant of `proofs/Gathering.antt`.
use mathlib.Core.Path.{ap, ◌∙◌}
use native.Mathlib.Omega.{arith}
use lib.ListN.{length}
use borrow.Author.Rules.{rules}
use borrow.Author.Tests.{not-true, not-false}
use Rattle.lists.proofs.Tests.{clash}
use Rattle.lines.proofs.Lines.{rest_shorter}
use Rattle.gathering.proofs.Gathering.{GatherLoop, gather_begun, gather_few, gather_end, gather_held}
use Rattle.gathering.proofs.Gathering.{gather_none, gather_more, no-range-told}
use Rattle.gathering.proofs.gather.Goals as goal

pub loop-left-init : goal.loop-left-init
loop-left-init c = gather_begun _ _ _ c.requires.inserts_len c.requires.toggles_len

pub gather_line-next-requires : goal.gather_line-next-requires
gather_line-next-requires c =
    let l = c.loop-left.invariant in
    let few = gather_few l in
    let some = c.loop-left-test.true in
    record {
      inserts_len = l.inserts-size;
      toggles_len = l.toggles-size;
      inserts_bound = omega (arith, few, some);
      toggles_bound = omega (arith, few, some);
    }

pub returns-then-not-next : goal.returns-then-not-next
returns-then-not-next c =
    record {
      value = gather_none c.loop-left.invariant c.loop-left-test.true c.first_line-line.ensures
          c.gather_line-next.ensures.value (not-true _ c.if-not-next.true) c.ungathered.ensures;
      held = λ e. clash e (no-range-told c.ungathered.ensures);
    }

pub loop-left-smaller : goal.loop-left-smaller
loop-left-smaller c =
    omega (arith, rest_shorter c.loop-left.left.now c.loop-left-test.true, ap length c.rest-rest.ensures)

pub loop-left-preserved : goal.loop-left-preserved
loop-left-preserved c =
    let l = c.loop-left.invariant in
    let k = c.gather_line-next.auto in
    gather_more l c.loop-left-test.true c.first_line-line.ensures c.gather_line-next.ensures.value
    (not-false _ c.if-not-next.false) c.rest-rest.ensures c.gather_line-next.ensures.held (c.gather_line-next.auto.inserts ∙ l.inserts-size)
    (c.gather_line-next.auto.toggles ∙ l.toggles-size)

pub returns : goal.returns
returns c =
    let l = c.loop-left.invariant in
    record {
      value = gather_end l (omega arith);
      held = gather_held l (omega arith);
    }
