-- `workload::workload_run` meets its contract, by the invariant of `proofs/Tallies.antt`.
use mathlib.Core.Path.{◌≡◌}
use Prim.Native.Nat.{◌+◌, ◌≤◌}
use native.Mathlib.Omega.{arith}
use borrow.Author.Rules.{rules}
use Rattle.workload.specs.Workload.{operation_of, tallied, none_tallied}
use Rattle.workload.proofs.Tallies.{one_if_done-le, Received, received_none, received_more, all-received}
use Rattle.workload.proofs.workload_run.Goals as goal

pub loop-k-init : goal.loop-k-init
loop-k-init c = (omega arith, received_none (operation_of _) _)

pub operation-requires : goal.operation-requires
operation-requires c =
    record {
      rows_bound = omega arith;
      k_bound = omega arith;
    }

pub overflow_add-count : goal.overflow_add-count
overflow_add-count c =
    let l = c.loop-k in
    omega (arith, l.invariant.1.few, one_if_done-le c.receive-receipt.result.answer, c.one_if_done-count.ensures)

pub loop-k-preserved : goal.loop-k-preserved
unfolding tallied
loop-k-preserved c =
    let l = c.loop-k in (
      omega arith,
      received_more
          l.invariant.1
          (rw (c.one_if_done-count.ensures, c.receive-receipt.ensures, c.operation.ensures)),
    )

pub returns : goal.returns
unfolding none_tallied
returns c =
    let n = c.within-n.result in
    let all : c.loop-k.k ≡ n + n = omega arith in
    all-received
    c.args.rows
    c.within-n.ensures
    (rw (all, c.empty-replica.ensures) at c.loop-k.invariant.1)
