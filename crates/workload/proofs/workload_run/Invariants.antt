-- `workload::workload_run` meets its contract, by the invariant of `proofs/Tallies.antt`.
use mathlib.Core.Path.{◌≡◌}
use Prim.Native.Nat.{◌+◌, ◌≤◌}
use native.Mathlib.Omega.{arith}
use borrow.Author.Rules.{rules}
use Rattle.workload.specs.Workload.{operation_of, tallied, none_tallied}
use Rattle.workload.proofs.Tallies.{one_if_done-le, Received, received_none, received_more, all-received}
use Rattle.workload.proofs.workload_run.Given as goal

abbrev pub invariant-loop-k : goal.invariant-loop-k
invariant-loop-k l = (l.k ≤ l.n + l.n)
    × Received
    (operation_of l.n)
    (record { replica = l.initial.replica; count = l.initial.count })
    (record { replica = l.replica; count = l.count })
    l.k
