-- `hall::run` is safe and ends: each line leaves fewer bytes, so their number stays within that of the bytes, and leaves
-- the replica well formed.
use mathlib.Core.Path.{◌≡◌, ap, ◌∙◌}
use mathlib.Core.Bool.{true}
use mathlib.Core.List.{List}
use Prim.Native.Nat.{ℕ, ◌+◌, ◌≤◌, ◌<◌}
use native.Mathlib.Omega.{arith}
use borrow.Author.Rules.{rules}
use lib.ListN.{length}
use Rattle.woot.specs.Memory.{replica_well_formed}
use Rattle.lines.specs.Lines.{rest}
use Rattle.lines.proofs.Lines.{rest_shorter}
use Rattle.transcript.proofs.Looping.{received_line_formed, begun-formed}
use Rattle.hall.proofs.run.Goals as goal

pub loop-lines-init : goal.loop-lines-init
loop-lines-init g c = (omega arith, ap replica_well_formed c.empty-replica.ensures ∙ begun-formed)

-- what is left is shorter than what there was
shorter : (s after : List ℕ) → after ≡ rest s → 0 < length s → length after < length s
shorter s after e h = omega (arith, ap length e, rest_shorter s h)

pub overflow_add-number : goal.overflow_add-number
overflow_add-number g c = omega (arith, shorter _ _ c.rest-after.ensures c.loop-lines-test.true)

pub loop-lines-smaller : goal.loop-lines-smaller
loop-lines-smaller g c = shorter _ _ c.rest-after.ensures c.loop-lines-test.true

pub loop-lines-preserved : goal.loop-lines-preserved
loop-lines-preserved g c =
    (omega (arith, shorter _ _ c.rest-after.ensures c.loop-lines-test.true, c.loop-lines.invariant.0), ap replica_well_formed c.in_ok-replica.ensures ∙ received_line_formed _ c.loop-lines.invariant.1 _)

pub print_text-requires : goal.print_text-requires
print_text-requires g c = c.loop-lines.invariant.1
