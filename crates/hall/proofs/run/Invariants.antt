-- `hall::run` is safe and ends: each line leaves fewer bytes, so their number stays within that of the bytes, and leaves
-- the replica well formed.
use mathlib.Core.Path.{◌≡◌, ap, ◌∙◌}
use mathlib.Core.Bool.{true}
use Prim.Native.Nat.{◌+◌, ◌≤◌, ◌<◌}
use native.Mathlib.Omega.{arith}
use borrow.Author.Rules.{rules}
use lib.ListN.{length}
use Rattle.woot.specs.Memory.{replica_well_formed}
use Rattle.lines.proofs.Lines.{rest_shorter}
use Rattle.transcript.proofs.Looping.{received_line_formed, begun-formed}
use Rattle.hall.proofs.run.Given as goal

abbrev pub invariant-loop-lines : goal.invariant-loop-lines
invariant-loop-lines g l = (l.number + length l.lines ≤ length l.input + 1) × (replica_well_formed l.replica ≡ true)

abbrev pub decreases-loop-lines : goal.decreases-loop-lines
decreases-loop-lines g l = length l.lines
