-- `output::put_all` meets its contract. The loop's invariant: the slice is what it was with the first i bytes pasted in at the offset.
use mathlib.Core.Path.{◌≡◌}
use Prim.Native.Nat.{◌+◌, ◌≤◌}
use lib.ListN.{length}
use lib.Seq.{paste}
use Rattle.output.proofs.put_all.Given as goal

abbrev pub invariant-loop-i : goal.invariant-loop-i
invariant-loop-i l = (l.at + length l.bytes ≤ length l.initial.out) × (l.i ≤ length l.bytes) × (l.out ≡ paste l.initial.out l.at l.bytes l.i) × (length l.out ≡ length l.initial.out)
