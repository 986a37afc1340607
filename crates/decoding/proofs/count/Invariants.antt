-- `decoding::count` meets its contract: what is read from the offset on, with the characters before it, is the whole text.
use Prim.Native.Nat.{◌-◌}
use lib.ListN.{length}
use Rattle.decoding.proofs.Offsets.{Counting}
use Rattle.decoding.proofs.count.Given as goal

abbrev pub invariant-loop-at : goal.invariant-loop-at
invariant-loop-at l = Counting l.bytes l.at l.count

abbrev pub decreases-loop-at : goal.decreases-loop-at
decreases-loop-at l = length l.bytes - l.at
