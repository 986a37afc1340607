-- `effects::counting::sender_full` counts among the operations that are in use.
use native.Mathlib.Omega.{arith}
use lib.ListN.{length-take}
use Rattle.pending.proofs.counts.sender_full.Goals as goal

pub slice_bounds-count_sender-end : goal.slice_bounds-count_sender-end
slice_bounds-count_sender-end c = simp length-take (omega arith)

pub slice_bounds-count_sender-end-2 : goal.slice_bounds-count_sender-end-2
slice_bounds-count_sender-end-2 c = simp length-take (omega arith)

pub returns : goal.returns
returns c = rw c.count_sender.ensures
