-- `listing::reading::read_chunks` meets its contract, by the invariant of `proofs/Summaries.antt`.
use lib.ListN.{length}
use Rattle.listing.proofs.Summaries.{ReadLoop}
use Rattle.listing.proofs.reading.read_chunks.Given as goal

abbrev pub invariant-loop-left : goal.invariant-loop-left
invariant-loop-left l = ReadLoop l.bytes l.initial.at l.heads l.words l.at l.left

abbrev pub decreases-loop-left : goal.decreases-loop-left
decreases-loop-left l = length l.left
