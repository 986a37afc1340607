-- `decoding::follow` meets its contract: each byte adds six bits to the number, and what is left reads on alike.
use Rattle.decoding.proofs.Offsets.{Along}
use Rattle.decoding.proofs.follow.Given as goal

abbrev pub invariant-loop-i : goal.invariant-loop-i
invariant-loop-i l = Along l.bytes l.at l.size l.lead l.i l.n
