-- `cycles::pass_down` meets its contract. The loop's invariant: the rows above row k were seen.
use Prim.Native.Nat.{◌<◌}
use Rattle.neighbours.specs.Steps.{Passed}
use Rattle.neighbours.proofs.cycles.pass_down.Given as goal

abbrev pub invariant-loop-k : goal.invariant-loop-k
invariant-loop-k l = Passed l.above l.below l.n (λ j. j < l.k) l.initial.flags l.flags l.taken
