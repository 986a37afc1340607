-- `cycles::pass_up` meets its contract. The loop's invariant: row k and those below it were seen.
use Prim.Native.Nat.{◌≤◌, ◌<◌}
use Rattle.neighbours.specs.Steps.{Passed}
use Rattle.neighbours.proofs.cycles.pass_up.Given as goal

abbrev pub invariant-loop-k : goal.invariant-loop-k
invariant-loop-k l = Passed l.above l.below l.n (λ j. (l.k ≤ j) × (j < l.n)) l.initial.flags l.flags l.taken
