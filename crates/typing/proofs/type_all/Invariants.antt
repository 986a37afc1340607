-- `typing::type_all` types one character after another. The loop's invariant: what is left, with what was done so far, comes
-- to what all of them come to.
use Rattle.std.proofs.Common.{◌≡◌, length}
use Rattle.memory.specs.Columns.{meaning}
use Rattle.memory.specs.Lent.{viewed, Full}
use Rattle.typing.specs.Steps.{points_in}
use Rattle.typing.proofs.Going.{Going}
use Rattle.typing.proofs.type_all.Given as goal

abbrev pub invariant-loop-i : goal.invariant-loop-i
invariant-loop-i l =
    Full l.replica × (length l.typed ≡ 4096)
    × Going (meaning (viewed l.initial.replica)) l.point l.initial.replica.document.waiting (points_in l.count l.initial.typed)
    (viewed l.replica) l.at l.typed l.i
