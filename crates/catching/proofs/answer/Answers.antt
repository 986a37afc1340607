-- `catching::answer` lends the replica.
use Rattle.memory.proofs.Fullness.{full-replica}
use Rattle.catching.proofs.answer.Goals as goal

pub answer_in-requires : goal.answer_in-requires
answer_in-requires c = full-replica c.well_formed.0
