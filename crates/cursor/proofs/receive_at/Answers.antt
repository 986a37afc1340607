-- `cursor::receive_at` judges the operation and carries out what was judged on the replica.
use Rattle.memory.proofs.Fullness.{full-replica}
use Rattle.cursor.proofs.receive_at.Goals as goal

pub judge_at-judged-requires : goal.judge_at-judged-requires
judge_at-judged-requires c = full-replica c.well_formed.0

pub carry_at-received-requires : goal.carry_at-received-requires
carry_at-received-requires c = record { full = full-replica c.well_formed.0; judged_at = c.judge_at-judged.ensures }
