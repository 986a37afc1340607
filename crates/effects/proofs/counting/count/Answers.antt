-- `effects::counting::count` lends the replica.
use Rattle.memory.proofs.Fullness.{full-replica}
use Rattle.effects.proofs.counting.count.Goals as goal

pub count_in-requires : goal.count_in-requires
count_in-requires c = full-replica c.well_formed.0
