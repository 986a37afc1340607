-- `catching::list` lends the replica.
use Rattle.memory.proofs.Fullness.{full-replica}
use Rattle.catching.proofs.list.Goals as goal

pub list_in-requires : goal.list_in-requires
list_in-requires c = full-replica c.well_formed.0
