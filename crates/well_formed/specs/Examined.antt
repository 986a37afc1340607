-- For the proofs of the code alone: what the check tells the steps of a call.
use Rattle.std.specs.Prelude.{◌≡◌, true}
use Rattle.memory.specs.Columns.{Replica, replica_well_formed}
use Rattle.memory.specs.Lent.{Slots}

-- a replica in form, whose columns have their slots
pub record Examined (r : Replica) : Type 0 where
  pub form : replica_well_formed r ≡ true
  pub slots : Slots r.document
