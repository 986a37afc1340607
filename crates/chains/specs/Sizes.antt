-- For the proofs of the code alone: the arrays of a table have their sizes. The type says it of every table; a clause about
-- one behind a reference has to be told.
use Rattle.std.specs.Prelude.{◌≡◌, length}
use Rattle.woot.specs.declared.Table.{Table}

pub record Sized (t : Table) : Type 0 where
  pub heads : length t.heads ≡ 1024
  pub links : length t.links ≡ 2048
