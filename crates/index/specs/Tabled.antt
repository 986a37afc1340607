-- For the proofs of the code alone: keys with a table that agrees with them.
use Rattle.std.specs.Prelude.{ℕ, ◌≤◌, ◌≡◌, true, List, length}
use Rattle.woot.specs.declared.Table.{Table}
use Rattle.woot.specs.Table.{agrees}

pub record Tabled (t : Table) (ks : List ℕ) : Type 0 where
  pub heads : length t.heads ≡ 1024
  pub links : length t.links ≡ 2048
  pub few : length ks ≤ 1024
  pub agree : agrees t ks ≡ true
