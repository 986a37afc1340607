-- For the proofs of the code alone: blocks whose characters can be read and typed.
use Rattle.std.specs.Prelude.{ℕ, ◌≤◌, ◌<◌, ◌≡◌, List, length}
use Rattle.std.proofs.Math.Option.{some}
use Rattle.decoding.specs.Decoding.{decoded}
use Rattle.woot.specs.Memory.{character_slots}
use Rattle.memory.specs.Columns.{Replica}
use Rattle.block_judging.specs.Steps.{Spacious}

-- a block in UTF-8 that a column has slots for
pub record Readable (block : List ℕ) : Type 0 where
  pub points : List ℕ
  pub read : decoded block ≡ some points
  pub few : length points ≤ character_slots

-- a block that there is room for
pub record Pasteable (r : Replica) (g : ℕ) (block : List ℕ) (count : ℕ) : Type 0 where
  pub points : List ℕ
  pub read : decoded block ≡ some points
  pub many : count ≡ length points
  pub filled : 0 < count
  pub spacious : Spacious r g count
