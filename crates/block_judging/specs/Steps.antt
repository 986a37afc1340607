-- For the proofs of the code alone: what is known of a block before its characters are typed.
use Rattle.std.specs.Prelude.{ℕ, ◌+◌, ◌≤◌, ◌<◌, ◌≡◌, true, false, List, length}
use Rattle.std.proofs.Math.Option.{some}
use Rattle.decoding.specs.Decoding.{decoded}
use Rattle.woot.specs.Limits.{last_clock, capacity}
use Rattle.woot.specs.Operations.{inserts}
use Rattle.woot.specs.Calls.{beyond_visible}
use Rattle.bulk.specs.Pasting.{unpasted, paste_when}
use Rattle.memory.specs.Columns.{Replica, meaning, replica_well_formed}
use Rattle.block_judging.specs.declared.Judged.{Judged}
use Rattle.block_judging.specs.declared.Judged.TheVariants.{Answered, Enough}

-- a replica in form with a clock and room for so many characters, the first at a gap among its visible characters
pub record Spacious (r : Replica) (g count : ℕ) : Type 0 where
  pub form : replica_well_formed r ≡ true
  pub gap : beyond_visible (meaning r) g ≡ false
  pub clock : r.site.clock + count ≤ last_clock
  pub space : length (meaning r).characters + length (inserts (meaning r).pending) + count ≤ capacity

-- the rule gives every block of so many characters this answer and changes nothing, or there is room for it
unfoldable pub BlockJudged : Replica → ℕ → ℕ → Judged → Type 0
BlockJudged r g count (Answered a) =
    (block ns : List ℕ) → decoded block ≡ some ns → count ≡ length ns →
    paste_when (replica_well_formed r) (meaning r) g block ≡ unpasted (meaning r) a
BlockJudged r g count Enough = (0 < count) × Spacious r g count
