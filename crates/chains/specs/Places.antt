-- For the proofs of the code alone: what a lookup finds, as the code answers it.
use Rattle.std.specs.Prelude.{ℕ, suc}
use Rattle.std.proofs.Math.Option.{Option, none, some}

abbrev pub place_found : Option ℕ → ℕ
place_found none = 0
place_found (some i) = suc i
