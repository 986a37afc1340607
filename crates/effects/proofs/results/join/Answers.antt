-- `effects::results::join` meets its contract: each part stays within its bits, so that no sum wraps.
use native.Mathlib.Omega.{arith}
use Rattle.effects.specs.Results.{in_bits}
use borrow.Author.Rules.{rules}
use Rattle.effects.proofs.results.join.Goals as goal

pub returns : goal.returns
unfolding in_bits
returns c = omega arith
