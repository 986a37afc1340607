-- `index::key` is the sum that defines the key; that the clock is small is what its type says.
use mathlib.Core.Path.{refl}
use native.Mathlib.Omega.{arith}
use Rattle.woot.specs.Table.{key}
use Rattle.index.proofs.key.Goals as goal

pub returns : goal.returns
unfolding key
returns c =
    record {
      value = refl;
      small = omega arith;
    }
