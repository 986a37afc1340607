-- `chains::chain` meets its contract: a remainder by 1,024 is below it.
use native.Mathlib.Nat.{mod-lt}
use native.Mathlib.Omega.{arith}
use mathlib.Core.Path.{refl}
use Rattle.woot.specs.Table.{chain_of}
use Rattle.chains.proofs.chain.Goals as goal

pub returns : goal.returns
unfolding chain_of
returns c =
    record {
      value = refl;
      upper_bound = mod-lt _ (omega arith);
    }
