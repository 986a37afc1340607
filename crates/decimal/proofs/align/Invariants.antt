-- `decimal::align` meets its contract. The loop's invariant: the digits of n are those of the rest and then the ones that stand in the
-- array already, from just past `start` to its end.
use mathlib.Core.Path.{◌≡◌}
use mathlib.Core.List.{List, ◌++◌}
use Prim.Native.Nat.{ℕ, suc, ◌+◌, ◌≤◌}
use lib.ListN.{length, replicate}
use Rattle.decimal.specs.Numeral.{digits}
use Rattle.decimal.proofs.align.Given as goal

pub record Filled (n : ℕ) (bytes : List ℕ) (start rest : ℕ) : Type 0 where
  pub done : List ℕ
  pub now : bytes ≡ replicate (suc start) 0 ++ done
  pub then : digits n ≡ digits rest ++ done
  pub at : start + length done ≡ 19
  pub few : length (digits n) ≤ 20

abbrev pub invariant-loop-rest : goal.invariant-loop-rest
invariant-loop-rest l = Filled l.n l.bytes l.start l.rest

abbrev pub decreases-loop-rest : goal.decreases-loop-rest
decreases-loop-rest l = l.rest
