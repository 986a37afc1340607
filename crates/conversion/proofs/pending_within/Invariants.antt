-- `conversion::pending_within` meets its contract. The loop's invariant: the first j operations pass.
use Prim.Native.Nat.{ℕ, ◌≤◌}
use mathlib.Core.List.{List}
use mathlib.Core.Path.{◌≡◌}
use mathlib.Core.Bool.{Bool, true}
use lib.ListN.{get_or}
use Rattle.lists.specs.Lists.{throughout}
use Rattle.conversion.specs.Columns.{numbers_within}
use Rattle.conversion.proofs.pending_within.Given as goal

-- the operation in a slot passes
abbrev pub within : List ℕ → List ℕ → ℕ → Bool
within own values j = numbers_within (get_or own j 0) (get_or values j 0)

abbrev pub invariant-loop-j : goal.invariant-loop-j
invariant-loop-j l = (l.j ≤ l.w) × (throughout (within l.own l.values) l.j ≡ true)
