-- `conversion::characters_within` meets its contract. The loop's invariant: the first i counts pass.
use Prim.Native.Nat.{◌≤◌}
use mathlib.Core.Path.{◌≡◌}
use mathlib.Core.Bool.{true}
use lib.ListN.{get_or}
use Rattle.lists.specs.Lists.{throughout}
use Rattle.conversion.specs.Columns.{count_within}
use Rattle.conversion.proofs.characters_within.Given as goal

abbrev pub invariant-loop-i : goal.invariant-loop-i
invariant-loop-i l = (l.i ≤ l.n) × (throughout (λ j. count_within (get_or l.toggles j 0)) l.i ≡ true)
