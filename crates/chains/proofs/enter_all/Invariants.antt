-- `chains::enter_all` meets its contract. The loop's invariant: it is the table of the first i keys.
use mathlib.Core.Path.{◌≡◌}
use lib.ListN.{take}
use Rattle.woot.specs.Table.{table_of}
use Rattle.chains.proofs.enter_all.Given as goal

abbrev pub invariant-loop-i : goal.invariant-loop-i
invariant-loop-i l = l.table ≡ (table_of (take l.i (take l.n l.keys)))
