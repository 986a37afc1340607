-- `index::table::entries` meets its contract. The loop's invariant: the count is that of the first i slots.
use Prim.Native.Nat.{◌≤◌}
use mathlib.Core.Path.{◌≡◌}
use lib.ListN.{take}
use Rattle.index.specs.Entries.{entries}
use Rattle.index.proofs.table.entries.Given as goal

abbrev pub invariant-loop-slot : goal.invariant-loop-slot
invariant-loop-slot l = (l.count ≤ l.slot-index) × (l.count ≡ entries (take l.slot-index l.slots))
