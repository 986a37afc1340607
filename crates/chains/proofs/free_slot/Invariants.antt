-- `chains::free_slot` meets its contract. The loop's invariant: the way from where it stands ends where the whole way ends.
use mathlib.Core.Path.{◌≡◌}
use Prim.Native.Nat.{◌-◌, ◌*◌, ◌≤◌, ◌<◌}
use lib.ListN.{get_or}
use Rattle.woot.specs.Table.{slot, free_slot}
use Rattle.chains.proofs.free_slot.Given as goal

abbrev pub invariant-loop-at : goal.invariant-loop-at
invariant-loop-at l = (0 < l.at) × (l.at ≤ l.n) × (l.free < 2 * l.at) × (l.free ≡ slot l.at l.rest) × (l.next ≡ get_or l.links (slot l.at l.rest) 0) × (free_slot l.n l.links l.n l.key l.head ≡ free_slot (l.n - l.at) l.links l.n l.rest l.at)

abbrev pub decreases-loop-at : goal.decreases-loop-at
decreases-loop-at l = l.n - l.at
