-- `chains::lookup` meets its contract. The loop's invariant: the walk from where it stands finds what the lookup finds.
use mathlib.Core.Path.{◌≡◌}
use Prim.Native.Nat.{◌-◌, ◌≤◌, ◌<◌}
use lib.ListN.{length}
use Rattle.woot.specs.Table.{walk, lookup}
use Rattle.chains.proofs.lookup.Given as goal

abbrev pub invariant-loop-at : goal.invariant-loop-at
invariant-loop-at l = (l.at ≤ length l.keys) × (l.next < 65536) × (lookup l.table l.keys l.key ≡ walk (length l.keys - l.at) l.table.links l.keys l.key l.rest l.at l.next)

abbrev pub decreases-loop-at : goal.decreases-loop-at
decreases-loop-at l = length l.keys - l.at
