-- `passes::place_all` makes passes until one places none. The loop's invariant: passes over those that are left
-- come to what they came to from the beginning, and there are enough of them.
use mathlib.Core.Path.{◌≡◌}
use Prim.Native.Nat.{suc}
use lib.ListN.{length}
use Rattle.convergence.specs.Passes.{passes}
use Rattle.passes.specs.Steps.{laid_as, Offers}
use Rattle.passes.proofs.Repeating.{Repeating}
use Rattle.passes.proofs.place_all.Given as goal

abbrev pub invariant-loop-length : goal.invariant-loop-length
invariant-loop-length l = (length l.characters ≡ 4096)
    × ((o : Offers (laid_as l.initial.characters l.initial.toggles l.n l.initial.table) l.initial.inserts l.m)
    → Repeating (laid_as l.characters l.toggles l.length l.table) l.inserts l.left (passes (suc (length o.inserts)) o.characters o.inserts))

abbrev pub decreases-loop-length : goal.decreases-loop-length
decreases-loop-length l = l.left
