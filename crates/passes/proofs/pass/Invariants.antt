-- `passes::pass` offers one insert after another. The loop's invariant: what the pass is to come to, by the rules,
-- it will.
use Prim.Native.Nat.{◌≤◌}
use mathlib.Core.Path.{◌≡◌}
use lib.ListN.{length}
use Rattle.convergence.specs.Passes.{pass}
use Rattle.passes.specs.Steps.{laid_as, Offers, Reached}
use Rattle.passes.proofs.pass.Given as goal

abbrev pub invariant-loop-i : goal.invariant-loop-i
invariant-loop-i l = (length l.characters ≡ 4096) × (l.i ≤ l.m)
    × ((o : Offers (laid_as l.initial.characters l.initial.toggles l.n l.initial.table) l.initial.inserts l.m)
    → Reached (laid_as l.characters l.toggles l.at.length l.table) l.inserts l.at.left l.i l.m (pass o.characters o.inserts))
