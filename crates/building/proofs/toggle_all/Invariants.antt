-- `building::toggle_all` carries out one toggle after another. The loop's invariant: with those that are left it
-- comes to what all of them come to.
use native.Mathlib.Omega.{arith}
use Rattle.passes.specs.Steps.{laid_as}
use Rattle.building.specs.Steps.{Toggles}
use Rattle.passes.proofs.Laying.{laid_count, laid_slots, laid_tabled}
use Rattle.building.proofs.Toggling.{Changing, changing_begun, changing_again, changing_ended, slots-low}
use Rattle.building.proofs.Toggling.{read_ranged}
use Rattle.building.proofs.toggle_all.Given as goal

abbrev pub invariant-loop-j : goal.invariant-loop-j
invariant-loop-j l = (g : Toggles (laid_as l.characters l.initial.toggles l.n l.table) l.changes l.m) → Changing (laid_as l.characters l.toggles l.n l.table) l.j g.characters g.toggles
