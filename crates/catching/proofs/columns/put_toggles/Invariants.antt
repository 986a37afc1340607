-- `columns::put_toggles` meets its contract. The loop's invariant: the toggles of the first i rows are put.
use Prim.Native.Nat.{ℕ, ◌≤◌}
use native.Mathlib.Omega.{arith}
use mathlib.Core.Path.{◌≡◌, refl, sym, ◌∙◌, subst}
use mathlib.Core.Logic.{⊎_elim}
use Rattle.catching.specs.Columns.{TogglesOf}
use Rattle.catching.proofs.Operations.{no-toggles, not-toggled, one_toggle}
use Rattle.catching.proofs.columns.put_toggles.Given as goal

abbrev pub invariant-loop-i : goal.invariant-loop-i
invariant-loop-i l = (l.i ≤ l.n) × TogglesOf l.ids l.toggles l.i l.sender l.numbers l.count
