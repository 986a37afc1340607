-- `columns::put_inserts` meets its contract. The loop's invariant: the first i inserts are put.
use Prim.Native.Nat.{ℕ, ◌≤◌, ◌<◌}
use native.Mathlib.Omega.{arith}
use mathlib.Core.Path.{◌≡◌, refl, sym, ◌∙◌, subst}
use lib.ListN.{length, get_or}
use Rattle.catching.specs.Columns.{InsertsOf}
use Rattle.catching.proofs.Operations.{no-inserts, one-insert}
use Rattle.catching.proofs.columns.put_inserts.Given as goal

abbrev pub invariant-loop-i : goal.invariant-loop-i
invariant-loop-i l = (l.i ≤ l.count) × InsertsOf l.ids l.previous l.next l.code_points l.order l.i l.numbers
