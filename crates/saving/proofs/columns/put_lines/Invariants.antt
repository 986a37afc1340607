-- `saving::columns::put_lines` meets its contract, by the invariant of the loop over lines.
use Prim.Native.Nat.{ℕ, ◌+◌, ◌-◌, ◌≤◌}
use mathlib.Core.Path.{◌≡◌, ap, ◌∙◌}
use mathlib.Core.List.{List, []}
use lib.ListN.{length, take}
use Rattle.output.specs.Output.{placed, past}
use Rattle.output.proofs.Laws.{length-placed}
use Rattle.lines.proofs.Sequences.{Putting, putting_begun, putting_more, putting_end}
use Rattle.saving.specs.Documents.{lists_of, lines_as, body_as}
use Rattle.saving.proofs.Documents.{lines_many, all_lines}
use Rattle.lines.specs.Lines.{concatenated}
use native.Mathlib.Omega.{arith}
use Rattle.saving.proofs.columns.put_lines.Given as goal

abbrev pub invariant-loop-i : goal.invariant-loop-i
invariant-loop-i l = (l.all ≤ 18446744073709551615) × Putting (λ l. l) (lines_as l.rows (lists_of l.places l.characters l.toggles l.n l.pending l.slots l.w)) l.all l.initial.out l.at l.out l.end l.i
