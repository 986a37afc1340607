-- `saving::columns::measure` meets its contract, by the invariant of the loop over lines.
use Prim.Native.Nat.{ℕ, ◌+◌, ◌-◌, ◌≤◌}
use mathlib.Core.Path.{◌≡◌, ap, ◌∙◌}
use mathlib.Core.List.{List, []}
use lib.ListN.{length, take}
use Rattle.lines.specs.Room.{room_for}
use Rattle.lines.proofs.Sequences.{Measuring, measuring_begun, measuring_more, measuring_short, measuring_end}
use Rattle.saving.specs.Documents.{lists_of, lines_as, body_as}
use Rattle.saving.proofs.Documents.{lines_many, all_lines}
use Rattle.lines.specs.Lines.{concatenated}
use borrow.Author.Rules.{rules}
use native.Mathlib.Omega.{arith}
use Rattle.saving.proofs.columns.measure.Given as goal

abbrev pub invariant-loop-i : goal.invariant-loop-i
invariant-loop-i l = (l.all ≤ 18446744073709551615) × Measuring (λ l. l) (lines_as l.rows (lists_of l.places l.characters l.toggles l.n l.pending l.slots l.w)) l.all l.size l.at l.end l.i
