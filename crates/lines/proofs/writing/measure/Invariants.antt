-- `lines::writing::measure` meets its contract. The loop's invariant: with the columns that are left, the end is the line's.
use mathlib.Core.Path.{◌≡◌}
use Prim.Native.Nat.{◌+◌, ◌≤◌}
use lib.ListN.{length, drop}
use Rattle.lines.specs.Fields.{columns}
use Rattle.lines.proofs.writing.measure.Given as goal

abbrev pub invariant-loop-number : goal.invariant-loop-number
invariant-loop-number l = (l.number-index ≤ length l.numbers) × (l.end ≤ l.size) × (l.end + length (columns (drop l.number-index l.numbers)) ≡ l.at + (length l.head + length (columns l.numbers)))
