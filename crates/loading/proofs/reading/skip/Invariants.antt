-- `loading::reading::skip` meets its contract. The loop's invariant: i lines are taken off.
use mathlib.Core.Path.{◌≡◌}
use Prim.Native.Nat.{◌≤◌}
use lib.ListN.{length, drop}
use Rattle.lines.specs.Lines.{lines, closed}
use Rattle.loading.proofs.reading.skip.Given as goal

abbrev pub invariant-loop-i : goal.invariant-loop-i
invariant-loop-i l = (l.i ≤ l.n) × (l.n ≤ length (lines l.bytes)) × (lines l.left ≡ drop l.i (lines l.bytes)) × (closed l.left ≡ closed l.bytes)
