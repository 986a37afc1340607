-- `visible::text_length` meets its contract. The loop's invariant: the bytes counted, with those left, are all.
use Prim.Native.Nat.{◌+◌, ◌*◌, ◌≤◌}
use mathlib.Core.Path.{◌≡◌}
use lib.ListN.{length}
use Rattle.visible.proofs.Shown.{text_left}
use Rattle.visible.proofs.text_length.Given as goal

abbrev pub invariant-loop-i : goal.invariant-loop-i
invariant-loop-i l = (l.bytes ≤ 4 * l.i)
    × (l.bytes + length (text_left l.code_points l.toggles l.n l.i) ≡ length (text_left l.code_points l.toggles l.n 0))
