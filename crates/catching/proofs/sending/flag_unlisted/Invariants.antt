-- `sending::flag_unlisted` meets its contract. The loop's invariant: the first i rows have their flags.
use Prim.Native.Nat.{ℕ, ◌≤◌}
use native.Mathlib.Omega.{arith}
use mathlib.Core.Path.{◌≡◌, refl, subst}
use mathlib.Core.Logic.{⊎_elim}
use lib.ListN.{length}
use Rattle.lists.proofs.Tests.{failed, passed}
use Rattle.chunks.specs.Columns.{chunks_in}
use Rattle.catching.specs.Sending.{FlagsUnlisted}
use Rattle.catching.proofs.Flagging.{none_flagged, one-listed, one-unlisted}
use Rattle.catching.proofs.sending.flag_unlisted.Given as goal

abbrev pub invariant-loop-i : goal.invariant-loop-i
invariant-loop-i l = (l.i ≤ length l.ids) × FlagsUnlisted l.ids (chunks_in l.heads l.words l.count) (length l.initial.left) l.i l.left
