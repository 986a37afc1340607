-- `counts::count_sender` meets its contract. The loop's invariant: the count, with what is left to count, is all.
use mathlib.Core.Path.{◌≡◌}
use Prim.Native.Nat.{◌+◌, ◌≤◌}
use Rattle.pending.proofs.Searches.{sent_left}
use Rattle.pending.proofs.counts.count_sender.Given as goal

abbrev pub invariant-loop-i : goal.invariant-loop-i
invariant-loop-i l = (l.count ≤ l.i)
    × (l.count + sent_left l.sender l.own l.values l.i ≡ sent_left l.sender l.own l.values 0)
