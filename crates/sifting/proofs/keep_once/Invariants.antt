-- `sifting::keep_once` meets its contract, by the invariant of `proofs/Keeping.antt`.
use Rattle.sifting.proofs.Keeping.{KeepLoop}
use Rattle.sifting.proofs.keep_once.Given as goal

abbrev pub invariant-loop-i : goal.invariant-loop-i
invariant-loop-i l = KeepLoop l.initial.inserts l.n l.inserts l.table l.i l.count
