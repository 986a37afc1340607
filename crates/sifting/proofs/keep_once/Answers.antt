-- `sifting::keep_once` meets its contract, by the invariant of `proofs/Keeping.antt`.
use native.Mathlib.Omega.{arith}
use mathlib.Core.Path.{◌≡◌}
use Rattle.std.proofs.Common.{None}
use Rattle.sifting.proofs.Keeping.{keep-begun, keep_tabled, keep_sized, keep-end, keep-more, keep_conflict}
use Rattle.sifting.proofs.Keeping.{conflict_sized}
use Rattle.sifting.proofs.keep_once.Goals as goal

pub loop-i-init : goal.loop-i-init
loop-i-init c =
    let made = c.enter_all.ensures in
    keep-begun c.args.inserts.now c.args.n c.requires.inserts_len c.requires.n_le_character_slots made

pub keep_next-requires : goal.keep_next-requires
keep_next-requires c =
    let l = c.loop-i.invariant in
    let h = c.loop-i-test.true in
    record {
      inserts_len = l.size;
      n_le_i = l.low;
      i_lt_character_slots = omega (arith, h, l.few);
      tabled = keep_tabled l;
    }

pub returns-in_err-count : goal.returns-in_err-count
returns-in_err-count c =
    let gone : c.from_residual.result ≡ None = grind arith in
    record {
      kept_once = rw gone (keep_conflict c.loop-i.invariant c.loop-i-test.true _ _ c.in_err-count.ensures);
      sized_after = conflict_sized c.loop-i.invariant _ _ c.in_err-count.ensures;
    }

pub loop-i-preserved : goal.loop-i-preserved
loop-i-preserved c = keep-more c.loop-i.invariant c.loop-i-test.true _ _ _ c.in_ok-count.ensures

pub returns : goal.returns
returns c =
    let l = c.loop-i.invariant in
    record { kept_once = keep-end l (omega arith); sized_after = keep_sized l }
