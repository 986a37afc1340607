-- `visible::put_visible` meets its contract: a hidden character leaves the slice and the offset.
use mathlib.Core.Path.{sym}
use borrow.Author.Tests.{eq-eqb, ne_eqb}
use Rattle.visible.proofs.Texts.{placed-none, past-none}
use Rattle.visible.proofs.Shown.{spelt-shown, spelt-not}
use Rattle.visible.proofs.put_visible.Goals as goal

pub returns-then-toggles-eq0 : goal.returns-then-toggles-eq0
returns-then-toggles-eq0 c =
    let w = c.write.ensures in
    record {
      value = rw (spelt-shown _ _ (eq-eqb _ _ c.if-toggles-eq0.true), ← c.printed.ensures) w.0;
      out_after = rw (spelt-shown _ _ (eq-eqb _ _ c.if-toggles-eq0.true), ← c.printed.ensures) w.1;
    }

pub returns-else-toggles-eq0 : goal.returns-else-toggles-eq0
returns-else-toggles-eq0 c =
    record {
      value = rw (spelt-not _ _ (ne_eqb _ _ c.if-toggles-eq0.false)) (sym (past-none _ _));
      out_after = rw (spelt-not _ _ (ne_eqb _ _ c.if-toggles-eq0.false)) (sym (placed-none _ _));
    }
