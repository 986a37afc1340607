-- `visible::size` meets its contract: a hidden character adds nothing.
use mathlib.Core.Path.{sym}
use borrow.Author.Tests.{eq-eqb, ne_eqb}
use Rattle.utf8.proofs.Laws.{length-encode}
use Rattle.visible.proofs.Shown.{spelt-shown, spelt-not}
use Rattle.visible.proofs.size.Goals as goal

pub returns-then-toggles-eq0 : goal.returns-then-toggles-eq0
returns-then-toggles-eq0 c =
    rw (c.encoded_length.ensures, c.printed.ensures, spelt-shown _ _ (eq-eqb _ _ c.if-toggles-eq0.true)) (sym (length-encode _))

pub returns-else-toggles-eq0 : goal.returns-else-toggles-eq0
returns-else-toggles-eq0 c = rw (spelt-not _ _ (ne_eqb _ _ c.if-toggles-eq0.false))
