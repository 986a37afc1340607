-- `absent` looks for an equal toggle, and puts it off where there is none.
use mathlib.Core.Path.{sym, ◌∙◌}
use Rattle.reception.specs.Decisions.{absent_in}
use borrow.Author.Rules.{rules}
use Rattle.reception.proofs.absent.Goals as goal

pub returns-then-is_pending : goal.returns-then-is_pending
unfolding absent_in
returns-then-is_pending c = rw (sym c.is_pending.ensures ∙ c.if-is_pending.true)

pub returns : goal.returns
unfolding absent_in
returns c = rw (sym c.is_pending.ensures ∙ c.if-is_pending.false) c.lacking.ensures
