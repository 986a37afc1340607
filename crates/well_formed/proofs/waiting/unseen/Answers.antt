-- `waiting::unseen` meets its contract: what is found tells whether a key has a place.
use mathlib.Core.Path.{sym, ◌∙◌}
use borrow.Author.Tests.{eq-eqb}
use Rattle.well_formed.specs.PendingForm.{unheld_key}
use Rattle.well_formed.proofs.Seen.{end-held, found-held, nothing_unheld}
use Rattle.well_formed.proofs.waiting.unseen.Goals as goal

pub returns-then-key-eq0 : goal.returns-then-key-eq0
unfolding unheld_key
returns-then-key-eq0 c = rw (eq-eqb _ 0 c.if-key-eq0.true)

pub returns-then-key-eq1 : goal.returns-then-key-eq1
returns-then-key-eq1 c = sym (end-held _ _ c.if-key-eq1.true)

pub returns-in-Some : goal.returns-in-Some
returns-in-Some c = sym (found-held _ _ _ c.if-key-eq0.false (sym c.find.ensures ∙ c.in-Some.is))

pub returns-in-None : goal.returns-in-None
returns-in-None c =
    sym (nothing_unheld _ _ c.if-key-eq0.false c.if-key-eq1.false
    (sym c.find.ensures ∙ c.in-None.is))
