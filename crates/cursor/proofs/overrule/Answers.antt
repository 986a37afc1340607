-- `cursor::overrule` meets its contract, case by case.
use mathlib.Core.Path.{ap, sym, ◌∙◌}
use borrow.Author.Rules.{rules}
use borrow.Author.Tests.{not-true}
use Rattle.reception.specs.declared.Decision.TheVariants.{Answered}
use Rattle.cursor.specs.Steps.{overruled}
use Rattle.cursor.proofs.Answering.{decided-within, decided_beyond}
use Rattle.cursor.proofs.overrule.Goals as goal

pub returns-then-not-beyond : goal.returns-then-not-beyond
returns-then-not-beyond c = decided-within _ _ c.if-not-beyond.true

pub returns-in-Answered : goal.returns-in-Answered
unfolding overruled
returns-in-Answered c =
    ap Answered c.answer_at.ensures
    ∙ sym (ap (overruled c.args.beyond) c.in-Answered.is)

pub returns-in-Defer : goal.returns-in-Defer
unfolding overruled
returns-in-Defer c =
    let a = c.args in decided_beyond a.beyond a.decision _ c.if-not-beyond.false-raw c.in-Defer.is

pub returns-in-Place : goal.returns-in-Place
unfolding overruled
returns-in-Place c =
    let a = c.args in decided_beyond a.beyond a.decision _ c.if-not-beyond.false-raw c.in-Place.is

pub returns-in-Toggle : goal.returns-in-Toggle
unfolding overruled
returns-in-Toggle c =
    let a = c.args in decided_beyond a.beyond a.decision _ c.if-not-beyond.false-raw c.in-Toggle.is
