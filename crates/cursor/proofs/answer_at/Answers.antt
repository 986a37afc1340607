-- `cursor::answer_at` meets its contract, case by case.
use mathlib.Core.Path.{ap, ◌∙◌}
use borrow.Author.Rules.{rules}
use borrow.Author.Tests.{not-true}
use Rattle.answers.specs.declared.Answer.TheVariants.{Refused}
use Rattle.cursor.specs.Steps.{answer_at}
use Rattle.cursor.proofs.Answering.{at-within, at_beyond}
use Rattle.cursor.proofs.answer_at.Goals as goal

pub returns-then-not-beyond : goal.returns-then-not-beyond
returns-then-not-beyond c = at-within _ _ c.if-not-beyond.true

pub returns-in-Done : goal.returns-in-Done
unfolding answer_at
returns-in-Done c = let a = c.args in at_beyond a.beyond a.answer _ c.if-not-beyond.false-raw c.in-Done.is

pub returns-in-Deferred : goal.returns-in-Deferred
unfolding answer_at
returns-in-Deferred c = let a = c.args in at_beyond a.beyond a.answer _ c.if-not-beyond.false-raw c.in-Deferred.is

pub returns-in-Duplicate : goal.returns-in-Duplicate
unfolding answer_at
returns-in-Duplicate c =
    let a = c.args in at_beyond a.beyond a.answer _ c.if-not-beyond.false-raw c.in-Duplicate.is

pub returns-in-Refused : goal.returns-in-Refused
unfolding answer_at
returns-in-Refused c =
    let a = c.args in
    ap Refused c.earlier.ensures ∙ at_beyond a.beyond a.answer _ c.if-not-beyond.false-raw c.in-Refused.is
