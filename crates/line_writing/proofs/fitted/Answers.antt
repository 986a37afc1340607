-- `line_writing::fitted` meets its contract: each arm is one of the two answers.
use borrow.Author.Tests.{eq-eqb, ne_eqb}
use Rattle.line_writing.proofs.fitted.Goals as goal

pub returns-then-past-eq0 : goal.returns-then-past-eq0
returns-then-past-eq0 c = rw (eq-eqb c.args.past 0 c.if-past-eq0.true)

pub returns : goal.returns
returns c = rw (ne_eqb c.args.past 0 c.if-past-eq0.false)
