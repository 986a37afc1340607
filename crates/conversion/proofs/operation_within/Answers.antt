-- `conversion::operation_within` meets its contract: a toggle is known by its own key, which is 0.
use borrow.Author.Tests.{eq-eqb, ne_eqb}
use Rattle.conversion.specs.Columns.{numbers_within}
use Rattle.conversion.proofs.operation_within.Goals as goal

pub returns-then-own-ne0 : goal.returns-then-own-ne0
unfolding numbers_within
returns-then-own-ne0 c = rw (ne_eqb _ 0 c.if-own-ne0.true)

pub returns-else-own-ne0 : goal.returns-else-own-ne0
unfolding numbers_within
returns-else-own-ne0 c = rw (eq-eqb _ 0 c.if-own-ne0.false)
