-- `holder::compared` goes by the test of the numbers in the slot.
use mathlib.Core.Path.{sym, ◌∙◌}
use Rattle.holder.specs.Holder.{compared_to}
use Rattle.holder.proofs.Comparing.{in-columns}
use borrow.Author.Rules.{rules}
use Rattle.holder.proofs.compared.Goals as goal

pub returns-then-same_insert : goal.returns-then-same_insert
unfolding compared_to
returns-then-same_insert c =
    rw (in-columns _ _ _ c.requires.k_lt_slots, sym c.same_insert.ensures ∙ c.if-same_insert.true)

pub returns : goal.returns
unfolding compared_to
returns c =
    rw (in-columns _ _ _ c.requires.k_lt_slots, sym c.same_insert.ensures ∙ c.if-same_insert.false)
