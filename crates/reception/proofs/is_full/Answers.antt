-- `is_full` goes by the kind of the operation.
use Rattle.reception.specs.Decisions.{full_in, full_with}
use borrow.Author.Rules.{rules}
use Rattle.reception.proofs.is_full.Goals as goal

pub returns-in-Insert : goal.returns-in-Insert
unfolding full_in full_with
returns-in-Insert c = rw c.in-Insert.is c.document_full.ensures

pub returns-in-Toggle : goal.returns-in-Toggle
unfolding full_with
returns-in-Toggle c = rw c.in-Toggle.is
