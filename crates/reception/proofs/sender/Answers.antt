-- `sender` goes by the kind of the operation.
use Rattle.woot.specs.Operations.{sender}
use borrow.Author.Rules.{rules}
use Rattle.reception.proofs.sender.Goals as goal

pub returns-in-Insert : goal.returns-in-Insert
unfolding sender
returns-in-Insert c = rw c.in-Insert.is

pub returns-in-Toggle : goal.returns-in-Toggle
unfolding sender
returns-in-Toggle c = rw c.in-Toggle.is
