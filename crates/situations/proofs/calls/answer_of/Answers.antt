-- `situations::calls::answer_of` meets its contract: each case is one of the definition's.
use borrow.Author.Rules.{rules}
use Rattle.woot.specs.Sending.{answer_of}
use Rattle.situations.proofs.calls.answer_of.Goals as goal

pub returns-in-Ok : goal.returns-in-Ok
unfolding answer_of
returns-in-Ok c = rw c.in-Ok.is

pub returns-in-Err : goal.returns-in-Err
unfolding answer_of
returns-in-Err c = rw c.in-Err.is
