-- `transcript::answer_line` meets its contract: the arm knows what was read, and the definition goes by it.
use borrow.Author.Rules.{rules}
use Rattle.transcript.specs.Calls.{received_as, received_line}
use Rattle.transcript.proofs.answer_line.Goals as goal

pub returns-in-Ok : goal.returns-in-Ok
unfolding received_line received_as
returns-in-Ok c = rw (← c.read_operation.ensures, c.in-Ok.is) c.receive.ensures

pub returns-in-Err : goal.returns-in-Err
unfolding received_line received_as
returns-in-Err c = rw (← c.read_operation.ensures, c.in-Err.is)
