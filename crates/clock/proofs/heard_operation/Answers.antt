-- `clock::heard_operation` goes by the kind of the operation.
use Rattle.clock.proofs.heard_operation.Goals as goal

pub returns-in-Insert : goal.returns-in-Insert
returns-in-Insert c = rw (c.in-Insert.is, c.heard.ensures)
