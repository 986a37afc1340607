-- `saved_lines::read_pending` meets its contract, form by form.
use Rattle.codec.specs.Calls.{read_written, read_written_first}
use Rattle.saved.specs.Format.{is_operation, operation_said}
use Rattle.saved_lines.specs.Judging.{pending_read}
use Rattle.saved_lines.proofs.read_pending.Goals as goal

pub returns-in-First : goal.returns-in-First
unfolding pending_read read_written_first is_operation operation_said
returns-in-First c = rw c.in-First.is c.read_written_first.ensures

pub returns-in-Second : goal.returns-in-Second
unfolding pending_read read_written is_operation operation_said
returns-in-Second c = rw c.in-Second.is c.read_written.ensures
