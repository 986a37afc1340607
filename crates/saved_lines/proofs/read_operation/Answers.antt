-- `saved_lines::read_operation` meets its contract: what `codec` answers is the operation, refusal 2 or refusal 1.
use Rattle.std.proofs.Common.{rules, sym, ◌∙◌}
use Rattle.saved_lines.proofs.Judging.{operation_done, operation_range, operation_layout}
use Rattle.saved_lines.proofs.read_operation.Goals as goal

pub returns-in-Ok : goal.returns-in-Ok
returns-in-Ok c = operation_done _ c.args.line.now _ (sym c.read_pending.ensures ∙ c.in-Ok.is)

pub returns-in-Err-Range : goal.returns-in-Err-Range
returns-in-Err-Range c =
    operation_range _ c.args.line.now _ (sym c.read_pending.ensures ∙ c.in-Err-Range.is) (search rules)

pub returns-in-Err : goal.returns-in-Err
returns-in-Err c = operation_layout _ c.args.line.now _ (sym c.read_pending.ensures ∙ c.in-Err.is) (search rules)
