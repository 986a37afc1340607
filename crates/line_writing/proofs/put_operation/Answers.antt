-- `line_writing::put_operation` meets its contract: the arm knows the variant, and the definition goes by it.
use mathlib.Core.Path.{sym, ap, ◌∙◌}
use borrow.Author.Rules.{rules}
use Rattle.output.specs.Output.{placed, past}
use Rattle.lines.specs.Fields.{line_of}
use Rattle.lines.specs.Room.{room_for}
use Rattle.codec.specs.Operations.{insert_head, toggle_head, operation_line}
use Rattle.line_writing.proofs.put_operation.Goals as goal

pub returns-in-Insert : goal.returns-in-Insert
unfolding operation_line
returns-in-Insert c =
    let p = c.put_line.ensures in
    let e = ap (line_of insert_head) c.insert_numbers-numbers.ensures ∙ sym (ap operation_line c.in-Insert.is) in
    record {
      value = p.value ∙ ap (past _ _) e;
      out_after = p.out_after ∙ ap (placed _ _) e;
    }

pub returns-in-Toggle : goal.returns-in-Toggle
unfolding operation_line
returns-in-Toggle c =
    let p = c.put_line-in-Toggle.ensures in
    let e = ap (line_of toggle_head) c.toggle_numbers-numbers.ensures ∙ sym (ap operation_line c.in-Toggle.is) in
    record {
      value = p.value ∙ ap (past _ _) e;
      out_after = p.out_after ∙ ap (placed _ _) e;
    }
