-- `line_writing::measure` meets its contract: the arm knows the variant, and the definition goes by it.
use mathlib.Core.Path.{sym, ap, ◌∙◌}
use borrow.Author.Rules.{rules}
use Rattle.output.specs.Output.{placed, past}
use Rattle.lines.specs.Fields.{line_of}
use Rattle.lines.specs.Room.{room_for}
use Rattle.codec.specs.Operations.{insert_head, toggle_head, operation_line}
use Rattle.line_writing.proofs.measure.Goals as goal

pub returns-in-Insert : goal.returns-in-Insert
unfolding operation_line
returns-in-Insert c =
    let e = ap (line_of insert_head) c.insert_numbers-numbers.ensures ∙ sym (ap operation_line c.in-Insert.is) in
    c.measure.ensures ∙ ap (room_for _ _) e

pub returns-in-Toggle : goal.returns-in-Toggle
unfolding operation_line
returns-in-Toggle c =
    let e = ap (line_of toggle_head) c.toggle_numbers-numbers.ensures ∙ sym (ap operation_line c.in-Toggle.is) in
    c.measure-in-Toggle.ensures ∙ ap (room_for _ _) e
