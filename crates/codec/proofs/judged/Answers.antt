-- `codec::judged` meets its contract: its numbers are taken, and the range alone is left.
use Rattle.std.proofs.Common.{rules, ◌≡◌, sym, ◌∙◌, Ok}
use Rattle.codec.proofs.Judging.{made_range, made_operation}
use Rattle.codec.proofs.judged.Goals as goal

pub returns-then-in_range : goal.returns-then-in_range
returns-then-in_range c =
    let taken : c.args.numbers ≡ Ok c.in_ok-values.values = search rules in
    rw taken (made_operation c.operation_of-operation.ensures (sym c.in_range.ensures ∙ c.if-in_range.true))

pub returns : goal.returns
returns c =
    let taken : c.args.numbers ≡ Ok c.in_ok-values.values = search rules in
    rw taken (made_range c.operation_of-operation.ensures (sym c.in_range.ensures ∙ c.if-in_range.false))
