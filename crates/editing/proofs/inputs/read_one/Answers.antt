-- `editing::inputs::read_one` meets its contract: bytes that follow are a fault of the layout.
use mathlib.Core.Path.{sym, ap, ◌∙◌}
use lib.ListN.{length}
use Rattle.c_calls.proofs.Refusals.{followed, sole}
use borrow.Author.Rules.{rules}
use Rattle.editing.proofs.inputs.read_one.Goals as goal

pub returns-then-after-ne0 : goal.returns-then-after-ne0
returns-then-after-ne0 c = sym (followed _ (λ e. c.if-after-ne0.true (ap length c.rest-after.ensures ∙ e)))

pub returns : goal.returns
returns c =
    let none = sym (ap length c.rest-after.ensures) ∙ c.if-after-ne0.false in
    c.read_operation.ensures ∙ sym (sole _ none)
