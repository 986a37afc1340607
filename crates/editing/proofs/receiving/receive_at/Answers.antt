-- `editing::receiving::receive_at` meets its contract: of what the two readers refuse refusal 1 is told first, and what both read is received.
use mathlib.Core.Path.{refl, sym, ap, ◌∙◌, subst}
use mathlib.Core.Option.{some}
use Rattle.loading.specs.Filling.{Blank}
use Rattle.loading.proofs.Settling.{blank}
use Rattle.woot.specs.declared.ReceiptAt.{ReceiptAt}
use Rattle.effects.specs.Effects.{quiet, turned}
use Rattle.effects.specs.Steps.{receipt_at_left}
use Rattle.c_calls.specs.Steps.{receiving_line_at}
use Rattle.c_calls.proofs.Refusals.{refused_line, refused-beside, passed-beside}
use Rattle.effects.proofs.Outputs.{leaves_by, turned-away}
use Rattle.c_calls.proofs.Bridging.{goes_on_lem, receive_bridge}
use borrow.Author.Rules.{rules}
use Rattle.editing.proofs.receiving.receive_at.Goals as goal

pub read_into-answer-requires : goal.read_into-answer-requires
read_into-answer-requires c = subst Blank (sym c.empty-replica.ensures) (blank 0)

pub returns-in-Err : goal.returns-in-Err
unfolding receiving_line_at turned quiet
returns-in-Err c =
    let read = sym c.read_one-said.ensures ∙ c.in-Err.is in
    let first = refused_line _ c.read_into-answer.ensures.answer_value _ _ _ read ∙ ap some (sym c.first_of.ensures) in
    leaves_by (turned-away _ _ _ first) (c.number_of_refusal.ensures, refl, refl)

pub returns-in-Err-answer : goal.returns-in-Err-answer
unfolding receiving_line_at turned quiet
returns-in-Err-answer c =
    let read = sym c.read_one-said.ensures ∙ c.in-Ok.is in
    let first = refused-beside _ c.read_into-answer.ensures.answer_value _ _ _ read c.in-Err-answer.is in
    leaves_by (turned-away _ _ _ first) (c.number_of_refusal-in-Err-answer.ensures, refl, refl)

pub returns-in-Ok-answer : goal.returns-in-Ok-answer
unfolding receiving_line_at
returns-in-Ok-answer c =
    let out = c.args.out.now in
    let z = c.read_into-answer.ensures in
    let read = sym c.read_one-said.ensures ∙ c.in-Ok.is in
    let p = passed-beside _ z.answer_value c.in-Ok-answer.is z.replica_after _ _ _ _ read in
    leaves_by (goes_on_lem _ _ _ p.0 ∙ receive_bridge _ _ p.3 out _ _ p.1 ∙ ap (λ (x : ReceiptAt). receipt_at_left x out) p.2) c.receive_at.ensures.value

pub receive_at-requires : goal.receive_at-requires
receive_at-requires c = c.read_into-answer.ensures.full_after
