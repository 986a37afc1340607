-- `serving::exchange::answer` meets its contract: where the reader refuses, the earlier refusal is told, and what it
-- reads answers the list.
use mathlib.Core.Path.{refl, sym, ap, ◌∙◌, subst}
use mathlib.Core.Option.{some}
use mathlib.Core.List.{[]}
use Rattle.loading.specs.Filling.{Blank}
use Rattle.loading.proofs.Settling.{blank}
use Rattle.answers.specs.declared.Answer.TheVariants.{Done}
use Rattle.woot.specs.Writing.{Written}
use Rattle.effects.specs.Results.{number_of}
use Rattle.effects.specs.Effects.{quiet, turned}
use Rattle.effects.specs.Steps.{after_writing}
use Rattle.c_calls.specs.Steps.{answering_here}
use Rattle.c_calls.proofs.Refusals.{passed}
use Rattle.effects.proofs.Outputs.{leaves_by, turned-away}
use Rattle.c_calls.proofs.Bridging.{goes_on_lem}
use Rattle.c_calls.proofs.Caught.{answer-passed, answer-refused, answer_bridge}
use borrow.Author.Rules.{rules}
use Rattle.serving.proofs.exchange.answer.Goals as goal

pub read_into-answer-requires : goal.read_into-answer-requires
read_into-answer-requires c = subst Blank (sym c.empty-replica.ensures) (blank 0)

pub returns-in-Err : goal.returns-in-Err
unfolding answering_here turned quiet
returns-in-Err c =
    let first = sym c.first_beside-earlier.ensures in
    leaves_by (turned-away _ _ _ (answer-refused _ c.read_into-answer.ensures.answer_value _ _ c.in-Err.is ∙ ap some first))
    (c.number_of_refusal.ensures, refl, refl)

pub returns-in-Ok : goal.returns-in-Ok
unfolding answering_here
returns-in-Ok c =
    let out = c.args.out.now in
    let z = c.read_into-answer.ensures in
    let told = c.in-Ok.is in
    let p = passed _ z.answer_value told z.replica_after in
    let t = c.answer_in.ensures in
    leaves_by (goes_on_lem out [] _ (answer-passed _ z.answer_value _ told) ∙ answer_bridge _ _ p.1 out _)
    (c.written.ensures ∙ ap (λ (w : Written). number_of (after_writing (Done 0 0) w)) t.value, t.out_after, refl)

pub answer_in-requires : goal.answer_in-requires
answer_in-requires c = c.read_into-answer.ensures.full_after
