-- `serving::exchange::list` meets its contract: what the reader refuses is refused, and what it reads is listed.
use mathlib.Core.Path.{refl, sym, ap, ◌∙◌, subst}
use mathlib.Core.List.{[]}
use Rattle.loading.specs.Filling.{Blank}
use Rattle.loading.proofs.Settling.{blank}
use Rattle.answers.specs.declared.Answer.TheVariants.{Done}
use Rattle.woot.specs.Writing.{Written}
use Rattle.effects.specs.Results.{number_of}
use Rattle.effects.specs.Effects.{quiet, turned}
use Rattle.effects.specs.Steps.{after_writing}
use Rattle.c_calls.specs.Steps.{listing_here}
use Rattle.c_calls.proofs.Refusals.{refused_alone, passed}
use Rattle.effects.proofs.Outputs.{leaves_by, turned-away}
use Rattle.c_calls.proofs.Bridging.{goes_on_lem}
use Rattle.c_calls.proofs.Caught.{list_bridge}
use borrow.Author.Rules.{rules}
use Rattle.serving.proofs.exchange.list.Goals as goal

pub read_into-answer-requires : goal.read_into-answer-requires
read_into-answer-requires c = subst Blank (sym c.empty-replica.ensures) (blank 0)

pub returns-in-Err : goal.returns-in-Err
unfolding listing_here turned quiet
returns-in-Err c =
    leaves_by (turned-away _ _ _ (refused_alone _ c.read_into-answer.ensures.answer_value _ c.in-Err.is)) (c.number_of_refusal.ensures, refl, refl)

pub returns-in-Ok : goal.returns-in-Ok
unfolding listing_here
returns-in-Ok c =
    let out = c.args.out.now in
    let z = c.read_into-answer.ensures in
    let p = passed _ z.answer_value c.in-Ok.is z.replica_after in
    let t = c.list_in.ensures in
    leaves_by (goes_on_lem out [] _ p.0 ∙ list_bridge _ _ p.1 out)
    (c.written.ensures ∙ ap (λ (w : Written). number_of (after_writing (Done 0 0) w)) t.value, t.out_after, refl)

pub list_in-requires : goal.list_in-requires
list_in-requires c = c.read_into-answer.ensures.full_after
