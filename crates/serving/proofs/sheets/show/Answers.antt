-- `serving::sheets::show` meets its contract: what the reader refuses is refused, and what it reads is shown.
use mathlib.Core.Path.{refl, sym, ◌∙◌, subst}
use mathlib.Core.List.{[]}
use Rattle.loading.specs.Filling.{Blank}
use Rattle.loading.proofs.Settling.{blank}
use Rattle.effects.specs.Effects.{quiet, turned}
use Rattle.c_calls.specs.Steps.{showing_text}
use Rattle.c_calls.proofs.Refusals.{refused_alone, passed}
use Rattle.effects.proofs.Outputs.{leaves_by, turned-away}
use Rattle.c_calls.proofs.Bridging.{goes_on_lem, text_bridge}
use borrow.Author.Rules.{rules}
use Rattle.serving.proofs.sheets.show.Goals as goal

pub read_into-answer-requires : goal.read_into-answer-requires
read_into-answer-requires c = subst Blank (sym c.empty-replica.ensures) (blank 0)

pub returns-in-Err : goal.returns-in-Err
unfolding showing_text turned quiet
returns-in-Err c =
    leaves_by (turned-away _ _ _ (refused_alone _ c.read_into-answer.ensures.answer_value _ c.in-Err.is)) (c.number_of_refusal.ensures, refl, refl)

pub returns-in-Ok : goal.returns-in-Ok
unfolding showing_text
returns-in-Ok c =
    let out = c.args.out.now in
    let z = c.read_into-answer.ensures in
    let p = passed _ z.answer_value c.in-Ok.is z.replica_after in
    leaves_by (goes_on_lem out [] _ p.0 ∙ text_bridge _ _ p.1 out) c.show_in.ensures

pub show_in-requires : goal.show_in-requires
show_in-requires c = c.read_into-answer.ensures.full_after
