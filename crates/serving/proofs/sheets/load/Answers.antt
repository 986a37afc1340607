-- `serving::sheets::load` meets its contract: what the reader refuses is refused, and what it reads goes by the rule.
use mathlib.Core.Path.{refl, sym, ◌∙◌, subst}
use mathlib.Core.List.{[]}
use Rattle.loading.specs.Filling.{Blank}
use Rattle.loading.proofs.Settling.{blank}
use Rattle.effects.specs.Effects.{quiet, turned}
use Rattle.c_calls.specs.Steps.{loading_here}
use Rattle.c_calls.proofs.Refusals.{refused_alone, passed}
use Rattle.effects.proofs.Outputs.{leaves_by, turned-away}
use Rattle.c_calls.proofs.Bridging.{goes_on_lem}
use Rattle.c_calls.proofs.Loaded.{load_bridge}
use borrow.Author.Rules.{rules}
use Rattle.serving.proofs.sheets.load.Goals as goal

pub read_into-answer-requires : goal.read_into-answer-requires
read_into-answer-requires c = subst Blank (sym c.empty-replica.ensures) (blank 0)

pub returns-in-Err : goal.returns-in-Err
unfolding loading_here turned quiet
returns-in-Err c =
    leaves_by (turned-away _ _ _ (refused_alone _ c.read_into-answer.ensures.answer_value _ c.in-Err.is)) (c.number_of_refusal.ensures, refl, refl)

pub returns-in-Ok : goal.returns-in-Ok
unfolding loading_here
returns-in-Ok c =
    let out = c.args.out.now in
    let z = c.read_into-answer.ensures in
    let p = passed _ z.answer_value c.in-Ok.is z.replica_after in
    leaves_by (goes_on_lem out [] _ p.0 ∙ load_bridge _ _ p.1 out) c.save_admitted_in.ensures

pub save_admitted_in-requires : goal.save_admitted_in-requires
save_admitted_in-requires c = c.read_into-answer.ensures.full_after
