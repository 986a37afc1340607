-- `editing::sending::delete` meets its contract: what the reader refuses is refused, and in what it reads a character is deleted.
use mathlib.Core.Path.{refl, sym, ◌∙◌, subst}
use Rattle.loading.specs.Filling.{Blank}
use Rattle.loading.proofs.Settling.{blank}
use Rattle.effects.specs.Effects.{quiet, turned}
use Rattle.c_calls.specs.Steps.{deleting_here}
use Rattle.c_calls.proofs.Refusals.{refused_alone, passed}
use Rattle.effects.proofs.Outputs.{leaves_by, turned-away}
use Rattle.c_calls.proofs.Bridging.{goes_on_lem, erase_bridge}
use borrow.Author.Rules.{rules}
use Rattle.editing.proofs.sending.delete.Goals as goal

pub read_into-answer-requires : goal.read_into-answer-requires
read_into-answer-requires c = subst Blank (sym c.empty-replica.ensures) (blank 0)

pub returns-in-Err : goal.returns-in-Err
unfolding deleting_here turned quiet
returns-in-Err c =
    leaves_by (turned-away _ _ _ (refused_alone _ c.read_into-answer.ensures.answer_value _ c.in-Err.is)) (c.number_of_refusal.ensures, refl, refl)

pub returns-in-Ok : goal.returns-in-Ok
unfolding deleting_here
returns-in-Ok c =
    let z = c.read_into-answer.ensures in
    let p = passed _ z.answer_value c.in-Ok.is z.replica_after in
    leaves_by (goes_on_lem _ _ _ p.0 ∙ erase_bridge _ _ p.1 _ _ _) c.delete.ensures.value

pub delete-requires : goal.delete-requires
delete-requires c = c.read_into-answer.ensures.full_after
