-- `serving::sheets::count` meets its contract: what the reader refuses is refused, and what it reads is counted.
use mathlib.Core.Path.{refl, sym, ap, ◌∙◌, subst}
use Rattle.loading.specs.Filling.{Blank}
use Rattle.loading.proofs.Settling.{blank}
use Rattle.effects.specs.Results.{number_of}
use Rattle.c_calls.proofs.Refusals.{refused_alone, passed}
use Rattle.c_calls.proofs.Bridging.{counts_refused, counts_passed}
use borrow.Author.Rules.{rules}
use Rattle.serving.proofs.sheets.count.Goals as goal

pub read_into-answer-requires : goal.read_into-answer-requires
read_into-answer-requires c = subst Blank (sym c.empty-replica.ensures) (blank 0)

pub returns-in-Err : goal.returns-in-Err
returns-in-Err c =
    c.number_of_refusal.ensures
    ∙ ap number_of (sym (counts_refused _ (refused_alone _ c.read_into-answer.ensures.answer_value _ c.in-Err.is)))

pub returns-in-Ok : goal.returns-in-Ok
returns-in-Ok c =
    let z = c.read_into-answer.ensures in
    let p = passed _ z.answer_value c.in-Ok.is z.replica_after in
    c.count_in.ensures ∙ ap number_of (sym (counts_passed _ p.0 p.1))

pub count_in-requires : goal.count_in-requires
count_in-requires c = c.read_into-answer.ensures.full_after
