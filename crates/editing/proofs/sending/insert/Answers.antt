-- `editing::sending::insert` meets its contract: a code point out of range counts with what the reader refuses, refusal 1 first.
use mathlib.Core.Path.{refl, sym, ap, ◌∙◌, subst}
use mathlib.Core.Bool.{Bool, true}
use mathlib.Core.Option.{some}
use borrow.Author.Tests.{not-true, not-false}
use Rattle.loading.specs.Filling.{Blank}
use Rattle.loading.proofs.Settling.{blank}
use Rattle.answers.specs.Answers.{first}
use Rattle.effects.specs.Effects.{quiet, turned}
use Rattle.c_calls.specs.Calls.{input_checks}
use Rattle.c_calls.specs.Steps.{inserting_here}
use Rattle.c_calls.proofs.Refusals.{refused_alone, passed, refused-range}
use Rattle.effects.proofs.Outputs.{leaves_by, turned-away}
use Rattle.c_calls.proofs.Bridging.{goes_on_lem, type_bridge}
use borrow.Author.Rules.{rules}
use Rattle.editing.proofs.sending.insert.Goals as goal

pub read_into-answer-requires : goal.read_into-answer-requires
read_into-answer-requires c = subst Blank (sym c.empty-replica.ensures) (blank 0)

pub returns-then-not-code_point : goal.returns-then-not-code_point
unfolding inserting_here turned quiet
returns-then-not-code_point c =
    let s = c.args.bytes.now in
    let out_of_range = sym c.code_point.ensures ∙ c.if-not-code_point.true in
    let told = ap (λ (b : Bool). first (input_checks s true b)) out_of_range ∙ refused-range _ c.read_into-answer.ensures.answer_value ∙ ap some (sym c.first_of.ensures) in
    leaves_by (turned-away _ _ _ told) (c.number_of_refusal.ensures, refl, refl)

pub returns-in-Err : goal.returns-in-Err
unfolding inserting_here turned quiet
returns-in-Err c =
    let s = c.args.bytes.now in
    let in-range = sym c.code_point.ensures ∙ c.if-not-code_point.false in
    let told = ap (λ (b : Bool). first (input_checks s true b)) in-range ∙ refused_alone _ c.read_into-answer.ensures.answer_value _ c.in-Err.is in
    leaves_by (turned-away _ _ _ told) (c.number_of_refusal-in-Err.ensures, refl, refl)

pub returns-in-Ok : goal.returns-in-Ok
unfolding inserting_here
returns-in-Ok c =
    let a = c.args in
    let z = c.read_into-answer.ensures in
    let in-range = sym c.code_point.ensures ∙ c.if-not-code_point.false in
    let p = passed _ z.answer_value c.in-Ok.is z.replica_after in
    leaves_by (goes_on_lem _ _ _ (ap (λ (b : Bool). first (input_checks a.bytes.now true b)) in-range ∙ p.0) ∙ type_bridge _ _ p.1 _ _ _ _ in-range)
    c.insert.ensures.value

pub insert-requires : goal.insert-requires
insert-requires c = c.read_into-answer.ensures.full_after
