-- `editing::sending::restore` meets its contract: an identifier out of range counts with what the reader refuses, refusal 1 first.
use Prim.Native.Nat.{ℕ, ◌<◌}
use native.Mathlib.Omega.{arith}
use mathlib.Core.Path.{◌≡◌, refl, sym, ap, ◌∙◌, subst}
use mathlib.Core.Bool.{Bool, true}
use mathlib.Core.Option.{some}
use borrow.Author.Tests.{not-true, not-false}
use Rattle.lists.proofs.Tests.{and_left_lem, and_right}
use Rattle.woot.specs.declared.Generated.{Generated}
use Rattle.woot.specs.Limits.{last_site, last_clock}
use Rattle.woot.specs.Ranges.{within, site_number, character_id}
use Rattle.woot.specs.Replicas.{restored}
use Rattle.convergence.proofs.Ranges.{within-high}
use Rattle.codec.proofs.Fitting.{fits_whole}
use Rattle.effects.specs.Steps.{generated_left}
use Rattle.loading.specs.Filling.{Blank}
use Rattle.loading.proofs.Settling.{blank}
use Rattle.answers.specs.Answers.{first}
use Rattle.effects.specs.Effects.{quiet, turned}
use Rattle.c_calls.specs.Calls.{input_checks, named}
use Rattle.c_calls.specs.Steps.{restoring_here}
use Rattle.c_calls.proofs.Refusals.{refused_alone, passed, refused-range}
use Rattle.effects.proofs.Outputs.{leaves_by, turned-away}
use Rattle.c_calls.proofs.Bridging.{goes_on_lem, restore_bridge}
use borrow.Author.Rules.{rules}
use Rattle.editing.proofs.sending.restore.Goals as goal

-- numbers that name a character fit its fields
named-fits : (site clock : ℕ) → character_id (named site clock) ≡ true → (site < 256) × (clock < 65536)
unfolding character_id site_number
named-fits site clock h =
    let p = within 1 last_site site in
    let q = within 1 last_clock clock in
    (omega (arith, within-high 1 last_site site (and_left_lem p q h)), omega (arith, within-high 1 last_clock clock (and_right p q h)))

pub read_into-answer-requires : goal.read_into-answer-requires
read_into-answer-requires c = subst Blank (sym c.empty-replica.ensures) (blank 0)

pub returns-then-not-names_character : goal.returns-then-not-names_character
unfolding restoring_here turned quiet
returns-then-not-names_character c =
    let s = c.args.bytes.now in
    let out_of_range = sym c.names_character.ensures ∙ c.if-not-names_character.true in
    let told = ap (λ (b : Bool). first (input_checks s true b)) out_of_range ∙ refused-range _ c.read_into-answer.ensures.answer_value ∙ ap some (sym c.first_of.ensures) in
    leaves_by (turned-away _ _ _ told) (c.number_of_refusal.ensures, refl, refl)

pub returns-in-Err : goal.returns-in-Err
unfolding restoring_here turned quiet
returns-in-Err c =
    let s = c.args.bytes.now in
    let in-range = sym c.names_character.ensures ∙ c.if-not-names_character.false in
    let told = ap (λ (b : Bool). first (input_checks s true b)) in-range ∙ refused_alone _ c.read_into-answer.ensures.answer_value _ c.in-Err.is in
    leaves_by (turned-away _ _ _ told) (c.number_of_refusal-in-Err.ensures, refl, refl)

pub returns-in-Ok : goal.returns-in-Ok
unfolding restoring_here
returns-in-Ok c =
    let a = c.args in
    let z = c.read_into-answer.ensures in
    let in-range = sym c.names_character.ensures ∙ c.if-not-names_character.false in
    let p = passed _ z.answer_value c.in-Ok.is z.replica_after in
    let fit = named-fits _ _ in-range in
    let id = fits_whole c.identifier-id.ensures fit.0 fit.1 in
    leaves_by
    (goes_on_lem _ _ _ (ap (λ (b : Bool). first (input_checks a.bytes.now true b)) in-range ∙ p.0) ∙ restore_bridge _ _ p.1 _ _ _ in-range ∙ ap (λ (x : Generated). generated_left x a.out.now a.line_out.now) (ap (restored _) (sym id)))
    c.restore.ensures.value

pub restore-requires : goal.restore-requires
restore-requires c = c.read_into-answer.ensures.full_after
