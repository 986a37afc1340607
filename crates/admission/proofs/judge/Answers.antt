-- `judge` meets its contract: its two tests say which of the three answers it is.
use mathlib.Core.Path.{◌≡◌, sym, ap, ◌∙◌}
use mathlib.Core.Bool.{true}
use Rattle.lists.proofs.Tests.{failed, passed}
use Rattle.woot.specs.State.{State}
use Rattle.bulk.specs.Loading.{loadable}
use Rattle.woot.specs.Memory.{meaning, replica_well_formed}
use Rattle.convergence.proofs.Soundness.{standing}
use Rattle.memory.specs.Columns as columns
use Rattle.memory.specs.Lent.{viewed}
use Rattle.memory.proofs.Fullness.{full-view}
use Rattle.memory.proofs.Views.{form_view, meaning-view}
use Rattle.well_formed.specs.Examined.{Examined}
use Rattle.well_formed.proofs.Examining.{examined, few, form, small, ids_used, previous_used, next_used}
use Rattle.well_formed.proofs.Examining.{examined_tabled}
use Rattle.admission.specs.declared.Admitted.{Admitted}
use Rattle.admission.proofs.Answering.{admitted_unformed, admitted_unreachable, admitted_done}
use borrow.Author.Rules.{rules}
use Rattle.admission.proofs.judge.Goals.{After-can_be_made, Else-not-is_well_formed}
use Rattle.admission.proofs.judge.Goals as goal

formed : (c : Else-not-is_well_formed) → replica_well_formed c.args.replica.now ≡ true
formed c = passed (c.is_well_formed.ensures ∙ sym (form_view c.args.replica.now)) c.if-not-is_well_formed.false-raw

looked : (c : Else-not-is_well_formed) → Examined (viewed c.args.replica.now)
looked c =
    let r = c.args.replica.now in
    examined (viewed r) (full-view r.document c.requires) (sym (form_view r) ∙ formed c)

-- the test of the rows
made : (c : After-can_be_made) → c.can_be_made.result ≡ loadable (meaning c.args.replica.now).characters
made c =
    let r = c.args.replica.now in
    let x = examined (viewed r) (full-view r.document c.requires) (passed c.is_well_formed.ensures c.if-not-is_well_formed.false-raw) in
    c.can_be_made.ensures (columns.meaning (viewed r)).characters (standing (form (viewed r) x).sound)
    (small (viewed r) x) (ids_used (viewed r) x) (previous_used (viewed r) x) (next_used (viewed r) x)
    ∙ sym (ap (λ (s : State). loadable s.characters) (meaning-view r))

pub returns-then-not-is_well_formed : goal.returns-then-not-is_well_formed
returns-then-not-is_well_formed c =
    let r = c.args.replica.now in
    ap (λ (x : Admitted). x.answer)
    (admitted_unformed r (failed (c.is_well_formed.ensures ∙ sym (form_view r)) c.if-not-is_well_formed.true-raw))

pub can_be_made-requires : goal.can_be_made-requires
can_be_made-requires c =
    let x = looked (goal.at.can_be_made-requires c).Else-not-is_well_formed in
    record {
      characters_len = c.requires.characters;
      n_le_character_slots = (few _ x).characters;
      tabled = examined_tabled _ x;
    }

pub returns-then-not-can_be_made : goal.returns-then-not-can_be_made
returns-then-not-can_be_made c =
    ap (λ (x : Admitted). x.answer)
    (admitted_unreachable c.args.replica.now (formed (goal.at.returns-then-not-can_be_made c).Else-not-is_well_formed)
    (failed (made (goal.at.returns-then-not-can_be_made c).After-can_be_made) c.if-not-can_be_made.true-raw))

pub returns : goal.returns
returns c =
    ap (λ (x : Admitted). x.answer)
    (admitted_done c.args.replica.now (formed (goal.at.returns c).Else-not-is_well_formed)
    (passed (made (goal.at.returns c).After-can_be_made) c.if-not-can_be_made.false-raw))
