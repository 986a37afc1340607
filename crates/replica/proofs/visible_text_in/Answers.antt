-- `replica::visible_text_in` looks at the form first, and then at the text's length.
use Rattle.std.proofs.Common.{◌≡◌, sym, ◌∙◌, true}
use Rattle.lists.proofs.Tests.{failed, passed}
use Rattle.woot.specs.Memory.{replica_well_formed}
use Rattle.memory.specs.Lent.{viewed}
use Rattle.memory.proofs.Fullness.{full-view}
use Rattle.memory.proofs.Views.{form_view}
use Rattle.well_formed.specs.Examined.{Examined}
use Rattle.well_formed.proofs.Examining.{examined, few}
use Rattle.replica.proofs.Writing.{unformed_text, formed-text, written-points, written-toggles}
use Rattle.replica.proofs.visible_text_in.Goals.{Else-not-is_well_formed}
use Rattle.replica.proofs.visible_text_in.Goals as goal

formed : (c : Else-not-is_well_formed) → replica_well_formed c.args.replica.now ≡ true
formed c = passed (c.is_well_formed.ensures ∙ sym (form_view c.args.replica.now)) c.if-not-is_well_formed.false-raw

looked : (c : Else-not-is_well_formed) → Examined (viewed c.args.replica.now)
looked c =
    let r = c.args.replica.now in
    examined (viewed r) (full-view r.document c.requires) (sym (form_view r) ∙ formed c)

pub returns-then-not-is_well_formed : goal.returns-then-not-is_well_formed
returns-then-not-is_well_formed c =
    let r = c.args.replica.now in
    let all = unformed_text r _ (failed (c.is_well_formed.ensures ∙ sym (form_view r)) c.if-not-is_well_formed.true-raw) in
    record { value = all.0; out_after = all.1 }

pub write_text-requires : goal.write_text-requires
write_text-requires c =
    record {
      characters_len = c.requires.characters;
      toggles_len = c.requires.toggles;
      n_le_character_slots = (few _ (looked (goal.at.write_text-requires c).Else-not-is_well_formed)).characters;
    }

pub returns : goal.returns
returns c =
    let r = c.args.replica.now in
    let x = looked (goal.at.returns c).Else-not-is_well_formed in
    let t = formed-text r _ (formed (goal.at.returns c).Else-not-is_well_formed) in
    let w = c.write_text.ensures in
    record {
      value = w.value _ (written-points r x) (written-toggles r x) ∙ t.0;
      out_after = w.out_after _ (written-points r x) (written-toggles r x) ∙ t.1;
    }
