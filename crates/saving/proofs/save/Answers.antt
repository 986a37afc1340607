-- `saving::save` meets its contract: the check of the form, and then the room alone.
use Rattle.std.proofs.Common.{sym, ◌∙◌, arith}
use Rattle.lists.proofs.Tests.{failed, passed}
use Rattle.memory.specs.Lent.{viewed}
use Rattle.memory.proofs.Fullness.{full-replica, full-view}
use Rattle.memory.proofs.Views.{form_view}
use Rattle.well_formed.proofs.Examining.{examined, few}
use Rattle.saved.proofs.Refusals.{unformed, formed}
use Rattle.saved.proofs.Trips.{second-says}
use Rattle.saving.proofs.save.Goals as goal

pub is_well_formed-requires : goal.is_well_formed-requires
is_well_formed-requires c = full-replica c.well_formed.0

pub returns-then-not-is_well_formed : goal.returns-then-not-is_well_formed
returns-then-not-is_well_formed c =
    let r = c.args.replica in
    let all = unformed r _ (failed (c.is_well_formed.ensures ∙ sym (form_view r)) c.if-not-is_well_formed.true-raw) in
    record { value = all.0; out_after = all.1 }

pub write_replica-requires : goal.write_replica-requires
write_replica-requires c =
    let r = c.args.replica in
    let full = full-replica {r = r} c.well_formed.0 in
    let x = examined (viewed r) (full-view r.document full) (passed c.is_well_formed.ensures c.if-not-is_well_formed.false-raw) in
    let w = few (viewed r) x in
    record {
      characters_len = full.characters;
      length_le_character_slots = w.characters;
      length_in_bounds = omega (arith, full.toggles, w.characters);
      pending_len = full.pending;
      waiting_le_pending_slots = w.pending;
      version_value = second-says _;
    }

pub returns : goal.returns
returns c =
    let r = c.args.replica in
    let p = c.write_replica.ensures in
    let e = formed r _ (passed (c.is_well_formed.ensures ∙ sym (form_view r)) c.if-not-is_well_formed.false-raw) in
    record { value = p.value ∙ e.0; out_after = p.out_after ∙ e.1 }
