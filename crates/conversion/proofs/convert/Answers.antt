-- `conversion::convert` meets its contract: what was read decides, and then its form and what the other form can say.
use native.Mathlib.Omega.{arith}
use mathlib.Core.Path.{sym, ◌∙◌}
use Rattle.lists.proofs.Tests.{failed, passed}
use Rattle.memory.specs.Lent.{viewed}
use Rattle.memory.proofs.Fullness.{full-view}
use Rattle.memory.proofs.Views.{form_view}
use Rattle.well_formed.proofs.Examining.{examined, few}
use Rattle.loading.proofs.Forming.{read-full}
use Rattle.conversion.proofs.Converting.{not-read, not-formed, not-representable, written_so, told-representable}
use Rattle.conversion.proofs.convert.Goals as goal

pub returns-in-Err : goal.returns-in-Err
returns-in-Err c =
    let all = not-read _ _ _ _ _ c.read_as-found.ensures _ c.in-Err.is in
    record {
      value = all.0;
      out_after = all.1;
    }

pub is_well_formed-requires : goal.is_well_formed-requires
is_well_formed-requires c = read-full _ _ _ c.read_as-found.ensures c.in_default.is

pub returns-then-not-is_well_formed : goal.returns-then-not-is_well_formed
returns-then-not-is_well_formed c =
    let r = c.read_as-found.result.replica in
    let all = not-formed _ _ _ _ _ c.read_as-found.ensures c.in_default.is (failed (c.is_well_formed.ensures ∙ sym (form_view r)) c.if-not-is_well_formed.true-raw) in
    record {
      value = all.0;
      out_after = all.1;
    }

pub is_representable-requires : goal.is_representable-requires
is_representable-requires c =
    let r = c.read_as-found.result.replica in
    let full = read-full _ _ _ c.read_as-found.ensures c.in_default.is in
    let w = few (viewed r) (examined (viewed r) (full-view r.document full) (passed c.is_well_formed.ensures c.if-not-is_well_formed.false-raw)) in
    record {
      n_in_bounds = omega (arith, full.toggles, w.characters);
      pending_len = full.pending;
      w_le_pending_slots = w.pending;
    }

pub returns-then-not-is_representable : goal.returns-then-not-is_representable
returns-then-not-is_representable c =
    let r = c.read_as-found.result.replica in
    let done = c.in_default.is in
    let full = read-full _ _ _ c.read_as-found.ensures done in
    let x = examined (viewed r) (full-view r.document full) (passed c.is_well_formed.ensures c.if-not-is_well_formed.false-raw) in
    let all = not-representable _ _ _ _ _ c.read_as-found.ensures done (passed (c.is_well_formed.ensures ∙ sym (form_view r)) c.if-not-is_well_formed.false-raw)
    (failed (told-representable r x _ c.is_representable.ensures) c.if-not-is_representable.true-raw) in
    record {
      value = all.0;
      out_after = all.1;
    }

pub write_replica-requires : goal.write_replica-requires
write_replica-requires c =
    let r = c.read_as-found.result.replica in
    let full = read-full _ _ _ c.read_as-found.ensures c.in_default.is in
    let x = examined (viewed r) (full-view r.document full) (passed c.is_well_formed.ensures c.if-not-is_well_formed.false-raw) in
    let w = few (viewed r) x in
    record {
      characters_len = full.characters;
      length_le_character_slots = w.characters;
      length_in_bounds = omega (arith, full.toggles, w.characters);
      pending_len = full.pending;
      waiting_le_pending_slots = w.pending;
      version_value = passed (told-representable r x _ c.is_representable.ensures) c.if-not-is_representable.false-raw;
    }

pub returns : goal.returns
returns c =
    let r = c.read_as-found.result.replica in
    let done = c.in_default.is in
    let full = read-full _ _ _ c.read_as-found.ensures done in
    let x = examined (viewed r) (full-view r.document full) (passed c.is_well_formed.ensures c.if-not-is_well_formed.false-raw) in
    let p = c.write_replica.ensures in
    let e = written_so _ _ _ _ _ c.read_as-found.ensures done (passed (c.is_well_formed.ensures ∙ sym (form_view r)) c.if-not-is_well_formed.false-raw)
    (passed (told-representable r x _ c.is_representable.ensures) c.if-not-is_representable.false-raw) in
    record {
      value = p.value ∙ e.0;
      out_after = p.out_after ∙ e.1;
    }
