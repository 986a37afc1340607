-- `effects::receive_at` meets its contract: nothing is written where nothing was changed, else what came back with the
-- bits of the shift.
use Rattle.std.proofs.Common.{refl, ap, ◌∙◌}
use Rattle.lists.proofs.Tests.{failed, passed}
use Rattle.cursor.specs.Bits.{shift_bits}
use Rattle.effects.specs.Results.{silent}
use Rattle.effects.specs.Effects.{quiet}
use Rattle.effects.proofs.Outputs.{leaves_by, unchanged, changed}
use Rattle.effects.proofs.Saving.{storable, received-at-formed, shift-read}
use Rattle.effects.proofs.Returned.{full-received-at}
use Rattle.effects.proofs.receive_at.Goals as goal

pub returns-then-not-is_change : goal.returns-then-not-is_change
unfolding silent quiet
returns-then-not-is_change c =
    let e = failed c.is_change.ensures c.if-not-is_change.true-raw in
    leaves_by (unchanged _ _ c.receive_at-receipt.ensures _ e) (c.number_of.ensures, refl, refl)

pub save_noted-requires : goal.save_noted-requires
save_noted-requires c =
    let m = c.receive_at-receipt in
    let e = passed c.is_change.ensures c.if-not-is_change.false-raw in
    let w = storable m.result.replica (full-received-at _ _ _ m.ensures e) (received-at-formed _ _ _ m.ensures e) in
    record {
      characters_len = w.0;
      length_le_character_slots = w.1.0;
      length_in_bounds = w.1.1.0;
      pending_len = w.1.1.1.0;
      waiting_le_pending_slots = w.1.1.1.1;
    }

pub returns : goal.returns
returns c =
    let e = passed c.is_change.ensures c.if-not-is_change.false-raw in
    leaves_by (changed _ _ c.receive_at-receipt.ensures _ e _ (c.bits.ensures ∙ ap shift_bits (shift-read _ _ _ c.receive_at-receipt.ensures))) c.save_noted.ensures
