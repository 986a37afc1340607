-- `changing::receive_at` meets its contract: nothing is written where nothing was changed, else what the replica then is,
-- with the bits of the shift.
use Rattle.std.proofs.Common.{refl, ap, ◌∙◌}
use Rattle.lists.proofs.Tests.{failed, passed}
use Rattle.cursor.specs.Bits.{shift_bits}
use Rattle.effects.specs.Results.{silent}
use Rattle.effects.specs.Effects.{quiet}
use Rattle.effects.proofs.Outputs.{leaves_by, unchanged, changed}
use Rattle.effects.proofs.Saving.{storable, received-at-formed, shift-read}
use Rattle.changing.proofs.receive_at.Goals as goal

pub carry_at-received-requires : goal.carry_at-received-requires
carry_at-received-requires c = record { full = c.requires; judged_at = c.judge_at-judged.ensures }

pub returns-then-not-is_change : goal.returns-then-not-is_change
unfolding silent quiet
returns-then-not-is_change c =
    let e = failed c.is_change.ensures c.if-not-is_change.true-raw in
    let m = c.carry_at-received.ensures in
    record { full_after = m.full_after; value = leaves_by (unchanged _ _ m.value _ e) (c.number_of.ensures, refl, refl) }

pub save_noted-requires : goal.save_noted-requires
save_noted-requires c =
    let m = c.carry_at-received in
    let e = passed c.is_change.ensures c.if-not-is_change.false-raw in
    let w = storable m.new.replica m.ensures.full_after (received-at-formed _ _ _ m.ensures.value e) in
    record {
      characters_len = w.0;
      length_le_character_slots = w.1.0;
      length_in_bounds = w.1.1.0;
      pending_len = w.1.1.1.0;
      waiting_le_pending_slots = w.1.1.1.1;
    }

pub returns : goal.returns
returns c =
    let e = passed c.is_change.ensures c.if-not-is_change.false-raw in
    let m = c.carry_at-received.ensures in
    let bits = c.bits.ensures ∙ ap shift_bits (shift-read _ _ _ m.value) in
    record { full_after = m.full_after; value = leaves_by (changed _ _ m.value _ e _ bits) c.save_noted.ensures }
