-- `cursor::carry_at` carries the decision out on the replica, and counts how far the cursor moves.
use Rattle.std.proofs.Common.{◌∙◌, to_z-of_z, w32}
use Rattle.cursor.proofs.Receiving.{changed_few, receipt-at_so}
use Rattle.cursor.proofs.carry_at.Goals as goal

pub carry_out-counts-requires : goal.carry_out-counts-requires
carry_out-counts-requires c =
    let p = c.requires in
    record { characters_len = p.full.characters; pending_len = p.full.pending; feasible = p.judged_at.feasible }

pub shift_with-shift-requires : goal.shift_with-shift-requires
shift_with-shift-requires c =
    let p = c.requires in
    let done = c.carry_out-counts in
    let after = done.ensures.full_after p.full in
    record {
      ids_len = after.characters;
      toggles_len = after.toggles;
      n_le_character_slots =
          changed_few c.args.replica.now done.new.replica p.full after _ _ _ _ _ p.judged_at done.ensures.value _ c.answer-answer.ensures;
    }

pub returns : goal.returns
returns c =
    let p = c.requires in
    let done = c.carry_out-counts in
    let after = done.ensures.full_after p.full in
    let told = c.shift_with-shift.ensures in
    let read = to_z-of_z {w = w32} {z = c.shift_with-shift.result} (record { sfits = c.shift_with-shift.type_inv }) in
    record {
      full_after = after;
      value =
          receipt-at_so c.args.replica.now done.new.replica p.full after _ _ _ _ _ p.judged_at done.ensures.value _ c.answer-answer.ensures _
          (λ e. read ∙ told.value e) (λ e cs k t small. read ∙ told.value_2 e cs k t small);
    }
