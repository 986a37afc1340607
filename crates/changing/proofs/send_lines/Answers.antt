-- `changing::send_lines` meets its contract: where something was typed the new replica is in form.
use Rattle.std.proofs.Common.{refl}
use Rattle.memory.proofs.Fullness.{full-replica}
use Rattle.effects.specs.Results.{silent}
use Rattle.effects.specs.Effects.{quiet}
use Rattle.effects.proofs.Outputs.{leaves_by, none-typed, some-typed}
use Rattle.effects.proofs.Saving.{storable}
use Rattle.changing.proofs.send_lines.Goals as goal

pub returns-then-count-eq0 : goal.returns-then-count-eq0
unfolding quiet silent
returns-then-count-eq0 c = leaves_by (none-typed _ _ _ _ _ c.if-count-eq0.true) (c.number_of.ensures, refl, refl)

pub save_lines-requires : goal.save_lines-requires
save_lines-requires c =
    let r = c.args.replica in
    let w = storable r (full-replica {r = r} c.well_formed.1.0) (c.requires.replica_value c.if-count-eq0.false) in
    record {
      characters_len = w.0;
      length_le_character_slots = w.1.0;
      length_in_bounds = w.1.1.0;
      pending_len = w.1.1.1.0;
      waiting_le_pending_slots = w.1.1.1.1;
      typed_len = c.requires.typed_len;
      count_le_character_slots = c.requires.count_le_character_slots;
    }

pub returns : goal.returns
returns c = leaves_by (some-typed _ _ _ _ _ _ c.if-count-eq0.false) c.save_lines.ensures
