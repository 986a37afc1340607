-- `effects::save` meets its contract: there is no note, and a replica in form has a slot for all that it holds.
use Rattle.memory.proofs.Fullness.{full-replica}
use Rattle.effects.specs.Effects.{writing}
use Rattle.effects.proofs.Saving.{storable}
use Rattle.effects.proofs.save.Goals as goal

pub save_noted-requires : goal.save_noted-requires
save_noted-requires c =
    let r = c.args.replica in
    let w = storable r (full-replica {r = r} c.well_formed.1.0) c.requires in
    record {
      characters_len = w.0;
      length_le_character_slots = w.1.0;
      length_in_bounds = w.1.1.0;
      pending_len = w.1.1.1.0;
      waiting_le_pending_slots = w.1.1.1.1;
    }

pub returns : goal.returns
unfolding writing
returns c = c.save_noted.ensures
