-- `effects::save_and_send` meets its contract, variant by variant.
use Rattle.std.proofs.Common.{refl}
use Rattle.effects.specs.Effects.{quiet, turned}
use Rattle.effects.proofs.Outputs.{leaves_by}
use Rattle.effects.proofs.Saving.{storable, sent-changes}
use Rattle.effects.proofs.Returned.{full-generated, not-sent, sent-both}
use Rattle.effects.proofs.save_and_send.Goals as goal

pub save_both-requires : goal.save_both-requires
save_both-requires c =
    let g = c.args.generated in
    let w = storable g.replica (full-generated g c.well_formed.0) (c.requires (sent-changes c.in-Ok.is)) in
    record {
      characters_len = w.0;
      length_le_character_slots = w.1.0;
      length_in_bounds = w.1.1.0;
      pending_len = w.1.1.1.0;
      waiting_le_pending_slots = w.1.1.1.1;
    }

pub returns-in-Err : goal.returns-in-Err
unfolding turned quiet
returns-in-Err c = leaves_by (not-sent _ _ _ c.in-Err.is) (c.number_of_refusal.ensures, refl, refl)

pub returns-in-Ok : goal.returns-in-Ok
returns-in-Ok c = leaves_by (sent-both _ _ _ c.in-Ok.is) c.save_both.ensures
