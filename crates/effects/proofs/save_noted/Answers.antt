-- `effects::save_noted` meets its contract: what is answered goes by what was written.
use Rattle.std.proofs.Common.{refl, ap, ◌∙◌}
use Rattle.woot.specs.Writing.{Written}
use Rattle.saved.proofs.Trips.{second-says}
use Rattle.effects.specs.Results.{number_of}
use Rattle.effects.specs.Steps.{after_noting}
use Rattle.effects.proofs.Outputs.{leaves_by, noted_written}
use Rattle.effects.proofs.save_noted.Goals as goal

pub write_replica-written-requires : goal.write_replica-written-requires
write_replica-written-requires c =
    let p = c.requires in
    record {
      characters_len = p.characters_len;
      length_le_character_slots = p.length_le_character_slots;
      length_in_bounds = p.length_in_bounds;
      pending_len = p.pending_len;
      waiting_le_pending_slots = p.waiting_le_pending_slots;
      version_value = second-says _;
    }

pub returns : goal.returns
returns c =
    let s = c.write_replica-written.ensures in
    let a = c.args in
    leaves_by (noted_written _ _ _ _) (c.after_noting.ensures ∙ ap (λ (w : Written). number_of (after_noting a.answer a.note w)) s.value, s.out_after, refl)
