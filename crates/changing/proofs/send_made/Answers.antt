-- `changing::send_made` meets its contract, variant by variant.
use Rattle.std.proofs.Common.{refl, sym, subst}
use Rattle.effects.specs.Effects.{quiet, turned}
use Rattle.effects.specs.Steps.{Savable}
use Rattle.effects.proofs.Outputs.{leaves_by, not-sent, sent-both}
use Rattle.effects.proofs.Saving.{storable, sent-changes}
use Rattle.changing.proofs.send_made.Goals as goal

pub send_made-sent-requires : goal.send_made-sent-requires
send_made-sent-requires c = record { full = c.requires.full; sendable = c.requires.sendable }

pub save_both-requires : goal.save_both-requires
save_both-requires c =
    let m = c.send_made-sent in
    let formed = subst Savable (sym m.ensures.value) c.requires.savable (sent-changes c.in-Ok.is) in
    let w = storable m.new.replica m.ensures.full_after formed in
    record {
      characters_len = w.0;
      length_le_character_slots = w.1.0;
      length_in_bounds = w.1.1.0;
      pending_len = w.1.1.1.0;
      waiting_le_pending_slots = w.1.1.1.1;
    }

pub returns-in-Err : goal.returns-in-Err
unfolding turned quiet
returns-in-Err c =
    let m = c.send_made-sent.ensures in
    record {
      full_after = m.full_after;
      value = leaves_by (not-sent _ _ m.value _ _ c.in-Err.is) (c.number_of_refusal.ensures, refl, refl);
    }

pub returns-in-Ok : goal.returns-in-Ok
returns-in-Ok c =
    let m = c.send_made-sent.ensures in
    record {
      full_after = m.full_after;
      value = leaves_by (sent-both _ _ m.value _ _ c.in-Ok.is) c.save_both.ensures;
    }
