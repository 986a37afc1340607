-- `changing::restore` sends what was made.
use Rattle.replica.proofs.Returning.{sendable, restore_so}
use Rattle.effects.proofs.Outputs.{leaves_by, sent_as}
use Rattle.effects.proofs.Saving.{restore_savable}
use Rattle.changing.proofs.restore.Goals as goal

pub send_made-requires : goal.send_made-requires
send_made-requires c =
    let r = c.args.replica.now in
    let j = c.decide_restore-made.ensures in
    record { full = c.requires; sendable = sendable r _ _ j; savable = restore_savable r _ _ j }

pub returns : goal.returns
returns c =
    let m = c.send_made.ensures in
    record {
      full_after = m.full_after;
      value = leaves_by (sent_as _ _ (restore_so c.args.replica.now _ _ c.decide_restore-made.ensures) _ _) m.value;
    }
