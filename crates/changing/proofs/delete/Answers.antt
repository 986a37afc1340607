-- `changing::delete` sends what was made.
use Rattle.replica.proofs.Returning.{sendable, delete_so}
use Rattle.effects.proofs.Outputs.{leaves_by, sent_as}
use Rattle.effects.proofs.Saving.{delete_savable}
use Rattle.changing.proofs.delete.Goals as goal

pub send_made-requires : goal.send_made-requires
send_made-requires c =
    let r = c.args.replica.now in
    let j = c.decide_delete-made.ensures in
    record { full = c.requires; sendable = sendable r _ _ j; savable = delete_savable r _ _ j }

pub returns : goal.returns
returns c =
    let m = c.send_made.ensures in
    record {
      full_after = m.full_after;
      value = leaves_by (sent_as _ _ (delete_so c.args.replica.now _ _ c.decide_delete-made.ensures) _ _) m.value;
    }
