-- `replica::send_made` goes by what was made: a refusal, or the operation is carried out on the replica.
use Rattle.replica.specs.Outcomes.{Sendable, sent_by}
use Rattle.replica.proofs.Returning.{executed_feasible, sent_so}
use Rattle.replica.proofs.send_made.Goals as goal

pub carry_out-counts-requires : goal.carry_out-counts-requires
unfolding Sendable
carry_out-counts-requires c =
    record {
      characters_len = c.requires.full.characters;
      pending_len = c.requires.full.pending;
      feasible = executed_feasible c.args.replica.now _ _ (rw c.in-Ok.is at c.requires.sendable);
    }

pub returns-in-Err : goal.returns-in-Err
unfolding sent_by
returns-in-Err c = record { full_after = c.requires.full; value = rw c.in-Err.is }

pub returns-in-Ok-clause-value : goal.returns-in-Ok-clause-value
unfolding Sendable sent_by
returns-in-Ok-clause-value c =
    let told = c.in-Ok.is in
    let done = c.carry_out-counts.ensures in
    rw told (sent_so c.args.replica.now _ c.requires.full (done.full_after c.requires.full) _ _ _ _ (rw told at c.requires.sendable) done.value)
