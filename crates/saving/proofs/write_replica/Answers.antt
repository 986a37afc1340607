-- `saving::write_replica` meets its contract: the arrays of the replica stand for what it means.
use Rattle.woot.specs.Memory.{characters_in, operations_in, meaning}
use Rattle.saving.specs.Documents.{state_in}
use Rattle.saving.proofs.write_replica.Goals as goal

pub put_replica-requires-clause-w_value : goal.put_replica-requires-clause-w_value
unfolding state_in meaning characters_in operations_in
put_replica-requires-clause-w_value c = c.requires.version_value

pub returns : goal.returns
unfolding state_in meaning characters_in operations_in
returns c = c.put_replica.ensures
