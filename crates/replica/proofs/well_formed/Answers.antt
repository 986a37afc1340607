-- `replica::well_formed` checks the columns of the replica.
use Rattle.std.proofs.Common.{sym, ◌∙◌}
use Rattle.memory.proofs.Fullness.{full-replica}
use Rattle.memory.proofs.Views.{form_view}
use Rattle.replica.proofs.well_formed.Goals as goal

pub is_well_formed-requires : goal.is_well_formed-requires
is_well_formed-requires c = full-replica c.well_formed.0

pub returns : goal.returns
returns c = c.is_well_formed.ensures ∙ sym (form_view c.args.replica)
