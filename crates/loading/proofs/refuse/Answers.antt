-- `loading::refuse` meets its contract: an empty replica stands beside the refusal.
use Rattle.std.proofs.Common.{Err}
use Rattle.saved.specs.Calls.{no_replica, unread}
use Rattle.loading.proofs.refuse.Goals as goal

pub returns : goal.returns
unfolding unread no_replica
returns c = λ j. record { answer = Err c.args.reason; replica = c.empty.ensures j }
