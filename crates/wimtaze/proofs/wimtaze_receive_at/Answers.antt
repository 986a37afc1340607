-- `wimtaze::wimtaze_receive_at` meets its contract: its body leaves what the list of its conditions says.
use Rattle.effects.proofs.Outputs.{leaves_by}
use Rattle.c_calls.proofs.Bodies.{receive-at-body}
use borrow.Author.Rules.{rules}
use Rattle.wimtaze.proofs.wimtaze_receive_at.Goals as goal

pub returns : goal.returns
returns c = leaves_by (receive-at-body _ _ _ _) c.receive_at.ensures
