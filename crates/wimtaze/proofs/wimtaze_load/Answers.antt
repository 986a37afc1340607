-- `wimtaze::wimtaze_load` meets its contract: its body leaves what the list of its conditions says.
use Rattle.effects.proofs.Outputs.{leaves_by}
use Rattle.c_calls.proofs.Bodies.{load-body}
use borrow.Author.Rules.{rules}
use Rattle.wimtaze.proofs.wimtaze_load.Goals as goal

pub returns : goal.returns
returns c = leaves_by (load-body _ _) c.load.ensures
