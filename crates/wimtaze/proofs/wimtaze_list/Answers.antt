-- `wimtaze::wimtaze_list` meets its contract: its body leaves what the list of its conditions says.
use Rattle.effects.proofs.Outputs.{leaves_by}
use Rattle.c_calls.proofs.Bodies.{list-body}
use borrow.Author.Rules.{rules}
use Rattle.wimtaze.proofs.wimtaze_list.Goals as goal

pub returns : goal.returns
returns c = leaves_by (list-body _ _) c.list.ensures
