-- `wimtaze::wimtaze_erase` meets its contract: its body leaves what the list of its conditions says.
use Rattle.effects.proofs.Outputs.{leaves_by}
use Rattle.c_calls.proofs.Bodies.{erase-body}
use borrow.Author.Rules.{rules}
use Rattle.wimtaze.proofs.wimtaze_erase.Goals as goal

pub returns : goal.returns
returns c = leaves_by (erase-body _ _ _ _) c.delete.ensures
