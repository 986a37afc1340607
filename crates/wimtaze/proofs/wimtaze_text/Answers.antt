-- `wimtaze::wimtaze_text` meets its contract: its body leaves what the list of its conditions says.
use Rattle.effects.proofs.Outputs.{leaves_by}
use Rattle.c_calls.proofs.Bodies.{text-body}
use borrow.Author.Rules.{rules}
use Rattle.wimtaze.proofs.wimtaze_text.Goals as goal

pub returns : goal.returns
returns c = leaves_by (text-body _ _) c.show.ensures
