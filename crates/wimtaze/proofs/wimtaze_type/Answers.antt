-- `wimtaze::wimtaze_type` meets its contract: its body leaves what the list of its conditions says.
use Rattle.effects.proofs.Outputs.{leaves_by}
use Rattle.c_calls.proofs.Bodies.{type_body}
use borrow.Author.Rules.{rules}
use Rattle.wimtaze.proofs.wimtaze_type.Goals as goal

pub returns : goal.returns
returns c = leaves_by (type_body _ _ _ _ _) c.insert.ensures
