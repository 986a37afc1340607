-- `wimtaze::wimtaze_answer` meets its contract: its body leaves what the list of its conditions says.
use Rattle.effects.proofs.Outputs.{leaves_by}
use Rattle.c_calls.proofs.Bodies.{answer-body}
use borrow.Author.Rules.{rules}
use Rattle.wimtaze.proofs.wimtaze_answer.Goals as goal

pub returns : goal.returns
returns c = leaves_by (answer-body _ _ _) c.answer.ensures
