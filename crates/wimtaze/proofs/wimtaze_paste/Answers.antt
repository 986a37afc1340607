-- `wimtaze::wimtaze_paste` meets its contract: its body leaves what the list of its conditions says.
use Rattle.effects.proofs.Outputs.{leaves_by}
use Rattle.c_calls.proofs.Bodies.{paste-body}
use borrow.Author.Rules.{rules}
use Rattle.wimtaze.proofs.wimtaze_paste.Goals as goal

pub returns : goal.returns
returns c = leaves_by (paste-body _ _ _ _ _) c.paste.ensures
