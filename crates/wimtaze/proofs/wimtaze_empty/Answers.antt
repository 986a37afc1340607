-- `wimtaze::wimtaze_empty` meets its contract: its body leaves what the list of its conditions says.
use mathlib.Core.List.{[]}
use Rattle.effects.proofs.Outputs.{leaves_by}
use Rattle.c_calls.proofs.Bodies.{empty-body}
use borrow.Author.Rules.{rules}
use Rattle.wimtaze.proofs.wimtaze_empty.Goals as goal

pub returns : goal.returns
returns c = leaves_by (empty-body [] _ _) c.begin.ensures
