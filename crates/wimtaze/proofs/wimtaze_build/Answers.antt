-- `wimtaze::wimtaze_build` meets its contract: its body leaves what the list of its conditions says.
use mathlib.Core.List.{[]}
use Rattle.effects.proofs.Outputs.{leaves_by}
use Rattle.c_calls.proofs.Bodies.{build-body}
use borrow.Author.Rules.{rules}
use Rattle.wimtaze.proofs.wimtaze_build.Goals as goal

pub returns : goal.returns
returns c = leaves_by (build-body [] _ _ _) c.build.ensures
