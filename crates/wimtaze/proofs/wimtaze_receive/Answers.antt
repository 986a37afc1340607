-- `wimtaze::wimtaze_receive` meets its contract: a cursor at the top stays there.
use mathlib.Core.Path.{sym}
use borrow.Author.Rules.{rules}
use Rattle.effects.proofs.Outputs.{leaves_by}
use Rattle.c_calls.proofs.Shifting.{top_receives}
use Rattle.wimtaze.proofs.wimtaze_receive.Goals as goal

pub returns : goal.returns
returns c = leaves_by (sym (top_receives _ _ _)) c.wimtaze_receive_at.ensures
