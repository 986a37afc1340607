-- `clock::heard` hands the insert's identifier on.
use mathlib.Core.Path.{sym, ◌∙◌}
use Rattle.clock.proofs.Hearing.{heard-id}
use Rattle.clock.proofs.heard.Goals as goal

pub returns : goal.returns
returns c = c.heard_id.ensures ∙ sym (heard-id c.args.site c.args.insert)
