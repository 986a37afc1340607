-- `replica::restore` sends what was made.
use mathlib.Core.Path.{◌∙◌}
use Rattle.woot.specs.declared.Replica.{Replica}
use Rattle.replica.proofs.Returning.{sendable, restore_so}
use borrow.Author.Rules.{rules}
use Rattle.replica.proofs.restore.Goals.{After-decide_restore-made}
use Rattle.replica.proofs.restore.Goals as goal

-- the replica that was passed
abbrev passedIn : After-decide_restore-made → Replica
passedIn c = c.args.replica

pub send-requires : goal.send-requires
send-requires c =
    sendable (passedIn (goal.at.send-requires c).After-decide_restore-made) _ _ c.decide_restore-made.ensures

pub returns : goal.returns
returns c =
    c.send.ensures ∙ restore_so (passedIn (goal.at.returns c).After-decide_restore-made) _ _ c.decide_restore-made.ensures
