-- `replica::delete` sends what was made.
use mathlib.Core.Path.{◌∙◌}
use Rattle.woot.specs.declared.Replica.{Replica}
use Rattle.replica.proofs.Returning.{sendable, delete_so}
use borrow.Author.Rules.{rules}
use Rattle.replica.proofs.delete.Goals.{After-decide_delete-made}
use Rattle.replica.proofs.delete.Goals as goal

-- the replica that was passed
abbrev passedIn : After-decide_delete-made → Replica
passedIn c = c.args.replica

pub send-requires : goal.send-requires
send-requires c =
    sendable (passedIn (goal.at.send-requires c).After-decide_delete-made) _ _ c.decide_delete-made.ensures

pub returns : goal.returns
returns c =
    c.send.ensures ∙ delete_so (passedIn (goal.at.returns c).After-decide_delete-made) _ _ c.decide_delete-made.ensures
