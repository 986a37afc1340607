-- `replica::insert` sends what was made.
use mathlib.Core.Path.{◌∙◌}
use Rattle.woot.specs.declared.Replica.{Replica}
use Rattle.replica.proofs.Returning.{sendable, insert_so}
use borrow.Author.Rules.{rules}
use Rattle.replica.proofs.insert.Goals.{After-decide_insert-made}
use Rattle.replica.proofs.insert.Goals as goal

-- the replica that was passed
abbrev passedIn : After-decide_insert-made → Replica
passedIn c = c.args.replica

pub send-requires : goal.send-requires
send-requires c =
    sendable (passedIn (goal.at.send-requires c).After-decide_insert-made) _ _ c.decide_insert-made.ensures

pub returns : goal.returns
returns c =
    c.send.ensures ∙ insert_so (passedIn (goal.at.returns c).After-decide_insert-made) _ _ _ c.decide_insert-made.ensures
