-- `next_insert` has the fields that the rules give it.
use borrow.Author.Rules.{rules}
use Rattle.woot.specs.Calls.{next_identifier}
use Rattle.generation.proofs.next_insert.Goals as goal

pub returns : goal.returns
unfolding next_identifier
returns c = rw (c.identifier.ensures, c.identifier-2.ensures)
