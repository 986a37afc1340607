-- `effects::after_writing` meets its contract: there is no note.
use Rattle.effects.specs.Steps.{after_writing}
use borrow.Author.Rules.{rules}
use Rattle.effects.proofs.after_writing.Goals as goal

pub returns : goal.returns
unfolding after_writing
returns c = c.after_noting.ensures
