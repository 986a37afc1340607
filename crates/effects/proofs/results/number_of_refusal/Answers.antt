-- `effects::results::number_of_refusal` meets its contract: a refusal is an answer with nothing written.
use Rattle.effects.specs.Results.{silent}
use borrow.Author.Rules.{rules}
use Rattle.effects.proofs.results.number_of_refusal.Goals as goal

pub returns : goal.returns
unfolding silent
returns c = c.number_of.ensures
