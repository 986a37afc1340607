-- `effects::after_noting` meets its contract, variant by variant.
use Rattle.effects.specs.Steps.{after_noting}
use borrow.Author.Rules.{rules}
use Rattle.effects.proofs.after_noting.Goals as goal

pub returns-in-Ok : goal.returns-in-Ok
unfolding after_noting
returns-in-Ok c = rw c.in-Ok.is c.number_of.ensures

pub returns-in-Err : goal.returns-in-Err
unfolding after_noting
returns-in-Err c = rw c.in-Err.is c.number_of_refusal.ensures
