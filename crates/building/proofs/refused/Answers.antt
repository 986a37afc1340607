-- `building::refused` stores the empty state of number 0.
use Rattle.answers.specs.declared.Answer.TheVariants.{Refused}
use Rattle.bulk.specs.Building.{unbuilt}
use Rattle.building.specs.Assembly.{returned}
use borrow.Author.Rules.{rules}
use Rattle.building.proofs.refused.Goals as goal

pub returns : goal.returns
unfolding returned unbuilt
returns c = λ j. record { answer = Refused c.args.refusal; replica = c.empty-replica.ensures j }
