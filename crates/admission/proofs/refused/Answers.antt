-- `refused` stores the empty state of number 0.
use Rattle.answers.specs.declared.Answer.TheVariants.{Refused}
use borrow.Author.Rules.{rules}
use Rattle.admission.proofs.refused.Goals as goal

pub returns : goal.returns
returns c = λ j. record { answer = Refused c.args.refusal; replica = c.empty-replica.ensures j }
