-- `execution::answer` meets its contract, by the decision.
use Rattle.std.proofs.Common.{rules}
use Rattle.execution.specs.Outcomes.{answer_by}
use Rattle.execution.proofs.answer.Goals as goal

pub returns-in-Answered : goal.returns-in-Answered
unfolding answer_by
returns-in-Answered c = search rules

pub returns-in-Defer : goal.returns-in-Defer
unfolding answer_by
returns-in-Defer c = search rules

pub returns-in-Place : goal.returns-in-Place
unfolding answer_by
returns-in-Place c = search rules
