-- `admit` meets its contract, case by case of what was judged.
use mathlib.Core.Path.{sym, ◌∙◌}
use Rattle.memory.proofs.Fullness.{full-replica}
use Rattle.admission.specs.Calls.{used_after}
use Rattle.admission.proofs.Answering.{admitted_so, admitted-by}
use borrow.Author.Rules.{rules}
use Rattle.admission.proofs.admit.Goals as goal

pub returns-in-Refused : goal.returns-in-Refused
unfolding used_after
returns-in-Refused c =
    c.refused.ensures ∙ admitted_so c.args.replica (sym c.in-Refused.is ∙ c.judge-answer.ensures)

pub returns-in-Done : goal.returns-in-Done
unfolding used_after
returns-in-Done c = admitted-by c.args.replica c.judge-answer.ensures c.in-Done.is

pub returns-in-Deferred : goal.returns-in-Deferred
unfolding used_after
returns-in-Deferred c = admitted-by c.args.replica c.judge-answer.ensures c.in-Deferred.is

pub returns-in-Duplicate : goal.returns-in-Duplicate
unfolding used_after
returns-in-Duplicate c = admitted-by c.args.replica c.judge-answer.ensures c.in-Duplicate.is

pub judge-answer-requires : goal.judge-answer-requires
judge-answer-requires c = full-replica c.well_formed.0
