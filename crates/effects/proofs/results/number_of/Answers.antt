-- `effects::results::number_of` meets its contract: each answer has its word, and a refusal its number.
use Rattle.answers.specs.Answers.{reply}
use Rattle.effects.specs.Results.{result, number_of}
use borrow.Author.Rules.{rules}
use Rattle.effects.proofs.results.number_of.Goals as goal

pub returns-in-Done : goal.returns-in-Done
unfolding number_of result reply
returns-in-Done c = rw c.in-Done.is c.join.ensures

pub returns-in-Deferred : goal.returns-in-Deferred
unfolding number_of result reply
returns-in-Deferred c = rw c.in-Deferred.is c.join-in-Deferred.ensures

pub returns-in-Duplicate : goal.returns-in-Duplicate
unfolding number_of result reply
returns-in-Duplicate c = rw c.in-Duplicate.is c.join-in-Duplicate.ensures

pub returns-in-Refused : goal.returns-in-Refused
unfolding number_of result reply
returns-in-Refused c = rw (c.in-Refused.is, ← c.number.ensures) c.join-in-Refused.ensures
