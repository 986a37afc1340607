-- `loading::read_as` meets its contract: the empty replica holds nothing, and what was read into it is what the bytes say.
use Rattle.std.proofs.Common.{sym, subst, ◌∙◌}
use Rattle.loading.specs.Filling.{Blank}
use Rattle.loading.proofs.Forming.{answer-read, read-refused, read_whole}
use Rattle.loading.proofs.Settling.{blank}
use Rattle.loading.proofs.read_as.Goals as goal

pub read_into-answer-requires : goal.read_into-answer-requires
read_into-answer-requires c = subst Blank (sym c.empty-replica.ensures) (blank 0)

pub returns-in-Err : goal.returns-in-Err
returns-in-Err c =
    let z = c.read_into-answer.ensures in
    c.refuse.ensures ∙ read-refused _ _ (z.answer_value ∙ answer-read _ _) _ c.in-Err.is

pub returns : goal.returns
returns c =
    let z = c.read_into-answer.ensures in
    let h = c.in_default.is in
    read_whole _ _ (z.answer_value ∙ answer-read _ _) h (z.replica_after h)
