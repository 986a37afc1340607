-- `loading::load` meets its contract: what is not refused in reading goes by its form.
use mathlib.Core.Path.{◌∙◌}
use Rattle.lists.proofs.Tests.{failed, passed}
use Rattle.loading.proofs.Forming.{load-refused, load_unformed, load-formed}
use Rattle.loading.proofs.load.Goals as goal

pub returns-in-Err : goal.returns-in-Err
returns-in-Err c = load-refused _ _ c.read-found.ensures _ c.in-Err.is

pub returns-then-not-well_formed : goal.returns-then-not-well_formed
returns-then-not-well_formed c =
    c.refuse.ensures ∙ load_unformed _ _ c.read-found.ensures c.in_default.is (failed c.well_formed-2.ensures c.if-not-well_formed.true-raw)

pub returns : goal.returns
returns c =
    load-formed _ _ c.read-found.ensures c.in_default.is (passed c.well_formed-2.ensures c.if-not-well_formed.false-raw)
