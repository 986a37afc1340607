-- `building::build` reads the heap, judges it, and builds what its operations come to.
use native.Mathlib.Omega.{arith}
use mathlib.Core.Path.{sym, ◌∙◌}
use Rattle.building.proofs.Judging.{Fitting, judged-told, fits-gathers, fits-number}
use borrow.Author.Rules.{rules}
use Rattle.building.proofs.build.Goals.{In-Ok}
use Rattle.building.proofs.build.Goals as goal

-- the heap is built, where it is not refused before
fits : (c : In-Ok) → Fitting c.args.number c.args.heap.now
fits c = judged-told _ _ c.gather-gathered.ensures.value (sym c.in-Ok.is ∙ c.judge.ensures)

pub overflow_cast-number : goal.overflow_cast-number
overflow_cast-number c = omega (arith, fits-number _ _ (fits (goal.at.overflow_cast-number c).In-Ok))

pub build_gathered-requires : goal.build_gathered-requires
build_gathered-requires c =
    let e = c.gather-gathered in
    fits-gathers _ _ (fits (goal.at.build_gathered-requires c).In-Ok) e.ensures.value e.ensures.held

pub returns-in-Err : goal.returns-in-Err
returns-in-Err c =
    c.refused.ensures
    ∙ judged-told _ _ c.gather-gathered.ensures.value (sym c.in-Err.is ∙ c.judge.ensures)

pub returns-in-Ok : goal.returns-in-Ok
returns-in-Ok c =
    let e = c.gather-gathered in
    c.build_gathered.ensures (fits-gathers _ _ (fits (goal.at.returns-in-Ok c).In-Ok) e.ensures.value e.ensures.held) ∙ (fits (goal.at.returns-in-Ok c).In-Ok).comes
