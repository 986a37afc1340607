-- `serving::sheets::build` meets its contract: what is refused is told, and what was built is in form and saved.
use mathlib.Core.Path.{refl}
use Rattle.lists.proofs.Tests.{failed, passed}
use Rattle.effects.specs.Results.{silent}
use Rattle.effects.specs.Effects.{quiet}
use Rattle.effects.proofs.Outputs.{leaves_by}
use Rattle.c_calls.proofs.Built.{build_savable, build-refused, build-saved}
use borrow.Author.Rules.{rules}
use Rattle.serving.proofs.sheets.build.Goals as goal

pub returns-then-not-is_change : goal.returns-then-not-is_change
unfolding silent quiet
returns-then-not-is_change c =
    let e = failed c.is_change.ensures c.if-not-is_change.true-raw in
    leaves_by (build-refused _ _ _ c.build-built.ensures _ e) (c.number_of.ensures, refl, refl)

pub save-requires : goal.save-requires
save-requires c =
    let e = passed c.is_change.ensures c.if-not-is_change.false-raw in
    build_savable _ _ _ c.build-built.ensures e

pub returns : goal.returns
returns c =
    let e = passed c.is_change.ensures c.if-not-is_change.false-raw in
    leaves_by (build-saved _ _ _ c.build-built.ensures _ e) c.save.ensures
