-- `numbers::operations_in_range` meets its contract: the flag says of the first j operations whether each passes.
use mathlib.Core.Path.{◌≡◌, refl, sym, ◌∙◌}
use native.Mathlib.Omega.{arith}
use native.Mathlib.Numerals.{add-one}
use Rattle.memory.proofs.Operations.{operations-every}
use Rattle.woot.specs.Ranges.{in_range}
use Rattle.well_formed.proofs.numbers.operations_in_range.Goals as goal

pub loop-j-init : goal.loop-j-init
loop-j-init c = refl

pub loop-j-preserved : goal.loop-j-preserved
loop-j-preserved c =
    let l = c.loop-j in
    rw (l.invariant, c.operation_in_range-kept.ensures, add-one l.j)

pub returns : goal.returns
returns c =
    let a = c.args in
    let l = c.loop-j in
    let all : l.j ≡ a.w = omega arith in
    l.invariant ∙ rw all (sym (operations-every a.own.now a.first.now a.second.now a.values.now a.w in_range))
