-- `numbers::characters_in_range` meets its contract: the flag says of the first i rows whether each passes.
use mathlib.Core.Path.{◌≡◌, refl, sym, ◌∙◌}
use native.Mathlib.Omega.{arith}
use native.Mathlib.Numerals.{add-one}
use lib.ListN.{get_or}
use Rattle.lists.proofs.Throughout.{throughout_cong}
use Rattle.memory.proofs.Characters.{rows-every}
use Rattle.well_formed.proofs.Ranging.{row-toggled}
use Rattle.woot.specs.Ranges.{character_in_range}
use Rattle.well_formed.proofs.numbers.characters_in_range.Goals as goal

pub loop-i-init : goal.loop-i-init
loop-i-init c = refl

pub loop-i-preserved : goal.loop-i-preserved
loop-i-preserved c =
    let l = c.loop-i in
    rw (l.invariant, c.in_range-kept.ensures, add-one l.i)

pub returns : goal.returns
returns c =
    let a = c.args in
    let l = c.loop-i in
    let all : l.i ≡ a.n = omega arith in
    l.invariant
    ∙ rw all
    (throughout_cong _ _ a.n (λ j h. row-toggled _ _ _ _ (get_or a.toggles.now j 0) (omega (arith, c.type_inv.toggles j)))
    ∙ sym (rows-every a.ids.now a.previous.now a.next.now a.codes.now a.toggles.now a.n character_in_range))
