-- `building::toggle_all` carries out one toggle after another. The loop's invariant: with those that are left it
-- comes to what all of them come to.
use native.Mathlib.Omega.{arith}
use Rattle.passes.specs.Steps.{laid_as}
use Rattle.building.specs.Steps.{Toggles}
use Rattle.passes.proofs.Laying.{laid_count, laid_slots, laid_tabled}
use Rattle.building.proofs.Toggling.{Changing, changing_begun, changing_again, changing_ended, slots-low}
use Rattle.building.proofs.Toggling.{read_ranged}
use Rattle.building.proofs.toggle_all.Goals as goal

pub loop-j-init : goal.loop-j-init
loop-j-init c g = changing_begun g

pub toggle_at-toggle-requires : goal.toggle_at-toggle-requires
toggle_at-toggle-requires c =
    let g = c.requires.toggles.among in
    record {
      changes_len = g.held.size;
      j_lt_character_slots = slots-low g _ c.loop-j-test.true;
      j_value = read_ranged g _ c.loop-j-test.true;
    }

pub carry_toggle-requires : goal.carry_toggle-requires
carry_toggle-requires c =
    let l = (c.loop-j.invariant c.requires.toggles).laid in
    record {
      n_le_character_slots = laid_count l;
      characters_len = c.requires.characters_len;
      n_in_bounds = omega (arith, laid_count l, (laid_slots l).toggles);
      tabled = laid_tabled l;
    }

pub loop-j-preserved : goal.loop-j-preserved
loop-j-preserved c g =
    let l = c.loop-j in
    let a = c.args in
    changing_again g.among l.j c.loop-j-test.true a.characters.now l.toggles a.n a.table.now (l.invariant g) _
    c.toggle_at-toggle.ensures _ c.carry_toggle.ensures

pub shape_of-toggles : goal.shape_of-toggles
shape_of-toggles c =
    let g = c.requires.toggles in
    omega (arith, (laid_slots g.laid).toggles, (laid_slots (c.loop-j.invariant g).laid).toggles)

pub returns : goal.returns
returns c g = changing_ended g.among (c.loop-j.invariant g) c.loop-j-test.false
