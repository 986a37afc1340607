-- `conversion::within_first` makes its tests one after the other.
use mathlib.Core.Path.{refl, sym, ◌∙◌}
use native.Mathlib.Omega.{arith}
use Rattle.memory.proofs.Fullness.{column-length}
use Rattle.conversion.proofs.Numbers.{characters_said, pending_said, both_said}
use Rattle.conversion.proofs.within_first.Goals as goal

pub returns-else-characters_within : goal.returns-else-characters_within
returns-else-characters_within c s t o v ranged =
    let a = c.args in
    let p = c.requires in
    let said = characters_said s.characters a.toggles.now a.n p.n_in_bounds t in
    let e = said ∙ sym c.characters_within.ensures ∙ c.if-characters_within.false in
    c.if-characters_within.false ∙ both_said s e refl

pub slice_bounds-pending_within-end : goal.slice_bounds-pending_within-end
slice_bounds-pending_within-end c =
    omega (arith, column-length 512 0 c.args.pending.now (omega (arith, c.requires.pending_len)))

pub pending_within-requires : goal.pending_within-requires
pending_within-requires c =
    record {
      w_in_bounds = omega (arith, c.requires.w_le_pending_slots, column-length 512 0 c.args.pending.now (omega (arith, c.requires.pending_len)));
      w_in_bounds_2 = omega (arith, c.requires.w_le_pending_slots, column-length 512 3 c.args.pending.now (omega (arith, c.requires.pending_len)));
    }

pub returns-then-characters_within : goal.returns-then-characters_within
returns-then-characters_within c s t o v ranged =
    let a = c.args in
    let said = characters_said s.characters a.toggles.now a.n c.requires.n_in_bounds t in
    let e = said ∙ sym c.characters_within.ensures ∙ c.if-characters_within.true in
    both_said s e (pending_said s.pending _ _ a.w (omega (arith, c.requires.w_le_pending_slots, column-length 512 0 a.pending.now (omega (arith, c.requires.pending_len)))) o v ranged ∙ sym c.pending_within.ensures)
