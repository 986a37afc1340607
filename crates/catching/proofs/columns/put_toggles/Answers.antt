-- `columns::put_toggles` meets its contract. The loop's invariant: the toggles of the first i rows are put.
use Prim.Native.Nat.{ℕ, ◌≤◌}
use native.Mathlib.Omega.{arith}
use mathlib.Core.Path.{◌≡◌, refl, sym, ◌∙◌, subst}
use mathlib.Core.Logic.{⊎_elim}
use Rattle.catching.specs.Columns.{TogglesOf}
use Rattle.catching.proofs.Operations.{no-toggles, not-toggled, one_toggle}
use Rattle.catching.proofs.columns.put_toggles.Goals.{then-turns-ne0, else-turns-ne0}
use Rattle.catching.proofs.columns.put_toggles.Goals as goal

pub loop-i-init : goal.loop-i-init
loop-i-init c = (omega arith, no-toggles _ _ _ _ c.requires.numbers_len)

pub overflow_cast-turns : goal.overflow_cast-turns
overflow_cast-turns c =
    let l = c.loop-i in
    omega (arith, c.type_inv.toggles l.i)

pub overflow_add-stamp : goal.overflow_add-stamp
overflow_add-stamp c =
    let l = c.loop-i in
    omega (arith, c.type_inv.toggles l.i)

pub put_at-requires : goal.put_at-requires
put_at-requires c =
    let l = c.loop-i in
    record {
      inserts_len = l.invariant.1.size;
      i_lt_character_slots = omega (arith, l.invariant.1.few, c.requires.n_le_character_slots);
    }

pub overflow_add-count : goal.overflow_add-count
overflow_add-count c =
    let l = c.loop-i in
    omega (arith, l.invariant.1.few, c.requires.n_le_character_slots)

pub loop-i-preserved : goal.loop-i-preserved
loop-i-preserved c =
    let l = c.loop-i in (
      omega arith,
      elim c.if-turns-ne0.branch [
        | then-turns-ne0 w ↦
            one_toggle _ _ _ l.invariant.1 (λ z. omega (arith, z, w.if-turns-ne0.true)) (omega (arith, c.type_inv.toggles l.i))
            (omega (arith, l.invariant.1.few, c.requires.n_le_character_slots)) refl w.put_at.ensures w.count-is w.numbers-is
        | else-turns-ne0 w ↦
            not-toggled _ _ _ l.invariant.1 (omega (arith, w.if-turns-ne0.false)) w.count-is w.numbers-is
      ],
    )

pub shape_of-numbers : goal.shape_of-numbers
shape_of-numbers c = c.loop-i.invariant.1.size ∙ sym c.requires.numbers_len

pub returns : goal.returns
returns c =
    let l = c.loop-i in
    let a = c.args in
    let done : l.i ≡ a.n = omega arith in
    subst (λ (n : ℕ). TogglesOf a.ids.now a.toggles.now n a.sender l.numbers l.count) done l.invariant.1
