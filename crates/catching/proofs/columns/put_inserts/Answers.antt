-- `columns::put_inserts` meets its contract. The loop's invariant: the first i inserts are put.
use Prim.Native.Nat.{ℕ, ◌≤◌, ◌<◌}
use native.Mathlib.Omega.{arith}
use mathlib.Core.Path.{◌≡◌, refl, sym, ◌∙◌, subst}
use lib.ListN.{length, get_or}
use Rattle.catching.specs.Columns.{InsertsOf}
use Rattle.catching.proofs.Operations.{no-inserts, one-insert}
use Rattle.catching.proofs.columns.put_inserts.Goals.{Start}
use Rattle.catching.proofs.columns.put_inserts.Goals as goal

-- the row at an index
row : (s : Start) (i : ℕ) → i < s.args.count → get_or s.args.order.now i 0 < length s.args.ids.now
row s i h = s.requires.has_rows.rows i h

pub loop-i-init : goal.loop-i-init
loop-i-init c = (omega arith, no-inserts _ _ _ _ _ _ c.requires.numbers_len)

pub bounds-order-i : goal.bounds-order-i
bounds-order-i c = omega (arith, c.requires.has_rows.order-hold)

pub overflow_cast-row : goal.overflow_cast-row
overflow_cast-row c = omega (arith, c.type_inv.order c.loop-i.i)

pub offset_bounds-ids-row : goal.offset_bounds-ids-row
offset_bounds-ids-row c = omega (arith, row (goal.at.offset_bounds-ids-row c).Start c.loop-i.i (omega arith))

pub bounds-ids-row : goal.bounds-ids-row
bounds-ids-row c = omega (arith, row (goal.at.bounds-ids-row c).Start c.loop-i.i (omega arith))

pub offset_bounds-previous-row : goal.offset_bounds-previous-row
offset_bounds-previous-row c = omega (arith, row (goal.at.offset_bounds-previous-row c).Start c.loop-i.i (omega arith))

pub bounds-previous-row : goal.bounds-previous-row
bounds-previous-row c =
    omega (arith, row (goal.at.bounds-previous-row c).Start c.loop-i.i (omega arith), c.requires.has_rows.previous-hold)

pub offset_bounds-next-row : goal.offset_bounds-next-row
offset_bounds-next-row c = omega (arith, row (goal.at.offset_bounds-next-row c).Start c.loop-i.i (omega arith))

pub bounds-next-row : goal.bounds-next-row
bounds-next-row c =
    omega (
      arith,
      row (goal.at.bounds-next-row c).Start c.loop-i.i (omega arith),
      c.requires.has_rows.next-hold,
    )

pub offset_bounds-code_points-row : goal.offset_bounds-code_points-row
offset_bounds-code_points-row c =
    omega (arith, row (goal.at.offset_bounds-code_points-row c).Start c.loop-i.i (omega arith))

pub bounds-code_points-row : goal.bounds-code_points-row
bounds-code_points-row c =
    omega (
      arith,
      row (goal.at.bounds-code_points-row c).Start c.loop-i.i (omega arith),
      c.requires.has_rows.points-hold,
    )

pub put_at-requires : goal.put_at-requires
put_at-requires c =
    let l = c.loop-i in
    record {
      inserts_len = l.invariant.1.size;
      i_lt_character_slots = omega (arith, c.requires.count_le_character_slots);
    }

pub loop-i-preserved : goal.loop-i-preserved
loop-i-preserved c =
    let l = c.loop-i in (
      omega arith,
      one-insert _ _ _ _ _ l.invariant.1 (omega (arith, c.requires.count_le_character_slots)) refl c.put_at.ensures,
    )

pub shape_of-numbers : goal.shape_of-numbers
shape_of-numbers c = c.loop-i.invariant.1.size ∙ sym c.requires.numbers_len

pub returns : goal.returns
returns c =
    let l = c.loop-i in
    let a = c.args in
    let done : l.i ≡ a.count = omega arith in
    subst (λ (n : ℕ). InsertsOf a.ids.now a.previous.now a.next.now a.code_points.now a.order.now n
    l.numbers) done l.invariant.1
