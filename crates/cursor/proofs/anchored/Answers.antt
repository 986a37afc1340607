-- `cursor::anchored` meets its contract: the key in the slot that was found, which is one of the n.
use Prim.Native.Nat.{◌<◌}
use mathlib.Core.Path.{sym, ◌∙◌}
use Rattle.cursor.proofs.Slots.{top_anchor, found_anchor, no_anchor}
use Rattle.visible.proofs.Shown.{slot-within}
use borrow.Author.Rules.{rules}
use native.Mathlib.Omega.{arith}
use Rattle.cursor.proofs.anchored.Goals.{In-Some}
use Rattle.cursor.proofs.anchored.Goals as goal

-- the slot is one of the n
found : (c : In-Some) → c.in-Some.i < c.args.n
found c =
    slot-within c.args.toggles.now c.args.n _ _ c.requires.n_in_bounds_2 c.nth.ensures c.in-Some.is

pub returns-then-point-eq0 : goal.returns-then-point-eq0
returns-then-point-eq0 c cs e f = top_anchor cs _ c.if-point-eq0.true

pub offset_bounds-ids-i : goal.offset_bounds-ids-i
offset_bounds-ids-i c = omega (arith, found (goal.at.offset_bounds-ids-i c).In-Some)

pub bounds-ids-i : goal.bounds-ids-i
bounds-ids-i c = omega (arith, found (goal.at.bounds-ids-i c).In-Some)

pub returns-in-Some : goal.returns-in-Some
returns-in-Some c cs e f =
    let a = c.args in
    let at = sym (c.nth.ensures cs f) ∙ c.in-Some.is in
    found_anchor cs a.point c.if-point-eq0.false a.ids.now a.n _ e at (found (goal.at.returns-in-Some c).In-Some)

pub returns-in-None : goal.returns-in-None
returns-in-None c cs e f = no_anchor cs _ c.if-point-eq0.false (sym (c.nth.ensures cs f) ∙ c.in-None.is)
