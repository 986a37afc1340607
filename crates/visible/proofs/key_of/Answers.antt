-- `visible::key_of` meets its contract: the key in the slot that was found, which is one of the n.
use Prim.Native.Nat.{◌<◌}
use mathlib.Core.Path.{sym, ◌∙◌}
use Rattle.visible.proofs.Shown.{slot-within, slot-key, key-none}
use native.Mathlib.Omega.{arith}
use Rattle.visible.proofs.key_of.Goals.{In-Some}
use Rattle.visible.proofs.key_of.Goals as goal

-- the slot is one of the n
found : (c : In-Some) → c.in-Some.i < c.args.n
found c =
    slot-within c.args.toggles.now c.args.n c.args.k _ c.requires.n_in_bounds_2 c.nth.ensures c.in-Some.is

pub offset_bounds-ids-i : goal.offset_bounds-ids-i
offset_bounds-ids-i c = omega (arith, found (goal.at.offset_bounds-ids-i c).In-Some)

pub bounds-ids-i : goal.bounds-ids-i
bounds-ids-i c = omega (arith, found (goal.at.bounds-ids-i c).In-Some)

pub returns-in-Some : goal.returns-in-Some
returns-in-Some c cs e f =
    let a = c.args in
    slot-key cs a.ids.now a.n a.k _ a.mark e
    (sym (c.nth.ensures cs f) ∙ c.in-Some.is) (found (goal.at.returns-in-Some c).In-Some)

pub returns-in-None : goal.returns-in-None
returns-in-None c cs e f =
    let a = c.args in
    key-none cs a.k a.mark (sym (c.nth.ensures cs f) ∙ c.in-None.is)
