-- `visible::put_text` meets its contract. The loop's invariant: what is left of the text, put at the offset,
-- makes the slice what the whole text makes it.
use Prim.Native.Nat.{◌<◌}
use mathlib.Core.Path.{refl}
use Rattle.visible.proofs.Shown.{text-more, text-done, onward, arrived}
use native.Mathlib.Omega.{arith}
use Rattle.visible.proofs.put_text.Goals as goal

pub loop-i-init : goal.loop-i-init
loop-i-init c = record { room = omega arith; whole = refl; kept = refl }

pub loop-i-preserved : goal.loop-i-preserved
loop-i-preserved c =
    let a = c.args in
    let l = c.loop-i in
    let p = c.put_visible-at.ensures in
    let h : l.i < a.n = omega arith in
    let more = text-more a.code_points.now a.toggles.now a.n l.i h c.requires.n_in_bounds c.requires.n_in_bounds_2 in
    onward _ _ _ _ _ _ (rw more at l.invariant) p.value p.out_after

pub shape_of-out : goal.shape_of-out
shape_of-out c = c.loop-i.invariant.kept

pub returns : goal.returns
returns c =
    let a = c.args in
    let l = c.loop-i in
    arrived _ _ _ _ (rw (text-done a.code_points.now a.toggles.now a.n l.i (omega arith)) at l.invariant)
