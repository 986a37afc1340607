-- `visible::text_length` meets its contract. The loop's invariant: the bytes counted, with those left, are all.
use mathlib.Core.Path.{ap}
use lib.ListN.{length}
use Rattle.visible.proofs.Shown.{spelt-few, length_more, text-done}
use native.Mathlib.Omega.{arith}
use Rattle.visible.proofs.text_length.Goals as goal

pub loop-i-init : goal.loop-i-init
loop-i-init c = (omega arith, omega arith)

pub overflow_add-bytes : goal.overflow_add-bytes
overflow_add-bytes c = omega (arith, spelt-few _ _ _ c.size-bytes.ensures)

pub loop-i-preserved : goal.loop-i-preserved
loop-i-preserved c =
    let a = c.args in
    let l = c.loop-i in
    let more = length_more a.code_points.now a.toggles.now a.n l.i _ c.size-bytes.ensures (omega arith) c.requires.n_in_bounds c.requires.n_in_bounds_2 in
    (omega (arith, spelt-few _ _ _ c.size-bytes.ensures), omega (arith, more))

pub returns : goal.returns
returns c =
    let a = c.args in
    omega (arith, ap length (text-done a.code_points.now a.toggles.now a.n c.loop-i.i (omega arith)))
