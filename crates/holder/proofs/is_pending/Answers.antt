-- `holder::is_pending` lends the slots that are in use.
use native.Mathlib.Omega.{arith}
use lib.ListN.{length-take}
use borrow.Author.Rules.{rules}
use Rattle.holder.proofs.is_pending.Goals as goal

pub slice_bounds-has_toggle-end : goal.slice_bounds-has_toggle-end
slice_bounds-has_toggle-end c = simp length-take (omega arith)

pub slice_bounds-has_toggle-end-2 : goal.slice_bounds-has_toggle-end-2
slice_bounds-has_toggle-end-2 c = simp length-take (omega arith)

pub slice_bounds-has_toggle-end-3 : goal.slice_bounds-has_toggle-end-3
slice_bounds-has_toggle-end-3 c = simp length-take (omega arith)

pub returns : goal.returns
returns c = rw (c.has_toggle.ensures, c.key.ensures.value, c.stamp.ensures)
