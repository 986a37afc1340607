-- `waiting::fresh_at` meets its contract.
use native.Mathlib.Omega.{arith}
use mathlib.Core.Path.{ap}
use mathlib.Core.Bool.{not}
use lib.ListN.{length-take}
use borrow.Author.Tests.{eq-eqb, ne_eqb}
use Rattle.well_formed.specs.PendingForm.{fresh_at}
use Rattle.well_formed.proofs.waiting.fresh_at.Goals as goal

pub returns-then-own-j-ne0 : goal.returns-then-own-j-ne0
unfolding fresh_at
returns-then-own-j-ne0 c = rw (ne_eqb _ 0 c.if-own-j-ne0.true)

pub slice_bounds-has_toggle-end : goal.slice_bounds-has_toggle-end
slice_bounds-has_toggle-end c = simp length-take (omega arith)

pub slice_bounds-has_toggle-end-else-own-j-ne0 : goal.slice_bounds-has_toggle-end-else-own-j-ne0
slice_bounds-has_toggle-end-else-own-j-ne0 c = simp length-take (omega arith)

pub slice_bounds-has_toggle-end-else-own-j-ne0-2 : goal.slice_bounds-has_toggle-end-else-own-j-ne0-2
slice_bounds-has_toggle-end-else-own-j-ne0-2 c = simp length-take (omega arith)

pub returns-else-own-j-ne0 : goal.returns-else-own-j-ne0
unfolding fresh_at
returns-else-own-j-ne0 c = rw (eq-eqb _ 0 c.if-own-j-ne0.false) (ap not c.has_toggle.ensures)
