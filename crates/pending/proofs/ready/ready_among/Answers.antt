-- `ready::ready_among` lends the parts in use.
use native.Mathlib.Omega.{arith}
use lib.ListN.{length-take}
use Rattle.pending.proofs.ready.ready_among.Goals as goal

pub slice_bounds-ready-end : goal.slice_bounds-ready-end
slice_bounds-ready-end c = simp length-take (omega arith)

pub slice_bounds-ready-end-2 : goal.slice_bounds-ready-end-2
slice_bounds-ready-end-2 c = simp length-take (omega arith)

pub slice_bounds-ready-end-3 : goal.slice_bounds-ready-end-3
slice_bounds-ready-end-3 c = simp length-take (omega arith)

pub ready-requires : goal.ready-requires
ready-requires c = c.requires.tabled

pub returns : goal.returns
returns c = c.ready.ensures
