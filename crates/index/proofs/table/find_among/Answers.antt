-- `index::table::find_among` lends the first n keys.
use native.Mathlib.Omega.{arith}
use lib.ListN.{length-take}
use Rattle.index.proofs.table.find_among.Goals as goal

pub slice_bounds-find-end : goal.slice_bounds-find-end
slice_bounds-find-end c = simp length-take (omega arith)

pub find-requires : goal.find-requires
find-requires c = c.requires.tabled

pub returns : goal.returns
returns c = c.find.ensures
