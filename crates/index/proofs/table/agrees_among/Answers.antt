-- `index::table::agrees_among` lends the first n keys.
use native.Mathlib.Omega.{arith}
use lib.ListN.{length-take}
use Rattle.index.proofs.table.agrees_among.Goals as goal

pub slice_bounds-agrees-end : goal.slice_bounds-agrees-end
slice_bounds-agrees-end c = simp length-take (omega arith)

pub agrees-requires : goal.agrees-requires
agrees-requires c =
    record {
      heads_len = c.requires.heads_len;
      keys_in_bounds = simp length-take (omega (arith, c.requires.n_in_bounds));
    }

pub returns : goal.returns
returns c = c.agrees.ensures
