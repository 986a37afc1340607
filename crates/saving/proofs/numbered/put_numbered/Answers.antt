-- `saving::numbered::put_numbered` meets its contract: the numbers that count are lent.
use lib.ListN.{length-take}
use Rattle.saving.specs.Documents.{line_bytes}
use Rattle.saving.proofs.Documents.{full_line}
use borrow.Author.Rules.{rules}
use native.Mathlib.Omega.{arith}
use Rattle.saving.proofs.numbered.put_numbered.Goals as goal

pub slice_bounds-numbers-end : goal.slice_bounds-numbers-end
slice_bounds-numbers-end c =
    omega (
      arith,
      c.requires,
      full_line c.args.line
          c.well_formed.0,
    )

pub slice_bounds-put_line-end-2 : goal.slice_bounds-put_line-end-2
slice_bounds-put_line-end-2 c =
    simp length-take (omega (
      arith,
      c.requires,
      full_line
          c.args.line c.well_formed.0,
    ))

pub returns : goal.returns
unfolding line_bytes
returns c =
    record {
      value = c.put_line.ensures.value;
      out_after = c.put_line.ensures.out_after;
    }
