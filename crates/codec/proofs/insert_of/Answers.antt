-- `codec::insert_of` meets its contract: each number fits its field, since its limit does.
use native.Mathlib.Omega.{arith}
use lib.ListN.{get_or}
use Rattle.codec.specs.Operations.{insert_limits, identifier_at, insert_of}
use Rattle.lines.proofs.Values.{at_most_at}
use Rattle.codec.proofs.Fitting.{fits_whole}
use Rattle.codec.proofs.insert_of.Goals as goal

pub overflow_cast-result : goal.overflow_cast-result
overflow_cast-result c =
    let b = at_most_at insert_limits c.args.values c.requires in omega (arith, b 2 (omega arith))

pub returns : goal.returns
unfolding insert_of identifier_at
returns c =
    let b = at_most_at insert_limits c.args.values c.requires in
    let id = fits_whole c.identifier.ensures (omega (arith, b 0 (omega arith))) (omega (arith, b 1 (omega arith))) in
    let previous = fits_whole c.identifier-2.ensures (omega (arith, b 3 (omega arith))) (omega (arith, b 4 (omega arith))) in
    let next = fits_whole c.identifier-3.ensures (omega (arith, b 5 (omega arith))) (omega (arith, b 6 (omega arith))) in
    λ j. record {
      id = id j;
      code_point = get_or c.args.values 2 0;
      previous = previous j;
      next = next j;
    }
