-- `decimal::width` meets its contract: the index where the digits start, taken from the array's length, leaves their number.
use native.Mathlib.Omega.{arith}
use Rattle.decimal.proofs.Alignment.{start-lt, width_is}
use Rattle.decimal.proofs.width.Goals as goal

pub overflow_sub-result : goal.overflow_sub-result
overflow_sub-result c = omega (arith, start-lt _ c.args.n (omega arith) c.align.ensures)

pub returns : goal.returns
returns c = width_is _ c.args.n (omega arith) c.align.ensures
