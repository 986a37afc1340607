-- `splicing::start_of` meets its contract.
use mathlib.Core.Path.{refl}
use native.Mathlib.Omega.{arith}
use borrow.Author.Tests.{lt-ltb, le-ltb}
use Rattle.splicing.proofs.start_of.Goals as goal

pub returns-then-k-n : goal.returns-then-k-n
returns-then-k-n c = rw (lt-ltb _ _ c.if-k-n.true)

pub returns : goal.returns
returns c = rw (le-ltb c.args.k c.args.n (omega arith))
