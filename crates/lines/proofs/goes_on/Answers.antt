-- `lines::goes_on` meets its contract: past the end there is no byte.
use mathlib.Core.Path.{refl}
use native.Mathlib.Omega.{arith}
use lib.ListN.{length}
use borrow.Author.Tests.{lt-ltb, le-ltb}
use Rattle.lines.specs.Answers.{goes_on_at}
use Rattle.lines.proofs.goes_on.Goals as goal

pub returns-then-at-line : goal.returns-then-at-line
unfolding goes_on_at
returns-then-at-line c = rw (lt-ltb _ _ c.if-at-line.true) refl

pub returns-else-at-line : goal.returns-else-at-line
unfolding goes_on_at
returns-else-at-line c = rw (le-ltb c.args.at (length c.args.line.now) (omega arith)) refl
