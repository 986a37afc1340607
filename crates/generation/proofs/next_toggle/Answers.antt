-- `next_toggle` has the fields that the rules give it: the count is compared by arithmetic, however the sum is written.
use mathlib.Core.Path.{ap}
use borrow.Author.Rules.{rules}
use native.Mathlib.Omega.{arith}
use Rattle.generation.proofs.next_toggle.Goals as goal

pub returns : goal.returns
returns c =
    ap (λ m. record { sender = c.args.site.number; target = c.args.target; toggles = m }) (omega arith)
