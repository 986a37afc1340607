-- `block_judging::clock_short` compares what is left of the clock, which is the sum compared with its end.
use Prim.Native.Nat.{ℕ, ◌+◌, ◌-◌, ◌≤◌}
use native.Mathlib.Omega.{arith}
use mathlib.Core.Path.{◌≡◌, sym, ◌∙◌}
use mathlib.Core.Logic.{⊎_elim}
use borrow.Author.Tests.{ltb-true, ltb-false, lt-ltb, le-ltb}
use lib.Dec.{ltb}
use Rattle.lists.proofs.Tests.{either}
use borrow.Author.Rules.{rules}
use Rattle.block_judging.proofs.clock_short.Goals as goal

left-or-sum : (m n k : ℕ) → n ≤ m → ltb (m - n) k ≡ ltb m (n + k)
left-or-sum m n k h =
    ⊎_elim (λ e. e ∙ sym (lt-ltb m (n + k) (omega (arith, ltb-true (m - n) k e))))
    (λ e. e ∙ sym (le-ltb m (n + k) (omega (arith, ltb-false (m - n) k e))))
    (either (ltb (m - n) k))

pub returns : goal.returns
returns c = left-or-sum 65535 c.args.site.clock c.args.count (omega arith)
