-- `index::table::found_at` meets its contract: the place that is found is one more than the index.
use mathlib.Core.Path.{◌≡◌, sym, ◌∙◌}
use Prim.Native.Nat.{ℕ, suc, ◌+◌}
use native.Mathlib.Omega.{arith}
use mathlib.Core.Option.{Option, none, some}
use borrow.Author.Tests.{eq-eqb, ne_eqb, eqb-true}
use lib.Dec.{eqb}
use Rattle.lists.proofs.Tests.{agree}
use Rattle.woot.specs.Table.{is_at}
use Rattle.chains.specs.Places.{place_found}
use Rattle.index.proofs.table.found_at.Goals as goal

place_is : (i : ℕ) (w : Option ℕ) → eqb (place_found w) (i + 1) ≡ is_at i w
unfolding is_at
place_is i none = ne_eqb 0 (i + 1) (λ e. omega arith)
place_is i (some j) = agree _ _ (λ e. eq-eqb j i (omega (arith, eqb-true (suc j) (i + 1) e))) (λ e. eq-eqb (suc j) (i + 1) (omega (arith, eqb-true j i e)))

pub returns-then-found_near : goal.returns-then-found_near
returns-then-found_near c = c.if-found_near.true ∙ sym (c.found_near.ensures c.if-found_near.true)

pub returns-else-found_near : goal.returns-else-found_near
returns-else-found_near c = rw c.lookup.ensures (place_is _ _)
