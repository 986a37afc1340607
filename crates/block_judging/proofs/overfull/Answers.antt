-- `block_judging::overfull` compares the sum, which fits once there are not more characters to come than slots.
use Prim.Native.Nat.{ℕ, ◌+◌, ◌≤◌, ◌<◌}
use native.Mathlib.Omega.{arith}
use mathlib.Core.Path.{◌≡◌, sym}
use mathlib.Core.Bool.{true, not}
use borrow.Author.Tests.{lt-ltb}
use lib.Dec.{eqb, ltb}
use lib.ListN.{take, length-take}
use Rattle.lists.proofs.Members.{keep-length}
use borrow.Author.Rules.{rules}
use Rattle.block_judging.proofs.overfull.Goals.{After-count_inserts}
use Rattle.block_judging.proofs.overfull.Goals as goal

-- the inserts are among the pending operations
few : (c : After-count_inserts) → c.count_inserts.result ≤ 512
few c =
    let own = take c.args.w c.args.own.now in
    omega (arith, c.count_inserts.ensures, keep-length (λ (k : ℕ). not (eqb k 0)) own, length-take c.args.w c.args.own.now, c.requires.w_le_pending_slots)

beyond : (a k : ℕ) → 1024 < k → true ≡ ltb 1024 (a + k)
beyond a k h = sym (lt-ltb 1024 (a + k) (omega arith))

pub returns-then-count-gt-CHARACTERS : goal.returns-then-count-gt-CHARACTERS
returns-then-count-gt-CHARACTERS c = beyond _ _ c.if-count-gt-CHARACTERS.true

pub slice_bounds-count_inserts-end : goal.slice_bounds-count_inserts-end
slice_bounds-count_inserts-end c = simp length-take (omega arith)

pub overflow_add-result : goal.overflow_add-result
overflow_add-result c = omega (arith, few (goal.at.overflow_add-result c).After-count_inserts)

pub overflow_add-result-2 : goal.overflow_add-result-2
overflow_add-result-2 c = omega (arith, few (goal.at.overflow_add-result-2 c).After-count_inserts)

pub returns : goal.returns
returns c = rw c.count_inserts.ensures
