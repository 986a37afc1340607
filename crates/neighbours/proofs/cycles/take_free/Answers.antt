-- `cycles::take_free` meets its contract: the row gets a flag where it has none and both tests of its neighbours pass.
use Prim.Native.Nat.{ℕ}
use mathlib.Core.Path.{◌≡◌, ap, ◌∙◌}
use mathlib.Core.Bool.{Bool, true, false, ◌&&◌, not, and-false as and_no}
use mathlib.Core.List.{List}
use borrow.Author.Tests.{eq-eqb, ne_eqb}
use lib.ListN.{get_or}
use Rattle.lists.proofs.Tests.{clash, and_intro, failed, passed}
use Rattle.neighbours.specs.Steps.{settled, free_at, unflagged}
use Rattle.neighbours.proofs.Passing.{stays, goes}
use Rattle.neighbours.proofs.cycles.take_free.Goals as goal

module _ (above below : List ℕ) (n : ℕ) (flags : List ℕ) (k : ℕ) where
  flagged : (get_or flags k 0 ≡ 0 → ⊥) → unflagged flags k ≡ false
  unfolding unflagged
  flagged h = ne_eqb (get_or flags k 0) 0 h

  left : get_or flags k 0 ≡ 0 → unflagged flags k ≡ true
  unfolding unflagged
  left h = eq-eqb (get_or flags k 0) 0 h

  -- a neighbour, by the test of its place
  module _ (places : List ℕ) {p : ℕ} {b : Bool} (e : p ≡ get_or places k 0) (f : b ≡ settled (unflagged flags) n p) where
    here : b ≡ settled (unflagged flags) n (get_or places k 0)
    here = f ∙ ap (settled (unflagged flags) n) e

    fails-here : not b ≡ true → settled (unflagged flags) n (get_or places k 0) ≡ false
    fails-here h = failed here h

    passes-here : not b ≡ false → settled (unflagged flags) n (get_or places k 0) ≡ true
    passes-here h = passed here h

  bound-above : settled (unflagged flags) n (get_or above k 0) ≡ false
      → free_at above below n (unflagged flags) k ≡ false
  unfolding free_at
  bound-above h = ap (λ (b : Bool). b && settled (unflagged flags) n (get_or below k 0)) h

  bound-below : settled (unflagged flags) n (get_or below k 0) ≡ false
      → free_at above below n (unflagged flags) k ≡ false
  unfolding free_at
  bound-below h =
      ap (λ (b : Bool). settled (unflagged flags) n (get_or above k 0) && b) h
      ∙ and_no (settled (unflagged flags) n (get_or above k 0))

  free : settled (unflagged flags) n (get_or above k 0) ≡ true → settled (unflagged flags) n (get_or below k 0) ≡ true
      → free_at above below n (unflagged flags) k ≡ true
  unfolding free_at
  free h g = and_intro h g

pub returns-then-flags-k-ne0 : goal.returns-then-flags-k-ne0
returns-then-flags-k-ne0 c =
    let a = c.args in
    stays a.above.now a.below.now a.n a.k a.flags.now
    (λ o. clash o (flagged a.above.now a.below.now a.n a.flags.now a.k c.if-flags-k-ne0.true))

pub returns-then-not-settled : goal.returns-then-not-settled
returns-then-not-settled c =
    let a = c.args in
    stays a.above.now a.below.now a.n a.k a.flags.now
    (λ o. bound-above a.above.now a.below.now a.n a.flags.now a.k
    (fails-here a.above.now a.below.now a.n a.flags.now a.k a.above.now
    c.place.ensures c.settled.ensures c.if-not-settled.true-raw))

pub returns-then-not-settled-2 : goal.returns-then-not-settled-2
returns-then-not-settled-2 c =
    let a = c.args in
    stays a.above.now a.below.now a.n a.k a.flags.now
    (λ o. bound-below a.above.now a.below.now a.n a.flags.now a.k
    (fails-here a.above.now a.below.now a.n a.flags.now a.k a.below.now
    c.place-2.ensures c.settled-2.ensures c.if-not-settled-2.true-raw))

pub returns : goal.returns
returns c =
    let a = c.args in
    goes a.above.now a.below.now a.n a.k a.flags.now c.requires.k_lt_n c.requires.n_in_bounds_3
    (left a.above.now a.below.now a.n a.flags.now a.k c.if-flags-k-ne0.false)
    (free a.above.now a.below.now a.n a.flags.now a.k
    (passes-here a.above.now a.below.now a.n a.flags.now a.k a.above.now
    c.place.ensures c.settled.ensures c.if-not-settled.false-raw)
    (passes-here a.above.now a.below.now a.n a.flags.now a.k a.below.now
    c.place-2.ensures c.settled-2.ensures c.if-not-settled-2.false-raw))
