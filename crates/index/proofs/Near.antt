-- A key that stands at the head of its chain, or where the link from the head leads, is found in one step or two.
use Prim.Native.Nat.{ℕ, ◌+◌, ◌-◌, ◌/◌, ◌≤◌, ◌<◌}
use native.Mathlib.Omega.{arith}
use mathlib.Core.Path.{◌≡◌, refl, ap, ◌∙◌}
use mathlib.Core.Bool.{Bool, true, ◌&&◌, ◌||◌, not}
use mathlib.Core.List.{List}
use mathlib.Core.Logic.{⊎_elim}
use borrow.Author.Tests.{eq-eqb, eqb-true}
use lib.Dec.{eqb}
use lib.ListN.{length, get_or}
use Rattle.lists.proofs.Tests.{and_left_lem, and_right, or_cases, side, clash, failed}
use Rattle.woot.specs.declared.Table.{Table}
use Rattle.woot.specs.Table.{chain_of, slot, walk, lookup, is_at, found_at}
use Rattle.chains.proofs.Walks.{walk_here, walk-on}

untrue : (b : Bool) → b ≡ true → not b ≡ true → ⊥
untrue b e f = clash e (failed refl f)

module _ (t : Table) (ks : List ℕ) (i : ℕ) (within : i < length ks) where
  abbrev k : ℕ
  k = get_or ks i 0

  -- the walk from a place to that of the index finds it
  comes : (n rest at next : ℕ) → length ks ≤ n + at → at < next → next ≡ i + 1 → is_at i (walk n t.links ks k rest at next) ≡ true
  unfolding is_at
  comes n rest at next enough later e =
      let here : next - 1 ≡ i = omega arith in
      rw (walk_here t.links ks k n rest at next enough later (omega arith) (ap (λ (j : ℕ). get_or ks j 0) here))
      (eq-eqb (next - 1) i here)

  module _ (head : ℕ) (is : head ≡ get_or t.heads (chain_of k) 0) where
    in_one : head ≡ i + 1 → found_at t ks i ≡ true
    unfolding lookup
    in_one e = rw (← is) (comes (length ks) k 0 head (omega arith) (omega arith) e)

    in_two : (next : ℕ) → 0 < head → head ≤ i + 1 → next ≡ get_or t.links (slot head k) 0 → (get_or ks (head - 1) 0 ≡ k → ⊥) → next ≡ i + 1
        → found_at t ks i ≡ true
    unfolding lookup
    in_two next under upto at other e =
        let above : head < i + 1 = ⊎_elim (λ h. absurd (other (ap (λ (j : ℕ). get_or ks j 0) (omega (arith, h, upto))))) (λ h. h) (side (i + 1) head) in
        rw (← is, walk-on t.links ks k (length ks) k 0 head (omega arith) under (omega arith) (length ks) (omega arith) other, ← at)
        (comes (length ks) (k / 2) head next (omega arith) (omega arith) e)

  -- as the code tests it
  pub near_found : (head at next : ℕ) → head ≡ get_or t.heads (chain_of k) 0 → 0 < at → at ≤ i + 1 → next ≡ get_or t.links (slot at k) 0
      → eqb head (i + 1) || ((eqb at head && not (eqb (get_or ks (at - 1) 0) k)) && eqb next (i + 1)) ≡ true
      → found_at t ks i ≡ true
  near_found head at next is under upto to e =
      ⊎_elim (λ h. in_one head is (eqb-true head (i + 1) h)) (λ h. second h)
      (or_cases (eqb head (i + 1)) ((eqb at head && not (eqb (get_or ks (at - 1) 0) k)) && eqb next (i + 1)) e)
    where
      second : (eqb at head && not (eqb (get_or ks (at - 1) 0) k)) && eqb next (i + 1) ≡ true → found_at t ks i ≡ true
      second h =
          let both = and_left_lem (eqb at head && not (eqb (get_or ks (at - 1) 0) k)) (eqb next (i + 1)) h in
          let same = eqb-true at head (and_left_lem (eqb at head) (not (eqb (get_or ks (at - 1) 0) k)) both) in
          in_two at (same ∙ is) next under upto to
          (λ p. untrue (eqb (get_or ks (at - 1) 0) k) (eq-eqb (get_or ks (at - 1) 0) k p) (and_right (eqb at head) (not (eqb (get_or ks (at - 1) 0) k)) both))
          (eqb-true next (i + 1) (and_right (eqb at head && not (eqb (get_or ks (at - 1) 0) k)) (eqb next (i + 1)) h))
