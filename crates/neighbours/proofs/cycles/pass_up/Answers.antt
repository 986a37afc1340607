-- `cycles::pass_up` meets its contract. The loop's invariant: row k and those below it were seen.
use Prim.Native.Nat.{ℕ, ◌-◌, ◌≤◌, ◌<◌}
use native.Mathlib.Omega.{arith}
use mathlib.Core.Path.{◌≡◌}
use mathlib.Core.Logic.{◌⊎◌, inl, inr, ⊎_elim}
use Rattle.lists.proofs.Tests.{side}
use Rattle.neighbours.proofs.Passing.{begun, joined, seen, remaining-few}
use Rattle.neighbours.proofs.cycles.pass_up.Goals as goal

one_more : (n k j : ℕ) → (k - 1 ≤ j) × (j < n) → ((k ≤ j) × (j < n)) ⊎ (j ≡ k - 1)
one_more n k j h =
    ⊎_elim (λ l. inl (l, h.1)) (λ l. inr (omega (arith, l, h.0))) (side k j)

pub loop-k-init : goal.loop-k-init
loop-k-init c = begun _ _ _ _ _ (λ j h. omega (arith, h.0, h.1))

pub take_free-taken-requires : goal.take_free-taken-requires
take_free-taken-requires c =
    let l = c.loop-k in
    record {
      k_lt_n = omega arith;
      n_in_bounds = c.requires.n_in_bounds;
      n_in_bounds_2 = c.requires.n_in_bounds_2;
      n_in_bounds_3 = omega (arith, l.invariant.size, c.requires.n_in_bounds_3);
    }

pub overflow_add-taken : goal.overflow_add-taken
overflow_add-taken c =
    let l = c.loop-k in
    let a = c.args in
    omega (
      arith,
      l.invariant.counted,
      c.take_free-taken.ensures.counted,
      remaining-few a.flags.now a.n,
    )

pub loop-k-preserved : goal.loop-k-preserved
loop-k-preserved c =
    let l = c.loop-k in
    let a = c.args in
    joined _ _ _ l.invariant c.take_free-taken.ensures (one_more a.n l.k)

pub shape_of-flags : goal.shape_of-flags
shape_of-flags c = c.loop-k.invariant.size

pub returns : goal.returns
returns c =
    let l = c.loop-k in
    let done : l.k ≡ 0 = omega arith in
    seen _ _ _ (λ j h. (omega (arith, done), h)) l.invariant
