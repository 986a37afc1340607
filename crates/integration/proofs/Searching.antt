-- A search, pass by pass: it goes on from where it stands, and ends with nothing between, or where a pass met no candidate.
use Prim.Native.Nat.{ℕ, zero, suc, ◌≤◌, ◌<◌}
use native.Mathlib.Omega.{arith}
use mathlib.Core.Path.{◌≡◌}
use mathlib.Core.List.{List}
use mathlib.Core.Option.{Option, none, some}
use borrow.Author.Tests.{lt-ltb, le-ltb, le-leb, lt-leb}
use Rattle.integration.specs.declared.Interval.{Interval}
use Rattle.integration.specs.Passes.{LocatedKey, pass_in, width, search_in}

-- a search from v that gives the answer, with passes enough
pub record Searching (es : List LocatedKey) (k : ℕ) (v : Interval) (answer : Option ℕ) : Type 0 where
  pub passes : ℕ
  pub enough : width v ≤ suc passes
  pub gives : search_in passes es k v ≡ answer

module _ (es : List LocatedKey) (k : ℕ) (v : Interval) (answer : Option ℕ) where
  pub arrived : width v ≤ 1 → Searching es k v answer → some v.upper ≡ answer
  unfolding search_in
  arrived h s = go s.passes s.gives
    where
      go : (n : ℕ) → search_in n es k v ≡ answer → some v.upper ≡ answer
      go zero e = e
      go (suc n) e = rw (le-leb (width v) 1 h) at e

  module _ (w : Interval) (p : w ≡ pass_in es k v) (h : 1 < width v) where
    pub nowhere : width v ≤ width w → Searching es k v answer → none ≡ answer
    unfolding search_in
    nowhere g s = go s.passes s.enough s.gives
      where
        go : (n : ℕ) → width v ≤ suc n → search_in n es k v ≡ answer → none ≡ answer
        go zero f e = absurd (omega arith)
        go (suc n) f e = rw (lt-leb (width v) 1 h, ← p, le-ltb (width w) (width v) g) at e

    pub again : width w < width v → Searching es k v answer → Searching es k w answer
    unfolding search_in
    again g s = go s.passes s.enough s.gives
      where
        go : (n : ℕ) → width v ≤ suc n → search_in n es k v ≡ answer → Searching es k w answer
        go zero f e = absurd (omega arith)
        go (suc n) f e = record { passes = n; enough = omega arith; gives = rw (lt-leb (width v) 1 h, ← p, lt-ltb (width w) (width v) g) at e }
