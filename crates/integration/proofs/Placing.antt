-- Placing on keys and places is placing by the rules: pass for pass the same interval, of the same candidates.
use Prim.Native.Nat.{ℕ, zero, suc, ◌-◌, ◌≤◌, ◌<◌}
use native.Mathlib.Omega.{arith}
use mathlib.Core.Path.{◌≡◌, refl, ap, sym, ◌∙◌}
use mathlib.Core.Bool.{Bool, true, false, ◌&&◌, and_assoc, cond}
use mathlib.Core.List.Memᴰ
use mathlib.Core.List.{List, [], ◌∷◌, map}
use mathlib.Core.Logic.{⊎_elim}
use borrow.Author.Tests.{lt-ltb, le-ltb, leb-true, le-leb}
use lib.Dec.{leb, ltb}
use Rattle.woot.specs.declared.Identifier.{Identifier}
use Rattle.woot.specs.declared.Character.{Character}
use Rattle.woot.specs.Identifiers.{below}
use Rattle.lists.specs.Lists.{keep}
use Rattle.woot.specs.Placing.{Interval as Between, Located, located, place_of, adjacent, candidate, candidates, narrowed, search, position}
use Rattle.lists.proofs.Tests.{either, agree}
use Rattle.convergence.proofs.Placing.{narrowing}
use Rattle.integration.specs.declared.Interval.{Interval}
use Rattle.woot.specs.Table.{key, keys}
use Rattle.index.specs.Keys.{Small, AllSmall}
use Rattle.index.specs.Keys.{previous_places, next_places}
use Rattle.integration.specs.Passes.{LocatedKey, located_keys, outside, candidate_in, walk_in, pass_in, width, search_in, position_in}
use Rattle.index.proofs.Keys.{key_below}

-- an interval as the rules have it
abbrev rules : Interval → Between
rules v = record { upper = v.upper; lower = v.lower }

adjacent-width : (v : Interval) → adjacent (rules v) ≡ leb (width v) 1
unfolding adjacent
adjacent-width v = agree _ _ (λ e. le-leb (width v) 1 (near (leb-true _ _ e))) (λ e. le-leb v.lower (suc v.upper) (far (leb-true _ _ e)))
  where
    near : v.lower ≤ suc v.upper → width v ≤ 1
    near h = omega arith

    far : width v ≤ 1 → v.lower ≤ suc v.upper
    far h = omega arith

module _ (cs : List Character) (x : Identifier) (p : Small x) where
  abbrev entry : ℕ → Character → LocatedKey
  entry k c = record { place = k; id = key c.id; above = place_of cs c.previous; below = place_of cs c.next }

  -- characters as a pass sees them, the first at place k
  abbrev seen : ℕ → List Character → List LocatedKey
  seen k ds = located_keys k (keys ds) (map (λ c. place_of cs c.previous) ds) (map (λ c. place_of cs c.next) ds)

  candidate-same : (v : Interval) (k : ℕ) (c : Character) → candidate_in v (entry k c) ≡ candidate cs (rules v) (record { place = k; at = c })
  unfolding candidate_in outside candidate
  candidate-same v k c = sym (and_assoc (ltb v.upper k && ltb k v.lower) (leb (place_of cs c.previous) v.upper) (leb v.lower (place_of cs c.next)))

  -- passing what is no candidate over is keeping the candidates
  walk-narrowed : (v : Interval) (u k : ℕ) (ds : List Character) → AllSmall ds → rules (walk_in (key x) v u (seen k ds)) ≡ narrowed x (record { upper = u; lower = v.lower }) (keep (candidate cs (rules v)) (located k ds))
  unfolding walk_in located_keys narrowed
  walk-narrowed v u k [] s = refl
  walk-narrowed v u k (d ∷ ds) s =
      let later : AllSmall ds = λ c m. s c (Memᴰ.tail m) in
      rw (candidate-same v k d, key_below d.id x (s d (Memᴰ.head refl)).id p)
      (go (candidate cs (rules v) (record { place = k; at = d })) (walk-narrowed v k (suc k) ds later) (walk-narrowed v u (suc k) ds later))
    where
      rest : List Located
      rest = keep (candidate cs (rules v)) (located (suc k) ds)

      stop : (t : Bool) (w : Interval) → rules w ≡ narrowed x (record { upper = k; lower = v.lower }) rest
          → rules (cond t w (record { upper = u; lower = k })) ≡ cond t (narrowed x (record { upper = k; lower = v.lower }) rest) (record { upper = u; lower = k })
      stop true w e = e
      stop false w e = refl

      go : (b : Bool) {w z : Interval} → rules w ≡ narrowed x (record { upper = k; lower = v.lower }) rest → rules z ≡ narrowed x (record { upper = u; lower = v.lower }) rest
          → rules (cond b (cond (below d.id x) w (record { upper = u; lower = k })) z) ≡ narrowed x (record { upper = u; lower = v.lower }) (cond b (record { place = k; at = d } ∷ rest) rest)
      go true {w} e f = stop (below d.id x) w e
      go false e f = f

module _ (cs : List Character) (s : AllSmall cs) (x : Identifier) (p : Small x) where
  abbrev all : List LocatedKey
  all = located_keys 1 (keys cs) (previous_places cs) (next_places cs)

  -- each step of the rules is one pass
  pass-narrowed : (v : Interval) → rules (pass_in all (key x) v) ≡ narrowed x (rules v) (candidates cs (rules v))
  unfolding pass_in candidates
  pass-narrowed v = walk-narrowed cs x p v v.upper 1 cs s

  -- with no candidate a pass leaves the interval as it was, and with one it is narrower
  search-none : (n : ℕ) (v : Interval) → leb (width v) 1 ≡ false → candidates cs (rules v) ≡ [] → search_in (suc n) all (key x) v ≡ search (suc n) cs x (rules v)
  unfolding search_in search narrowed
  search-none n v a e =
      let q : rules (pass_in all (key x) v) ≡ rules v = rw e at (pass-narrowed v) in
      let still : width (pass_in all (key x) v) ≡ width v = ap (λ (w : Between). w.lower - w.upper) q in
      rw (a, le-ltb (width (pass_in all (key x) v)) (width v) (omega arith), adjacent-width v ∙ a, e, search)

  search-again : (n : ℕ) (v : Interval) (l : Located) (ls : List Located) → leb (width v) 1 ≡ false → candidates cs (rules v) ≡ l ∷ ls
      → search_in n all (key x) (pass_in all (key x) v) ≡ search n cs x (rules (pass_in all (key x) v)) → search_in (suc n) all (key x) v ≡ search (suc n) cs x (rules v)
  unfolding search_in search
  search-again n v l ls a e r =
      let q : rules (pass_in all (key x) v) ≡ narrowed x (rules v) (l ∷ ls) = rw e at (pass-narrowed v) in
      let t = narrowing cs x (rules v) l ls (adjacent-width v ∙ a) e in
      let upper : (pass_in all (key x) v).upper ≡ (narrowed x (rules v) (l ∷ ls)).upper = ap (λ (w : Between). w.upper) q in
      let lower : (pass_in all (key x) v).lower ≡ (narrowed x (rules v) (l ∷ ls)).lower = ap (λ (w : Between). w.lower) q in
      let less : width (pass_in all (key x) v) < width v = omega arith in
      rw (a, lt-ltb (width (pass_in all (key x) v)) (width v) less, adjacent-width v ∙ a, e, search) (r ∙ ap (search n cs x) q)

  search-same : (n : ℕ) (v : Interval) → search_in n all (key x) v ≡ search n cs x (rules v)
  unfolding search_in search
  search-same zero v = refl
  search-same (suc n) v = ⊎_elim here (λ a. go a (candidates cs (rules v)) refl (search-same n)) (either (leb (width v) 1))
    where
      here : leb (width v) 1 ≡ true → search_in (suc n) all (key x) v ≡ search (suc n) cs x (rules v)
      here a = rw (a, adjacent-width v ∙ a)

      go : leb (width v) 1 ≡ false → (ls : List Located) → candidates cs (rules v) ≡ ls → ((w : Interval) → search_in n all (key x) w ≡ search n cs x (rules w)) → search_in (suc n) all (key x) v ≡ search (suc n) cs x (rules v)
      go a [] e r = search-none n v a e
      go a (l ∷ ls) e r = search-again n v l ls a e (r (pass_in all (key x) v))

  -- where the rules put x between any two places
  pub position-same : (upper lower : ℕ) → position_in (keys cs) (previous_places cs) (next_places cs) (key x) upper lower ≡ position cs x (record { upper = upper; lower = lower })
  unfolding position_in position
  position-same upper lower = search-same lower (record { upper = upper; lower = lower })
