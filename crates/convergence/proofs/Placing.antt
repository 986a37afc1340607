-- Placing: each step narrows the interval to one between candidates, so it ends, within the interval it began with.
-- What a step keeps is proved by induction over the narrowing, in which the fuel is no longer seen.
use Prim.Native.Nat.{ℕ, zero, suc, ◌+◌, ◌≤◌, ◌<◌}
use native.Mathlib.Omega.{arith}
use mathlib.Core.Path.{◌≡◌, refl, sym, ◌∙◌, subst}
use mathlib.Core.Bool.{Bool, true, false, ◌&&◌, cond}
use mathlib.Core.List.Memᴰ
use mathlib.Core.List.{List, [], ◌∷◌, Memᴰ}
use mathlib.Core.Logic.{◌⊎◌, inl, inr, ⊎_elim}
use mathlib.Core.Option.{Option, none, some, none-ne-some}
use borrow.Author.Tests.{ltb-true, leb-true, leb-false, lt-ltb, le-leb}
use lib.Dec.{leb, ltb}
use Rattle.woot.specs.declared.Identifier.{Identifier}
use Rattle.woot.specs.declared.Character.{Character}
use Rattle.woot.specs.Identifiers.{below}
use Rattle.lists.specs.Lists.{keep}
use Rattle.convergence.specs.Theorems.{PlacingRecurs}
use Rattle.woot.specs.Placing.{place_of, Interval, Located, located, adjacent, candidate, candidates, narrowed, search, position}
use Rattle.lists.proofs.Tests.{either, and_left_lem, and_right, and_intro}
use Rattle.lists.proofs.Members.{keep_member}

-- what the test for candidates says: strictly between the ends, with both neighbours outside
pub record Candidate (cs : List Character) (v : Interval) (l : Located) : Type 0 where
  pub under : v.upper < l.place
  pub over : l.place < v.lower
  pub previous-out : place_of cs l.at.previous ≤ v.upper
  pub next-out : v.lower ≤ place_of cs l.at.next

four : (a b c d : Bool) → (a && b && c && d) ≡ true → (a ≡ true) × (b ≡ true) × (c ≡ true) × (d ≡ true)
four a b c d h =
    let abc = and_left_lem (a && b && c) d h in
    let ab = and_left_lem (a && b) c abc in
    (and_left_lem a b ab, and_right a b ab, and_right (a && b) c abc, and_right (a && b && c) d h)

module _ (cs : List Character) (v : Interval) (l : Located) where
  pub candidate-is : candidate cs v l ≡ true → Candidate cs v l
  unfolding candidate
  candidate-is h =
      let t =
      four (ltb v.upper l.place) (ltb l.place v.lower) (leb (place_of cs l.at.previous) v.upper)
      (leb v.lower (place_of cs l.at.next))
      h in
      record { under = ltb-true _ _ t.0; over = ltb-true _ _ t.1; previous-out = leb-true _ _ t.2; next-out = leb-true _ _ t.3 }

  pub is-candidate : Candidate cs v l → candidate cs v l ≡ true
  unfolding candidate
  is-candidate c =
      and_intro (and_intro (and_intro (lt-ltb _ _ c.under) (lt-ltb _ _ c.over)) (le-leb _ _ c.previous-out))
      (le-leb _ _ c.next-out)

  pub candidates-are : Memᴰ l (candidates cs v) → Candidate cs v l
  unfolding candidates
  candidates-are m = candidate-is (keep_member (candidate cs v) (located 1 cs) m).1

-- the places rise, and the first is over u
abbrev Rising : ℕ → List Located → Type 0
Rising u [] = Unit {0}
Rising u (l ∷ ls) = (u < l.place) × Rising l.place ls

rising_from : (u w : ℕ) (ls : List Located) → u ≤ w → Rising w ls → Rising u ls
rising_from u w [] h r = tt
rising_from u w (l ∷ ls) h r = (omega arith, r.1)

rising_keep : (p : Located → Bool) (u : ℕ) (ls : List Located) → Rising u ls → Rising u (keep p ls)
rising_keep p u [] r = tt
rising_keep p u (l ∷ ls) r = go (p l) (rising_keep p l.place ls r.1)
  where
    go : (b : Bool) → Rising l.place (keep p ls) → Rising u (cond b (l ∷ keep p ls) (keep p ls))
    go true q = (r.0, q)
    go false q = rising_from u l.place (keep p ls) (omega arith) q

rising_located : (k : ℕ) (cs : List Character) → Rising k (located (suc k) cs)
rising_located k [] = tt
rising_located k (c ∷ cs) = (omega arith, rising_located (suc k) cs)

rising_candidates : (cs : List Character) (v : Interval) → Rising 0 (candidates cs v)
unfolding candidates
rising_candidates cs v = rising_keep (candidate cs v) 0 (located 1 cs) (rising_located 0 cs)

-- how the next interval lies in the last one: each end is as it was, or at a candidate, one that x passed at the top and
-- one that it did not at the bottom
pub record Narrowing (cs : List Character) (x : Identifier) (v w : Interval) : Type 0 where
  pub apart : w.upper < w.lower
  pub upper_in : v.upper ≤ w.upper
  pub lower_in : w.lower ≤ v.lower
  pub upper-end : (w.upper ≡ v.upper) ⊎ ((l : Located) × Memᴰ l (candidates cs v) × (below l.at.id x ≡ true) × (w.upper ≡ l.place))
  pub lower-end : (w.lower ≡ v.lower) ⊎ ((l : Located) × Memᴰ l (candidates cs v) × (below l.at.id x ≡ false) × (w.lower ≡ l.place))

-- a walk over the candidates ls from u, where it ended
record Walk (cs : List Character) (x : Identifier) (v : Interval) (u : ℕ) (ls : List Located) (w : Interval) : Type 0 where
  narrowing : Narrowing cs x v w
  onward : u ≤ w.upper
  shorter : (l : Located) → Memᴰ l ls → w.lower + u < v.lower + w.upper

module _ (cs : List Character) (x : Identifier) (v : Interval) where
  abbrev from : ℕ → Interval
  from u = record { upper = u; lower = v.lower }

  walk : (u : ℕ) (ls : List Located) → Narrowing cs x v (from u) → ((l : Located) → Memᴰ l ls → Memᴰ l (candidates cs v))
      → Rising u ls → Walk cs x v u ls (narrowed x (from u) ls)
  unfolding narrowed
  walk u [] n f r = record { narrowing = n; onward = omega arith; shorter = λ l m. absurd (Memᴰ.not-nil m) }
  walk u (l ∷ ls) n f r =
      ⊎_elim (λ e. passed e (walk l.place ls (next e) (λ k m. f k (Memᴰ.tail m)) r.1)) stopped
      (either (below l.at.id x))
    where
      inside : Candidate cs v l
      inside = candidates-are cs v l (f l (Memᴰ.head refl))

      next : below l.at.id x ≡ true → Narrowing cs x v (from l.place)
      next e =
          record {
            apart = inside.over;
            upper_in = omega (arith, inside);
            lower_in = n.lower_in;
            upper-end = inr (l, f l (Memᴰ.head refl), e, refl);
            lower-end = n.lower-end;
          }

      passed : below l.at.id x ≡ true → Walk cs x v l.place ls (narrowed x (from l.place) ls)
          → Walk cs x v u (l ∷ ls) (narrowed x (from u) (l ∷ ls))
      passed e q = rw e (record { narrowing = q.narrowing; onward = omega arith; shorter = λ k m. omega arith })

      stopped : below l.at.id x ≡ false → Walk cs x v u (l ∷ ls) (narrowed x (from u) (l ∷ ls))
      stopped e =
          rw e
          (record {
            narrowing =
                record {
                  apart = r.0;
                  upper_in = n.upper_in;
                  lower_in = omega (arith, inside);
                  upper-end = n.upper-end;
                  lower-end = inr (l, f l (Memᴰ.head refl), e, refl);
                };
            onward = omega arith;
            shorter = λ k m. omega (arith, inside);
          })

  -- a step from an interval with characters between and a candidate
  pub narrowing : (l : Located) (ls : List Located) → adjacent v ≡ false → candidates cs v ≡ l ∷ ls
      → Narrowing cs x v (narrowed x v (l ∷ ls)) × ((narrowed x v (l ∷ ls)).lower + v.upper < v.lower + (narrowed x v (l ∷ ls)).upper)
  unfolding adjacent
  narrowing l ls a e = (w.narrowing, w.shorter l (Memᴰ.head refl))
    where
      still : Narrowing cs x v v
      still =
          record {
            apart = omega (arith, leb-false v.lower (suc v.upper) a);
            upper_in = omega arith;
            lower_in = omega arith;
            upper-end = inl refl;
            lower-end = inl refl;
          }

      listed : (k : Located) → Memᴰ k (l ∷ ls) → Memᴰ k (candidates cs v)
      listed k m = subst (Memᴰ k) (sym e) m

      rising : Rising v.upper (l ∷ ls)
      rising = ((candidates-are cs v l (listed l (Memᴰ.head refl))).under, (subst (Rising 0) e (rising_candidates cs v)).1)

      w : Walk cs x v v.upper (l ∷ ls) (narrowed x v (l ∷ ls))
      w = walk v.upper (l ∷ ls) still listed rising

pub adjacent-is : (v : Interval) → adjacent v ≡ true → v.lower ≤ suc v.upper
unfolding adjacent
adjacent-is v h = leb-true _ _ h

pub is-adjacent : (v : Interval) → v.lower ≤ suc v.upper → adjacent v ≡ true
unfolding adjacent
is-adjacent v h = le-leb _ _ h

module _ (cs : List Character) (x : Identifier) where
  search-adjacent : (n : ℕ) (v : Interval) → adjacent v ≡ true → search n cs x v ≡ some v.upper
  unfolding search
  search-adjacent zero v a = refl
  search-adjacent (suc n) v a = rw (a, search)

  search-none : (n : ℕ) (v : Interval) → adjacent v ≡ false → candidates cs v ≡ [] → search (suc n) cs x v ≡ none
  unfolding search
  search-none n v a e = rw (a, e, search)

  search-again : (n : ℕ) (v : Interval) (l : Located) (ls : List Located) → adjacent v ≡ false → candidates cs v ≡ l ∷ ls
      → search (suc n) cs x v ≡ search n cs x (narrowed x v (l ∷ ls))
  unfolding search
  search-again n v l ls a e = rw (a, e, search)

  -- fuel that covers the characters between is enough
  search-enough : (m n : ℕ) (v : Interval) → v.lower ≤ suc (m + v.upper) → v.lower ≤ suc (n + v.upper) → search m cs x v ≡ search n cs x v
  search-enough zero n v h g = let a = is-adjacent v (omega arith) in search-adjacent zero v a ∙ sym (search-adjacent n v a)
  search-enough (suc m) zero v h g = let a = is-adjacent v (omega arith) in search-adjacent (suc m) v a ∙ sym (search-adjacent zero v a)
  search-enough (suc m) (suc n) v h g =
      ⊎_elim (λ a. search-adjacent (suc m) v a ∙ sym (search-adjacent (suc n) v a)) (λ a. go a (λ w. search-enough m n w) (candidates cs v) refl) (either (adjacent v))
    where
      go : adjacent v ≡ false → ((w : Interval) → w.lower ≤ suc (m + w.upper) → w.lower ≤ suc (n + w.upper) → search m cs x w ≡ search n cs x w)
          → (ls : List Located) → candidates cs v ≡ ls → search (suc m) cs x v ≡ search (suc n) cs x v
      go a r [] e = search-none m v a e ∙ sym (search-none n v a e)
      go a r (l ∷ ls) e =
          let w = narrowing cs x v l ls a e in
          search-again m v l ls a e ∙ r (narrowed x v (l ∷ ls)) (omega arith) (omega arith) ∙ sym (search-again n v l ls a e)

  pub position-adjacent : (v : Interval) → adjacent v ≡ true → position cs x v ≡ some v.upper
  unfolding position
  position-adjacent v a = search-adjacent v.lower v a

  pub position-none : (v : Interval) → adjacent v ≡ false → candidates cs v ≡ [] → position cs x v ≡ none
  unfolding position
  position-none v a e = search-enough v.lower (suc v.lower) v (omega arith) (omega arith) ∙ search-none v.lower v a e

  pub position-again : (v : Interval) (l : Located) (ls : List Located) → adjacent v ≡ false → candidates cs v ≡ l ∷ ls
      → position cs x v ≡ position cs x (narrowed x v (l ∷ ls))
  unfolding position
  position-again v l ls a e =
      let w = narrowing cs x v l ls a e in
      search-enough v.lower (suc v.lower) v (omega arith) (omega arith) ∙ search-again v.lower v l ls a e
      ∙ search-enough v.lower (narrowed x v (l ∷ ls)).lower (narrowed x v (l ∷ ls)) (omega arith) (omega arith)

  -- placing as 001's IntegrateIns has it, with no bound on the steps: with nothing between, here; with no candidate,
  -- nowhere; otherwise again, between the candidates that it comes to stand between
  pub position-step : (v : Interval)
      → position cs x v ≡ cond (adjacent v) (some v.upper) (elim (candidates cs v) [ [] ↦ none | l ∷ ls ↦ position cs x (narrowed x v (l ∷ ls)) ])
  position-step v = ⊎_elim (λ a. rw a (position-adjacent v a)) (λ a. rw a (go a (candidates cs v) refl)) (either (adjacent v))
    where
      go : adjacent v ≡ false → (ls : List Located) → candidates cs v ≡ ls
          → position cs x v ≡ elim (candidates cs v) [ [] ↦ none | l ∷ ls ↦ position cs x (narrowed x v (l ∷ ls)) ]
      go a [] e = rw e (position-none v a e)
      go a (l ∷ ls) e = rw e (position-again v l ls a e)

-- x is placed just below k by narrowing v
pub data Placed (cs : List Character) (x : Identifier) (k : ℕ) : Interval → Type 0 where
  arrived : {v : Interval} → adjacent v ≡ true → k ≡ v.upper → Placed cs x k v
  narrows : {v w : Interval} → adjacent v ≡ false → Narrowing cs x v w → Placed cs x k w → Placed cs x k v

module _ (cs : List Character) (x : Identifier) where
  ended : (v : Interval) (k : ℕ) → position cs x v ≡ some k → adjacent v ≡ true → Placed cs x k v
  ended v k e a = arrived a (only (position cs x v) k v.upper e (position-adjacent cs x v a))
    where
      only : (o : Option ℕ) (i j : ℕ) → o ≡ some i → o ≡ some j → i ≡ j
      only o i j p q = cc

  placed-within : (n : ℕ) (v : Interval) (k : ℕ) → v.lower ≤ suc (n + v.upper) → position cs x v ≡ some k → Placed cs x k v
  placed-within zero v k h e = ended v k e (is-adjacent v (omega arith))
  placed-within (suc n) v k h e =
      ⊎_elim (ended v k e) (λ a. go a (candidates cs v) refl (λ w. placed-within n w k)) (either (adjacent v))
    where
      go : adjacent v ≡ false → (ls : List Located) → candidates cs v ≡ ls
          → ((w : Interval) → w.lower ≤ suc (n + w.upper) → position cs x w ≡ some k → Placed cs x k w) → Placed cs x k v
      go a [] f r = absurd (none-ne-some k (sym (position-none cs x v a f) ∙ e))
      go a (l ∷ ls) f r =
          let w = narrowing cs x v l ls a f in
          narrows a w.0 (r (narrowed x v (l ∷ ls)) (omega arith) (sym (position-again cs x v l ls a f) ∙ e))

  pub placed : (v : Interval) (k : ℕ) → position cs x v ≡ some k → Placed cs x k v
  placed v k e = placed-within v.lower v k (omega arith) e

  placed-inside : (k : ℕ) {v : Interval} → Placed cs x k v → v.upper < v.lower → (v.upper ≤ k) × (k < v.lower)
  placed-inside k (arrived a e) h = (omega arith, omega arith)
  placed-inside k (narrows a n p) h = let r = placed-inside k p n.apart in (omega arith, omega arith)

  pub position-within : (v : Interval) (k : ℕ) → v.upper < v.lower → position cs x v ≡ some k → (v.upper ≤ k) × (k < v.lower)
  position-within v k h e = placed-inside k (placed v k e) h

pub placing_recurs : PlacingRecurs
placing_recurs cs x v = position-step cs x v
