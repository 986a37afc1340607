-- A walk over located keys: it passes over what is not strictly between the ends, so it may begin at the upper end and need not
-- go past the lower.
use Prim.Native.Nat.{ℕ, zero, suc, ◌+◌, ◌-◌, ◌≤◌, ◌<◌, min}
use native.Mathlib.Nat.{add-zero, add-suc, suc-add}
use native.Mathlib.Numerals.{add-one}
use native.Mathlib.Omega.{arith}
use mathlib.Core.Path.{◌≡◌, refl, sym, ◌∙◌}
use mathlib.Core.Bool.{true, false, and-false}
use mathlib.Core.List.{List, [], ◌∷◌}
use mathlib.Core.Logic.{◌⊎◌, inl, inr}
use borrow.Author.Tests.{lt-ltb, le-ltb}
use lib.Dec.{ltb}
use lib.ListN.{length, drop, get_or, drop_of_length-le}
use lib.Seq.{drop-cons}
use Rattle.lists.proofs.Tests.{side}
use Rattle.integration.specs.declared.Interval.{Interval}
use Rattle.integration.specs.Passes.{LocatedKey, located_keys, outside, candidate_in, walk_in, pass_in}

module _ (v : Interval) (e : LocatedKey) where
  too_high : e.place ≤ v.upper → candidate_in v e ≡ false
  unfolding candidate_in
  too_high h = rw (le-ltb v.upper e.place h)

  too_low : v.lower ≤ e.place → candidate_in v e ≡ false
  unfolding candidate_in
  too_low h = rw (le-ltb e.place v.lower h, and-false (ltb v.upper e.place))

  -- strictly between the ends, the neighbours decide
  pub between : v.upper < e.place → e.place < v.lower → candidate_in v e ≡ outside e.above e.below v
  unfolding candidate_in
  between h g = rw (lt-ltb v.upper e.place h, lt-ltb e.place v.lower g)

module _ (k : ℕ) (v : Interval) (u : ℕ) (e : LocatedKey) (es : List LocatedKey) where
  pub walk-over : candidate_in v e ≡ false → walk_in k v u (e ∷ es) ≡ walk_in k v u es
  unfolding walk_in
  walk-over c = rw c

  pub walk-passed : candidate_in v e ≡ true → e.id < k → walk_in k v u (e ∷ es) ≡ walk_in k v e.place es
  unfolding walk_in
  walk-passed c h = rw (c, lt-ltb e.id k h)

  pub walk-stopped : candidate_in v e ≡ true → k ≤ e.id → walk_in k v u (e ∷ es) ≡ record { upper = u; lower = e.place }
  unfolding walk_in
  walk-stopped c h = rw (c, le-ltb e.id k h)

module _ (k : ℕ) (v : Interval) where
  walk_none : (u : ℕ) → walk_in k v u [] ≡ record { upper = u; lower = v.lower }
  unfolding walk_in
  walk_none u = refl

  -- nothing at the lower end or past it is a candidate
  walk-below : (u p : ℕ) (ids above below : List ℕ) → v.lower ≤ p → walk_in k v u (located_keys p ids above below) ≡ record { upper = u; lower = v.lower }
  unfolding located_keys
  walk-below u p [] above below h = walk_none u
  walk-below u p (x ∷ ids) [] below h = walk_none u
  walk-below u p (x ∷ ids) (a ∷ above) [] h = walk_none u
  walk-below u p (x ∷ ids) (a ∷ above) (b ∷ below) h = walk-over k v u _ _ (too_low v _ h) ∙ walk-below u (suc p) ids above below (omega arith)

short-above : (p : ℕ) (ids below : List ℕ) → located_keys p ids [] below ≡ []
unfolding located_keys
short-above p [] below = refl
short-above p (x ∷ ids) below = refl

short-below : (p : ℕ) (ids above : List ℕ) → located_keys p ids above [] ≡ []
unfolding located_keys
short-below p [] above = refl
short-below p (x ∷ ids) [] = refl
short-below p (x ∷ ids) (a ∷ above) = refl

-- nothing down to the upper end is one either
walk-above : (k : ℕ) (v : Interval) (u n p : ℕ) (ids above below : List ℕ) → p + n ≤ suc v.upper → walk_in k v u (located_keys p ids above below) ≡ walk_in k v u (located_keys (p + n) (drop n ids) (drop n above) (drop n below))
unfolding located_keys
walk-above k v u zero p ids above below h = rw (add-zero p)
walk-above k v u (suc n) p [] above below h = refl
walk-above k v u (suc n) p (x ∷ ids) [] below h = rw (short-above (p + suc n) (drop n ids) (drop (suc n) below))
walk-above k v u (suc n) p (x ∷ ids) (a ∷ above) [] h = rw (short-below (p + suc n) (drop n ids) (drop n above))
walk-above k v u (suc n) p (x ∷ ids) (a ∷ above) (b ∷ below) h =
    rw (add-suc p n, ← (suc-add p n)) (walk-over k v u _ _ (too_high v _ (omega arith)) ∙ walk-above k v u n (suc p) ids above below (omega arith))

module _ (ids above below : List ℕ) where
  -- the entry at index i, and those from it on
  abbrev pub at : ℕ → LocatedKey
  at i = record { place = suc i; id = get_or ids i 0; above = get_or above i 0; below = get_or below i 0 }

  abbrev pub from : ℕ → List LocatedKey
  from i = located_keys (suc i) (drop i ids) (drop i above) (drop i below)

  pub from_step : (i : ℕ) → i < length ids → i < length above → i < length below → from i ≡ at i ∷ from (suc i)
  unfolding located_keys
  from_step i x a b = rw (drop-cons ids i 0 x, drop-cons above i 0 a, drop-cons below i 0 b)

  module _ (k : ℕ) (v : Interval) where
    -- a pass begins at the upper end
    pub pass-from : pass_in (located_keys 1 ids above below) k v ≡ walk_in k v v.upper (from v.upper)
    unfolding pass_in
    pass-from =
        let first : 1 + v.upper ≡ suc v.upper = omega arith in
        rw first at (walk-above k v v.upper v.upper 1 ids above below (omega arith))

    -- past the end of a list, or at the lower end, nothing is left to pass
    pub from_end : (u i : ℕ) → min (min (length ids) (min (length above) (length below))) (v.lower - 1) ≤ i → walk_in k v u (from i) ≡ record { upper = u; lower = v.lower }
    unfolding located_keys
    from_end u i h = go (side (length ids) i) (side (length above) i) (side (length below) i)
      where
        go : (length ids ≤ i) ⊎ (i < length ids) → (length above ≤ i) ⊎ (i < length above) → (length below ≤ i) ⊎ (i < length below) → walk_in k v u (from i) ≡ record { upper = u; lower = v.lower }
        go (inl x) a b = rw (drop_of_length-le ids x) (walk_none k v u)
        go (inr x) (inl a) b = rw (drop_of_length-le above a, short-above (suc i) (drop i ids) (drop i below)) (walk_none k v u)
        go (inr x) (inr a) (inl b) = rw (drop_of_length-le below b, short-below (suc i) (drop i ids) (drop i above)) (walk_none k v u)
        go (inr x) (inr a) (inr b) = walk-below k v u (suc i) (drop i ids) (drop i above) (drop i below) (omega arith)

-- ---- a pass, index by index

-- how far a pass looks
abbrev pub ending : List ℕ → List ℕ → List ℕ → Interval → ℕ
ending ids above below v = min (min (length ids) (min (length above) (length below))) (v.lower - 1)

-- one entry strictly between the ends, walked over, passed, or stopped at
module _ (ids above below : List ℕ) (k : ℕ) (v : Interval) (u i end : ℕ) (looks : end ≡ ending ids above below v) (low : v.upper ≤ i) (high : i < end) where
  stepped : (t : Interval) → walk_in k v u (at ids above below i ∷ from ids above below (suc i)) ≡ t → walk_in k v u (from ids above below i) ≡ t
  stepped t e = rw (from_step ids above below i (omega arith) (omega arith) (omega arith)) e

  decided : candidate_in v (at ids above below i) ≡ outside (get_or above i 0) (get_or below i 0) v
  decided = between v (at ids above below i) (omega arith) (omega arith)

  pub over : outside (get_or above i 0) (get_or below i 0) v ≡ false → walk_in k v u (from ids above below (i + 1)) ≡ walk_in k v u (from ids above below i)
  over o = rw (add-one i) (sym (stepped _ (walk-over k v u _ _ (decided ∙ o))))

  pub passed : outside (get_or above i 0) (get_or below i 0) v ≡ true → get_or ids i 0 < k
      → walk_in k v (i + 1) (from ids above below (i + 1)) ≡ walk_in k v u (from ids above below i)
  passed o h = rw (add-one i) (sym (stepped _ (walk-passed k v u _ _ (decided ∙ o) h)))

  pub stopped : outside (get_or above i 0) (get_or below i 0) v ≡ true → k ≤ get_or ids i 0
      → record { upper = u; lower = i + 1 } ≡ walk_in k v u (from ids above below i)
  stopped o h = rw (add-one i) (sym (stepped _ (walk-stopped k v u _ _ (decided ∙ o) h)))
