-- For the proofs of the code alone: placing on keys and places, which is what the rules' `narrowed` and `position` do,
-- with no place sought on the way.
use Rattle.std.specs.Prelude.{ℕ, zero, suc, ◌-◌, Bool, ◌&&◌, cond, List, [], ◌∷◌, leb, ltb}
use Rattle.std.proofs.Math.Option.{Option, none, some}
use Rattle.integration.specs.declared.Interval.{Interval}

-- a character as a pass sees it: its place and key, and where its previous and its next stand
pub record LocatedKey : Type 0 where
  pub place : ℕ
  pub id : ℕ
  pub above : ℕ
  pub below : ℕ

-- the located keys, the first at place p, as many as each of the lists has
unfoldable pub located_keys : ℕ → List ℕ → List ℕ → List ℕ → List LocatedKey
located_keys p [] above below = []
located_keys p (x ∷ ids) [] below = []
located_keys p (x ∷ ids) (a ∷ above) [] = []
located_keys p (x ∷ ids) (a ∷ above) (b ∷ below) =
    record { place = p; id = x; above = a; below = b } ∷ located_keys (suc p) ids above below

-- both neighbours stand outside the interval, or at its ends
unfoldable pub outside : ℕ → ℕ → Interval → Bool
outside a b v = leb a v.upper && leb v.lower b

-- strictly between, with both neighbours outside
unfoldable pub candidate_in : Interval → LocatedKey → Bool
candidate_in v e = ltb v.upper e.place && ltb e.place v.lower && outside e.above e.below v

-- what is left of a pass once the candidate at u is the last passed: k stops at the first candidate that is not below
-- it
unfoldable pub walk_in : ℕ → Interval → ℕ → List LocatedKey → Interval
walk_in k v u [] = record { upper = u; lower = v.lower }
walk_in k v u (e ∷ es) =
    cond (candidate_in v e) (cond (ltb e.id k) (walk_in k v e.place es) (record { upper = u; lower = e.place }))
    (walk_in k v u es)

-- one pass: the interval between the candidates that k comes to stand between
unfoldable pub pass_in : List LocatedKey → ℕ → Interval → Interval
pass_in es k v = walk_in k v v.upper es

-- how far apart the ends are, at most 1 where nothing is between
abbrev pub width : Interval → ℕ
width v = v.lower - v.upper

-- the place just above which k goes in, after at most n passes; a pass that leaves the interval as it was met no
-- candidate
unfoldable pub search_in : ℕ → List LocatedKey → ℕ → Interval → Option ℕ
search_in zero es k v = some v.upper
search_in (suc n) es k v =
    cond (leb (width v) 1) (some v.upper)
    (cond (ltb (width (pass_in es k v)) (width v)) (search_in n es k (pass_in es k v)) none)

-- each pass narrows the interval, so as many passes as its lower place are enough
unfoldable pub position_in : List ℕ → List ℕ → List ℕ → ℕ → ℕ → ℕ → Option ℕ
position_in ids above below k upper lower =
    search_in lower (located_keys 1 ids above below) k (record { upper = upper; lower = lower })
