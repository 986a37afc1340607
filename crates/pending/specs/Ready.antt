-- For the proofs of the code alone: which pending operation has all it needs, on keys.
use Rattle.std.specs.Prelude.{ℕ, suc, Bool, ◌&&◌, cond, List, [], ◌∷◌, leb, length}
use Rattle.index.specs.Keys.{place_in, further}
use Rattle.std.specs.Prelude.{Option, Some, None}

-- the key has a place among the keys and the marks
unfoldable pub held_in : List ℕ → ℕ → Bool
held_in ids k = leb (place_in ids k) (suc (length ids))

-- the index of the first operation both of whose keys have a place
unfoldable pub ready_in : List ℕ → List ℕ → List ℕ → Option ℕ
ready_in ids [] ss = None
ready_in ids (f ∷ fs) [] = None
ready_in ids (f ∷ fs) (s ∷ ss) = cond (held_in ids f && held_in ids s) (Some 0) (further 1 (ready_in ids fs ss))
