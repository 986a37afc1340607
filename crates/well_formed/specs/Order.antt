-- For the proofs of the code alone: that a character stands between its neighbours, on numbers.
use Rattle.std.specs.Prelude.{ℕ, ◌+◌, Bool, ◌&&◌, List, leb, ltb, length, get_or}
use Rattle.index.specs.Keys.{place_in}

-- the character with index i, of n, stands below the place a and above the place b, which is held
unfoldable pub stands_between : ℕ → ℕ → ℕ → ℕ → Bool
stands_between n i a b = ltb a (i + 1) && (ltb (i + 1) b && leb b (n + 1))

-- it stands between the places of its neighbours among the keys
unfoldable pub between_at : List ℕ → List ℕ → List ℕ → ℕ → Bool
between_at ids previous next i =
    stands_between (length ids) i (place_in ids (get_or previous i 0)) (place_in ids (get_or next i 0))
