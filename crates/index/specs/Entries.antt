-- For the proofs of the code alone: how many slots of an array of places hold one.
use Rattle.std.specs.Prelude.{ℕ, zero, suc, ◌+◌, List, [], ◌∷◌}

-- 1 for a place, and 0 where there is none
abbrev pub filled : ℕ → ℕ
filled zero = 0
filled (suc n) = 1

unfoldable pub entries : List ℕ → ℕ
entries [] = 0
entries (x ∷ xs) = filled x + entries xs
