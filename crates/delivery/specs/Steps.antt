-- For the proofs of the code alone: what the steps of carrying out leave in an array.
use Rattle.std.specs.Prelude.{ℕ, max, List, set, get_or}
use Rattle.std.specs.Prelude.{Option, Some, None}
use Rattle.integration.specs.declared.Placement.{Placement}
use Rattle.integration.specs.declared.Placement.TheVariants.{Missing, Crossed, Unplaceable, Below}

-- the larger count in the slot that was found
abbrev pub toggled_at : Option ℕ → ℕ → List ℕ → List ℕ
toggled_at (Some k) n ts = set ts k (max (get_or ts k 0) n)
toggled_at None n ts = ts

-- the place that a placement has
abbrev pub place_of : Placement → Option ℕ
place_of (Below k) = Some k
place_of Missing = None
place_of Crossed = None
place_of Unplaceable = None
