-- For the proofs of the code alone: the counts and the ranges, and that the clock reaches every key.
use Rattle.std.specs.Prelude.{ℕ, ◌/◌, ◌%◌, Bool, ◌&&◌, ◌||◌, not, List, leb, eqb}
use Rattle.lists.specs.Lists.{every}
use Rattle.woot.specs.declared.Site.{Site}
use Rattle.woot.specs.declared.Character.{Character}
use Rattle.woot.specs.declared.Operation.{Operation}
use Rattle.woot.specs.Ranges.{site_in_range, character_in_range, in_range}
use Rattle.woot.specs.Memory.{character_slots, pending_slots}

-- the counts of characters and of pending operations are within the arrays, and every number, mark and neighbour in its
-- range
unfoldable pub ranges_kept : Site → ℕ → List Character → ℕ → List Operation → Bool
ranges_kept t n cs w os =
    (leb n character_slots && leb w pending_slots)
    && (site_in_range t && every character_in_range cs && every in_range os)

-- the clock is not below a key's, where that has the site's number
unfoldable pub reaches_key : Site → ℕ → Bool
reaches_key t k = not (eqb (k / 65536) t.number) || leb (k % 65536) t.clock

-- nor below that of any key
abbrev pub clock_reached : Site → List ℕ → List ℕ → Bool
clock_reached t ids own = every (reaches_key t) ids && every (reaches_key t) own
