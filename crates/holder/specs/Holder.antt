-- For the proofs of the code alone: who has an identifier, and what a received insert is beside another with its
-- identifier.
use Rattle.std.specs.Prelude.{ℕ, cond, List, get_or}
use Rattle.woot.specs.declared.Insert.{Insert}
use Rattle.woot.specs.declared.Operation.TheVariants.{Insert as insert}
use Rattle.woot.specs.Operations.{origin, same_insert}
use Rattle.woot.specs.State.{State}
use Rattle.woot.specs.Memory.{character_of}
use Rattle.woot.specs.Calls.{duplicate, conflicting}
use Rattle.std.specs.Prelude.{Option, Some, None}
use Rattle.index.specs.Keys.{found}
use Rattle.holder.specs.declared.Holder.{Holder}
use Rattle.holder.specs.declared.Holder.TheVariants.{Character, Pending, Nobody}
use Rattle.holder.specs.declared.Seen.{Seen}
use Rattle.holder.specs.declared.Seen.TheVariants.{New, Same, Other}

-- a character before a pending insert
unfoldable pub first_holder : Option ℕ → Option ℕ → Holder
first_holder (Some k) f = Character k
first_holder None (Some j) = Pending j
first_holder None None = Nobody

-- who has the key, among the keys of characters and of pending operations
unfoldable pub holder_in : List ℕ → List ℕ → ℕ → Holder
holder_in ids own k = first_holder (found k ids) (found k own)

-- the insert in a slot of four arrays
abbrev pub insert_in : List ℕ → List ℕ → List ℕ → List ℕ → ℕ → Insert
insert_in ids previous next points k =
    origin (character_of (get_or ids k 0) (get_or previous k 0) (get_or next k 0) (get_or points k 0) 0)

-- an insert beside another with its identifier
unfoldable pub compared_to : Insert → Insert → Seen
compared_to i j = cond (same_insert i j) Same Other

-- what a received insert is: known, in conflict (condition 7), or neither
unfoldable pub seen_of : State → Insert → Seen
seen_of s i = cond (duplicate s (insert i)) Same (cond (conflicting s (insert i)) Other New)
