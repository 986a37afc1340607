-- Well-formedness (document 01: in form), as named conditions.
use Rattle.std.specs.Prelude.{ℕ, zero, suc, ◌+◌, Bool, ◌&&◌, ◌||◌, not, List, [], ◌∷◌, ◌++◌, map, leb, length}
use Rattle.woot.specs.declared.Insert.{Insert}
use Rattle.woot.specs.declared.Character.{Character}
use Rattle.woot.specs.declared.Site.{Site}
use Rattle.woot.specs.Limits.{last_site, capacity, share}
use Rattle.woot.specs.Identifiers.{same}
use Rattle.woot.specs.Operations.{origin, inserts, toggles_among, same_toggle}
use Rattle.woot.specs.Ranges.{site_in_range, character_in_range, in_range}
use Rattle.woot.specs.State.{State}
use Rattle.woot.specs.Clock.{own_insert, heard_all}
use Rattle.woot.specs.Placing.{above}
use Rattle.woot.specs.Pending.{executable, pending_from}
use Rattle.lists.specs.Lists.{any, every, distinct}

-- the inserts of the characters and the pending inserts
unfoldable pub present_inserts : State → List Insert
present_inserts s = map origin s.characters ++ inserts s.pending

-- the numbers 1 to n, highest first
abbrev pub countdown : ℕ → List ℕ
countdown zero = []
countdown (suc n) = suc n ∷ countdown n

-- "every number, mark and neighbour is one that refusal 2 would let pass"
unfoldable pub all_in_range : State → Bool
all_in_range s = site_in_range s.site && every character_in_range s.characters && every in_range s.pending

-- "at most 32 operations waiting for each sender"
unfoldable pub shares_kept : State → Bool
shares_kept s = every (λ n. leb (pending_from n s.pending) share) (countdown last_site)

-- "at most 1,024 rows"; "rows and waiting inserts together at most 1,024"
unfoldable pub capacity_kept : State → Bool
capacity_kept s = leb (length (present_inserts s)) capacity

-- "no identifier occurs twice among rows and waiting inserts"
unfoldable pub identifiers_distinct : State → Bool
identifiers_distinct s = distinct same (map (λ i. i.id) (present_inserts s))

-- "no two waiting erases have the same sender and identifier", read with document 02, Req 05: "two waiting ones are the
-- same if all four numbers agree"
unfoldable pub toggles_distinct : State → Bool
toggles_distinct s = distinct same_toggle (toggles_among s.pending)

-- of one row, "previous stands above it and its next below it"
unfoldable pub ordered : List Character → Character → Bool
ordered cs c = above cs c.previous c.id && above cs c.id c.next

-- "each row's previous stands above it and its next below it"
unfoldable pub neighbours_ordered : State → Bool
neighbours_ordered s = every (ordered s.characters) s.characters

-- "no waiting operation has everything it needs"
unfoldable pub none_executable : State → Bool
none_executable s = not (any (executable s.characters) s.pending)

-- of one insert, the clock is "not below" its identifier's, where that "has its own laptop's number"
unfoldable pub clock_reaches : Site → Insert → Bool
clock_reaches t i = not (own_insert t i) || leb i.id.clock t.clock

-- document 02, Req 04: "the clock is not below that of any row or waiting insert whose identifier has its own laptop's
-- number"
unfoldable pub clock_kept : State → Bool
clock_kept s = every (clock_reaches s.site) (present_inserts s)

-- in form; "the form gains" the last condition
unfoldable pub well_formed : State → Bool
well_formed s =
    all_in_range s && shares_kept s && capacity_kept s && identifiers_distinct s && toggles_distinct s
    && neighbours_ordered s
    && none_executable s
    && clock_kept s

-- "loading a saved sheet raises the clock the same way over its rows and waiting inserts"
unfoldable pub raised : State → State
raised s =
    record { site = heard_all s.site (present_inserts s); characters = s.characters; pending = s.pending }
