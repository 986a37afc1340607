-- Document 02, Req 10, "Archive by author": the rows of a replica by rising identifier, each with its place, and back.
use Rattle.std.specs.Prelude.{ℕ, suc, Bool, ◌&&◌, not, List, [], ◌∷◌, map, eqb, ltb, length}
use Rattle.lists.specs.Lists.{every, distinct}
use Rattle.lists.specs.Sorting.{sorted_by, rises_by}
use Rattle.answers.specs.declared.Refusal.{Refusal}
use Rattle.answers.specs.declared.Refusal.TheVariants.{Range, Misarranged, Form}
use Rattle.answers.specs.Answers.{Check, ◌⇒◌}
use Rattle.woot.specs.declared.Site.{Site}
use Rattle.woot.specs.declared.Operation.{Operation}
use Rattle.woot.specs.declared.Character.{Character}
use Rattle.woot.specs.Limits.{capacity}
use Rattle.woot.specs.Identifiers.{below}
use Rattle.woot.specs.Ranges.{within}
use Rattle.woot.specs.State.{State}
use Rattle.woot.specs.Form.{all_in_range, well_formed}

-- ---- an archive

-- a character, and its place among those of its replica
pub record Placed : Type 0 where
  pub place : ℕ
  pub character : Character

-- "first the `S2` line and then `P`" lines; "Waiting lines follow as before"
pub record Archive : Type 0 where
  pub site : Site
  pub rows : List Placed
  pub pending : List Operation

abbrev pub places_of : List Placed → List ℕ
places_of ps = map (λ p. p.place) ps

abbrev pub characters_of : List Placed → List Character
characters_of ps = map (λ p. p.character) ps

-- ---- the archive of a replica

-- characters with their places, the first of them k; hidden ones have a place too
abbrev pub placed_from : ℕ → List Character → List Placed
placed_from k [] = []
placed_from k (c ∷ cs) = record { place = k; character = c } ∷ placed_from (suc k) cs

-- one comes before another "by rising identifier"
unfoldable pub by_identifier : Placed → Placed → Bool
by_identifier p q = below p.character.id q.character.id

-- "the archive file lists rows by rising identifier", "place … counting from 1 at the top of the sheet"
unfoldable pub archived : List Character → List Placed
archived cs = sorted_by by_identifier (placed_from 1 cs)

unfoldable pub archive_of : State → Archive
archive_of s = record { site = s.site; rows = archived s.characters; pending = s.pending }

-- ---- the way back

unfoldable pub by_place : Placed → Placed → Bool
by_place p q = ltb p.place q.place

-- the characters of an archive at their places
unfoldable pub unarchived : List Placed → List Character
unarchived ps = characters_of (sorted_by by_place ps)

unfoldable pub state_from : Archive → State
state_from a = record { site = a.site; characters = unarchived a.rows; pending = a.pending }

-- ---- what is refused

-- "place, 1 to 1,024"
unfoldable pub place_in_range : Placed → Bool
place_in_range p = within 1 capacity p.place

-- and every other number as in a saved replica, wherever its row stands
unfoldable pub archive_in_range : Archive → Bool
archive_in_range a =
    every place_in_range a.rows
    && all_in_range (record { site = a.site; characters = characters_of a.rows; pending = a.pending })

-- "1 to the number of rows, each once"
unfoldable pub each_once : List ℕ → Bool
each_once ns = distinct eqb ns && every (within 1 (length ns)) ns

unfoldable pub places_kept : List Placed → Bool
places_kept ps = each_once (places_of ps)

unfoldable pub identifiers_rise : List Placed → Bool
identifiers_rise ps = rises_by by_identifier ps

-- 19: "Places that aren't 1 to the number of rows, each once, or identifiers that don't rise"
unfoldable pub arranged : List Placed → Bool
arranged ps = places_kept ps && identifiers_rise ps

-- archiving asks for the form of what was read as it stands: "whose clock Req 04 would raise is refused with 3"
unfoldable pub archive_checks : Bool → State → List (Check Refusal)
archive_checks ranged s = (not ranged ⇒ Range) ∷ (not (well_formed s) ⇒ Form) ∷ []

-- the way back, in checking order: 19 "after 2", and then the form of the characters at their places
unfoldable pub unarchive_checks : Archive → List (Check Refusal)
unarchive_checks a =
    (not (archive_in_range a) ⇒ Range) ∷ (not (arranged a.rows) ⇒ Misarranged)
    ∷ (not (well_formed (state_from a)) ⇒ Form)
    ∷ []
