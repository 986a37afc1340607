-- What refusal 2 lets pass: the ranges of the numbers, and where a mark may stand. Which numbers are code points is
-- said in `utf8`.
use Rattle.std.specs.Prelude.{ℕ, Bool, ◌&&◌, ◌||◌, not}
unfoldable pub use Rattle.utf8.specs.CodePoints.{within, is_code_point}
use Rattle.woot.specs.declared.Identifier.{Identifier}
use Rattle.woot.specs.declared.Site.{Site}
use Rattle.woot.specs.declared.Insert.{Insert}
use Rattle.woot.specs.declared.Toggle.{Toggle}
use Rattle.woot.specs.declared.Operation.{Operation}
use Rattle.woot.specs.declared.Operation.TheVariants.{Insert as insert, Toggle as toggle}
use Rattle.woot.specs.declared.Character.{Character}
use Rattle.woot.specs.Limits.{last_site, last_clock, last_toggles}
use Rattle.woot.specs.Identifiers.{begin, end, same}
use Rattle.woot.specs.Operations.{origin}

-- "a number, 1 to 16"
unfoldable pub site_number : ℕ → Bool
site_number n = within 1 last_site n

-- "no character has these", the marks, "and a character's clock is at least 1"
unfoldable pub character_id : Identifier → Bool
character_id x = site_number x.site && within 1 last_clock x.clock

-- "previous may be the begin mark"
unfoldable pub previous_id : Identifier → Bool
previous_id x = same x begin || character_id x

-- "next may be the end mark"
unfoldable pub next_id : Identifier → Bool
next_id x = same x end || character_id x

-- "a number, 1 to 16, and a clock, 0 to 65,535"
unfoldable pub site_in_range : Site → Bool
site_in_range s = site_number s.number && within 0 last_clock s.clock

-- all of an insert's numbers and marks, and that it does not name itself as neighbour
unfoldable pub insert_in_range : Insert → Bool
insert_in_range i =
    character_id i.id && is_code_point i.code_point && previous_id i.previous && next_id i.next
    && not (same i.id i.previous)
    && not (same i.id i.next)

-- document 02, Req 05: "with turn 1 to 255"
unfoldable pub toggle_in_range : Toggle → Bool
toggle_in_range t = site_number t.sender && character_id t.target && within 1 last_toggles t.toggles

unfoldable pub in_range : Operation → Bool
in_range (insert i) = insert_in_range i
in_range (toggle t) = toggle_in_range t

-- document 02, Req 05: "each row now has a turn, 0 to 255"
unfoldable pub character_in_range : Character → Bool
character_in_range c = insert_in_range (origin c) && within 0 last_toggles c.toggles
