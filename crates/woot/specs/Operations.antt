-- Operations and characters: what one is made of the other, and equality in every field.
use Rattle.std.specs.Prelude.{ℕ, max, ◌%◌, Bool, true, false, ◌&&◌, cond, List, [], ◌∷◌, eqb}
use Rattle.woot.specs.declared.Insert.{Insert}
use Rattle.woot.specs.declared.Toggle.{Toggle}
use Rattle.woot.specs.declared.Operation.{Operation}
use Rattle.woot.specs.declared.Operation.TheVariants.{Insert as insert, Toggle as toggle}
use Rattle.woot.specs.declared.Character.{Character}
use Rattle.woot.specs.Identifiers.{same}

-- "its sender is the identifier's laptop"; "an erase carries its sender"
unfoldable pub sender : Operation → ℕ
sender (insert i) = i.id.site
sender (toggle t) = t.sender

-- the character that an insert brings, never toggled
unfoldable pub character : Insert → Character
character i =
    record { id = i.id; code_point = i.code_point; toggles = 0; previous = i.previous; next = i.next }

-- the insert that brought a character: its fields without the toggles
unfoldable pub origin : Character → Insert
origin c = record { id = c.id; code_point = c.code_point; previous = c.previous; next = c.next }

-- document 02, Req 05: "a row is shown when its turn is even"
unfoldable pub is_visible : Character → Bool
is_visible c = eqb (c.toggles % 2) 0

-- the character with another count of toggles
unfoldable pub with_toggles : Character → ℕ → Character
with_toggles c n =
    record { id = c.id; code_point = c.code_point; toggles = n; previous = c.previous; next = c.next }

-- what a toggle makes of a character: "the row takes the larger of its turn and the line's", where it is its target
unfoldable pub toggled_by : Toggle → Character → Character
toggled_by t c = cond (same t.target c.id) (with_toggles c (max c.toggles t.toggles)) c

-- "equal in every field"
unfoldable pub same_insert : Insert → Insert → Bool
same_insert i j =
    same i.id j.id && eqb i.code_point j.code_point && same i.previous j.previous
    && same i.next j.next

-- "the same if all four numbers agree"
unfoldable pub same_toggle : Toggle → Toggle → Bool
same_toggle t u = eqb t.sender u.sender && same t.target u.target && eqb t.toggles u.toggles

unfoldable pub same_operation : Operation → Operation → Bool
same_operation (insert i) (insert j) = same_insert i j
same_operation (insert i) (toggle u) = false
same_operation (toggle t) (insert j) = false
same_operation (toggle t) (toggle u) = same_toggle t u

-- the inserts among operations, in their order
abbrev pub inserts : List Operation → List Insert
inserts [] = []
inserts (insert i ∷ os) = i ∷ inserts os
inserts (toggle t ∷ os) = inserts os

-- the toggles among operations, in their order
abbrev pub toggles_among : List Operation → List Toggle
toggles_among [] = []
toggles_among (insert i ∷ os) = toggles_among os
toggles_among (toggle t ∷ os) = t ∷ toggles_among os
