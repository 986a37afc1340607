-- Document 02, Req 13: two sheets in the middle of a round, computed. Proved in proofs/ under their names in small
-- letters.
use Rattle.std.specs.Prelude.{ℕ, ◌≡◌, true, false, List, [], ◌∷◌, map}
use Rattle.woot.specs.declared.Identifier.{Identifier}
use Rattle.woot.specs.declared.Insert.{Insert}
use Rattle.woot.specs.declared.Operation.{Operation}
use Rattle.woot.specs.declared.Operation.TheVariants.{Insert as insert, Toggle as toggle}
use Rattle.woot.specs.declared.Character.{Character}
use Rattle.woot.specs.Identifiers.{begin, end}
use Rattle.woot.specs.Placing.{identifiers, above}
use Rattle.woot.specs.Histories.{receiving}
use Rattle.bulk.specs.Beginnings.{empty, characters_after}
use Rattle.bulk.specs.Common.{common_visible}

-- what a laptop holds that received these operations
abbrev pub after_receiving : List Operation → List Character
after_receiving os = characters_after (empty 1) (map receiving os)

abbrev pub named : ℕ → ℕ → Identifier
named l k = record { site = l; clock = k }

-- a letter of this identifier between two others
abbrev pub letter : Identifier → ℕ → Identifier → Identifier → Insert
letter x n p q = record { id = x; code_point = n; previous = p; next = q }

-- ---- the premise

-- 9/1 stands for two inserts: between the marks on one, and above 2/1 on the other
abbrev pub one_way : List Character
one_way =
    after_receiving
    (insert (letter (named 2 1) 66 begin end) ∷ insert (letter (named 9 1) 67 begin end)
    ∷ insert (letter (named 1 1) 65 (named 9 1) end)
    ∷ [])

abbrev pub other_way : List Character
other_way =
    after_receiving
    (insert (letter (named 2 1) 66 begin end) ∷ insert (letter (named 9 1) 67 begin (named 2 1))
    ∷ insert (letter (named 1 1) 65 (named 9 1) end)
    ∷ [])

-- then 1/1 and 2/1, which stand for the same inserts on both, stand in another order: the premise is needed, and of all
-- rows held, not only of the two that are compared
abbrev pub PremiseNeeded : Type 0
PremiseNeeded =
    (identifiers one_way ≡ named 2 1 ∷ named 9 1 ∷ named 1 1 ∷ [])
    × (identifiers other_way ≡ named 9 1 ∷ named 1 1 ∷ named 2 1 ∷ [])
    × (above one_way (named 1 1) (named 2 1) ≡ false)
    × (above other_way (named 1 1) (named 2 1) ≡ true)

-- ---- what both show

-- A, C, B and E, of which C is erased; the other lacks E, shows C, has erased A and brought it back, and has D besides
abbrev pub this_sheet : List Character
this_sheet =
    after_receiving
    (insert (letter (named 1 1) 65 begin end) ∷ insert (letter (named 2 1) 66 (named 1 1) end)
    ∷ insert (letter (named 1 2) 67 (named 1 1) (named 2 1))
    ∷ insert (letter (named 5 1) 69 (named 2 1) end)
    ∷ toggle (record { sender = 1; target = named 1 2; toggles = 1 })
    ∷ [])

abbrev pub that_sheet : List Character
that_sheet =
    after_receiving
    (insert (letter (named 1 1) 65 begin end) ∷ insert (letter (named 4 1) 68 (named 1 1) end)
    ∷ insert (letter (named 2 1) 66 (named 1 1) end)
    ∷ insert (letter (named 1 2) 67 (named 1 1) (named 2 1))
    ∷ toggle (record { sender = 3; target = named 1 1; toggles = 2 })
    ∷ [])

-- both show A and then B, and nothing else that the other shows too
abbrev pub CommonTells : Type 0
CommonTells =
    (map (λ i. i.id) (common_visible this_sheet that_sheet) ≡ named 1 1 ∷ named 2 1 ∷ [])
    × (map (λ i. i.id) (common_visible that_sheet this_sheet) ≡ named 1 1 ∷ named 2 1 ∷ [])
    × (map (λ i. i.id) (common_visible one_way other_way) ≡ named 2 1 ∷ named 1 1 ∷ [])
