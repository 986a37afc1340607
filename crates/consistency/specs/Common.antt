-- Document 02, Req 13, "Two copies in the middle of a round", over every kind of call that there is and every start:
-- proved in proofs/ under its name in small letters. "This covers typing, erasing, receiving, restoring, pasting and
-- building from a heap", lines and lent buffers of any kind, and saving and loading in between.
use Rattle.std.specs.Prelude.{◌≡◌}
use mathlib.Core.List.{List, Memᴰ}
use Rattle.woot.specs.declared.Identifier.{Identifier}
use Rattle.woot.specs.Placing.{identifiers, above}
use Rattle.bulk.specs.Common.{common_visible}
use Rattle.convergence.specs.Agreement.{OneMeaning}
use Rattle.consistency.specs.Copies.{Copy, Call, ran, Start, begun, characters_of}

-- "The premise is that no identifier stands for different inserts on the two laptops, among rows held", and nothing
-- else
abbrev pub OneMeaningHeld : Copy → Copy → Type 0
OneMeaningHeld p q = OneMeaning (characters_of p) (characters_of q)

-- the identifier of a character that both hold
pub record BothHold (p q : Copy) (x : Identifier) : Type 0 where
  pub on-first : Memᴰ x (identifiers (characters_of p))
  pub on-second : Memᴰ x (identifiers (characters_of q))

-- "Where two laptops, begun from empty sheets and with calls given the sheet as in Req 09, both hold two characters,
-- the same one must stand above the other on both, whatever else each holds or lacks"
abbrev pub CopiesAgree : Type 0
CopiesAgree =
    (a b : Start) (cs ds : List Call) →
    let p : Copy = ran (begun a) cs in
    let q : Copy = ran (begun b) ds in
    OneMeaningHeld p q → (x y : Identifier) → BothHold p q x → BothHold p q y →
    above (characters_of p) x y ≡ above (characters_of q) x y

-- "we read sheets long before that": the characters that both show stand in the same sequence in both visible texts
abbrev pub ReadersAgree : Type 0
ReadersAgree =
    (a b : Start) (cs ds : List Call) →
    let p : Copy = ran (begun a) cs in
    let q : Copy = ran (begun b) ds in
    OneMeaningHeld p q →
    common_visible (characters_of p) (characters_of q) ≡ common_visible (characters_of q) (characters_of p)
