-- Document 02, Req 13, "Two copies in the middle of a round": what two replicas have in common stands in the same order
-- on both, whatever else each holds or lacks. Of characters held that is `Agreement` in `convergence/Theorems`; here it
-- is said of those that a reader of both sheets sees.
use Rattle.std.specs.Prelude.{◌≡◌, List}
use Rattle.woot.specs.Histories.{Call}
use Rattle.bulk.specs.Beginnings.{Begun, characters_after}
use Rattle.bulk.specs.Common.{common_visible}
use Rattle.convergence.specs.Agreement.{OneMeaning}

-- the characters that are visible on both stand in the same sequence on both; the premise is "that no identifier stands
-- for different inserts on the two laptops, among rows held"
abbrev pub CommonAgrees : Type 0
CommonAgrees =
    (a b : Begun) (cs ds : List Call) → OneMeaning (characters_after a cs) (characters_after b ds) →
    common_visible (characters_after a cs) (characters_after b ds)
    ≡ common_visible (characters_after b ds) (characters_after a cs)
