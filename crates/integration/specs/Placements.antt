-- For the proofs of the code alone: where an insert goes.
use Rattle.std.specs.Prelude.{ℕ, cond, List}
use Rattle.std.proofs.Math.Option.{Option, none, some}
use Rattle.woot.specs.declared.Insert.{Insert}
use Rattle.woot.specs.declared.Operation.TheVariants.{Insert as insert}
use Rattle.woot.specs.declared.Character.{Character}
use Rattle.woot.specs.Placing.{above, position, between}
use Rattle.woot.specs.Pending.{executable}
use Rattle.integration.specs.declared.Placement.{Placement}
use Rattle.integration.specs.declared.Placement.TheVariants.{Missing, Crossed, Unplaceable, Below}

-- as it is answered
unfoldable pub placement_at : Option ℕ → Placement
placement_at none = Unplaceable
placement_at (some k) = Below k

-- what is met first: a neighbour that is not held, condition 8, condition 9; else the place above the insert
unfoldable pub placement_of : List Character → Insert → Placement
placement_of cs i =
    cond (executable cs (insert i))
    (cond (above cs i.previous i.next) (placement_at (position cs i.id (between cs i))) Crossed)
    Missing
