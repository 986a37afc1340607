-- `ranges::character_in_range` is the test of the insert that brought the character: no count of toggles is out of range.
use Rattle.std.proofs.Common.{arith}
use Rattle.std.proofs.lemmas.Grind.{common_steps}
use Rattle.utf8.specs.CodePoints.{within}
use Rattle.woot.specs.Operations.{origin}
use Rattle.woot.specs.Ranges.{character_in_range}
use Rattle.ranges.proofs.character_in_range.Goals as goal

pub returns : goal.returns
unfolding character_in_range origin within
returns c = grind (arith, common_steps)
