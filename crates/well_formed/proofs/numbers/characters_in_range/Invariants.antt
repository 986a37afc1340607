-- `numbers::characters_in_range` meets its contract: the flag says of the first i rows whether each passes.
use mathlib.Core.Path.{◌≡◌}
use lib.ListN.{get_or}
use Rattle.lists.specs.Lists.{throughout}
use Rattle.woot.specs.Operations.{origin}
use Rattle.woot.specs.Ranges.{insert_in_range}
use Rattle.woot.specs.Memory.{character_of}
use Rattle.well_formed.proofs.numbers.characters_in_range.Given as goal

abbrev pub invariant-loop-i : goal.invariant-loop-i
invariant-loop-i l = l.kept ≡ throughout (λ j. insert_in_range (origin (character_of (get_or l.ids j 0) (get_or l.previous j 0) (get_or l.next j 0) (get_or l.codes j 0) 0))) l.i
