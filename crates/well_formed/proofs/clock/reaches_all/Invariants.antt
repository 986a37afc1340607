-- `clock::reaches_all` meets its contract: the flag says of the first i keys whether each is reached.
use mathlib.Core.Path.{◌≡◌}
use Rattle.lists.specs.Lists.{throughout}
use Rattle.lists.proofs.Indices.{element_at}
use Rattle.well_formed.specs.Form.{reaches_key}
use Rattle.well_formed.proofs.clock.reaches_all.Given as goal

abbrev pub invariant-loop-i : goal.invariant-loop-i
invariant-loop-i l = l.kept ≡ throughout (element_at (reaches_key l.site) l.keys 0) l.i
