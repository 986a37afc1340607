-- `index::find` meets its contract. The loop's invariant: what is found in the whole is found in what is left.
use mathlib.Core.Path.{◌≡◌}
use lib.Dec.{eqb}
use Rattle.index.specs.Keys.{first_index}
use Rattle.index.proofs.Searches.{first_left}
use Rattle.index.proofs.find.Given as goal

abbrev pub invariant-loop-i : goal.invariant-loop-i
invariant-loop-i l = first_index (λ x. eqb l.key x) l.keys ≡ first_left (λ x. eqb l.key x) l.keys l.i
