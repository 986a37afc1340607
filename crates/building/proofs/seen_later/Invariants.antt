-- `building::seen_later` compares the numbers of each later slot. The loop's invariant: what is asked of all the
-- later ones is asked of those that are left.
use Prim.Native.Nat.{◌+◌, ◌≤◌, ◌<◌}
use native.Mathlib.Omega.{arith}
use mathlib.Core.Path.{◌≡◌, refl, sym, ap, ◌∙◌}
use mathlib.Core.List.{List}
use lib.ListN.{drop, get_or}
use Rattle.lists.specs.Lists.{any}
use Rattle.woot.specs.declared.Toggle.{Toggle}
use Rattle.woot.specs.Operations.{same_toggle}
use Rattle.building.specs.Steps.{Among}
use Rattle.building.proofs.Counting.{none-behind, later-found, later-passed}
use borrow.Author.Rules.{rules}
use Rattle.building.proofs.seen_later.Given as goal

abbrev pub invariant-loop-i : goal.invariant-loop-i
invariant-loop-i l = (l.j < l.i) × (l.i ≤ l.m)
    × ((ts : List Toggle) (t : Toggle) → Among l.changes l.m ts
    → any (same_toggle (get_or ts l.j t)) (drop (l.j + 1) ts) ≡ any (same_toggle (get_or ts l.j t)) (drop l.i ts))
