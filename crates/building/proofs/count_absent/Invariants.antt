-- `building::count_absent` counts one after another. The loop's invariant: the count, with what is left to count, is
-- all.
use Prim.Native.Nat.{◌+◌, ◌≤◌}
use native.Mathlib.Omega.{arith}
use mathlib.Core.Path.{◌≡◌, sym, ap, ◌∙◌}
use mathlib.Core.Logic.{⊎_elim}
use mathlib.Core.List.{List}
use lib.ListN.{take, drop}
use Rattle.woot.specs.declared.Toggle.{Toggle}
use Rattle.woot.specs.declared.Character.{Character}
use Rattle.woot.specs.Table.{keys}
use Rattle.woot.specs.Memory.{key_column}
use Rattle.convergence.specs.Passes.{absentees}
use Rattle.index.specs.Keys.{AllSmall}
use Rattle.building.specs.Steps.{Among, toggle_at}
use Rattle.building.proofs.Counting.{none-behind, absent-counted, absent-passed, no-absentees, not-false}
use borrow.Author.Tests.{not-true}
use borrow.Author.Rules.{rules}
use Rattle.building.proofs.count_absent.Given as goal

abbrev pub invariant-loop-j : goal.invariant-loop-j
invariant-loop-j l = (l.absent ≤ l.j) × (l.j ≤ l.m)
    × ((cs : List Character) (ts : List Toggle) → take l.n (key_column l.characters) ≡ keys cs → AllSmall cs → Among l.changes l.m ts
    → l.absent + absentees cs (drop l.j ts) ≡ absentees cs ts)
