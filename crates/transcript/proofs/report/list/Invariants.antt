-- `transcript::report::list` meets its contract, by the invariant of `proofs/Listings.antt`: it holds of any characters
-- that have these code points and counts of toggles.
use mathlib.Core.Path.{◌≡◌, ap, ◌∙◌}
use mathlib.Core.Logic.{⊎_elim}
use mathlib.Core.List.{List}
use Prim.Native.Nat.{◌≤◌}
use native.Mathlib.Omega.{arith}
use borrow.Author.Rules.{rules}
use lib.ListN.{length, take, length-set}
use Rattle.woot.specs.declared.Character.{Character}
use Rattle.woot.specs.Memory.{code_points_of, toggle_counts}
use Rattle.transcript.proofs.Listings.{Gathered, gathered_none, gathered-shown, gathered-not, gathered-whole}
use Rattle.transcript.proofs.report.list.Given as goal

abbrev pub invariant-loop-i : goal.invariant-loop-i
invariant-loop-i l = (l.i ≤ l.n) × (l.count ≤ l.i) × (length l.values ≡ 1025) × ((cs : List Character) → code_points_of cs ≡ take l.n l.code_points → toggle_counts cs ≡ take l.n l.toggles → Gathered cs l.values l.count l.i)
