-- `places::find_places` meets its contract. The loop's invariant: the first i places are found.
use Prim.Native.Nat.{ℕ, ◌<◌}
use mathlib.Core.Path.{◌≡◌}
use mathlib.Core.List.{List}
use lib.ListN.{length, get_or}
use Rattle.index.specs.Keys.{place_in}
use Rattle.neighbours.proofs.places.find_places.Given as goal

abbrev pub Found : List ℕ → List ℕ → List ℕ → ℕ → Type 0
Found ids keys places i = (j : ℕ) → j < i → get_or places j 0 ≡ place_in ids (get_or keys j 0)

abbrev pub invariant-loop-i : goal.invariant-loop-i
invariant-loop-i l = (length l.places ≡ length l.initial.places) × Found l.ids l.keys l.places l.i
