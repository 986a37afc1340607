-- `integration::pass` meets its contract. The loop's invariant: what is left from i on, with the upper end as it is, gives what
-- the whole pass gives, where each neighbour's place is that of its key.
use Prim.Native.Nat.{ℕ, ◌≤◌}
use mathlib.Core.Path.{◌≡◌}
use mathlib.Core.List.{List, map}
use lib.ListN.{length}
use Rattle.index.specs.Keys.{place_in}
use Rattle.integration.specs.Passes.{located_keys, walk_in, pass_in}
use Rattle.integration.proofs.Walks.{from, ending}
use Rattle.integration.proofs.pass.Given as goal

-- the places of keys
abbrev pub places : List ℕ → List ℕ → List ℕ
places ids ks = map (place_in ids) ks

abbrev pub invariant-loop-i : goal.invariant-loop-i
invariant-loop-i l = (l.last ≡ ending l.ids (places l.ids l.previous) (places l.ids l.next) l.interval) × (l.last ≤ length l.ids) × (l.interval.upper ≤ l.i)
    × (walk_in l.key l.interval l.upper (from l.ids (places l.ids l.previous) (places l.ids l.next) l.i) ≡ pass_in (located_keys 1 l.ids (places l.ids l.previous) (places l.ids l.next)) l.key l.interval)
