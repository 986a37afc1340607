-- The places of the neighbours' keys are those of the rules.
use Prim.Native.Nat.{ℕ}
use mathlib.Core.Path.{◌≡◌, refl, ap₂}
use mathlib.Core.List.{List, [], ◌∷◌, map, Memᴰ}
use Rattle.woot.specs.declared.Identifier.{Identifier}
use Rattle.woot.specs.declared.Character.{Character}
use Rattle.woot.specs.Placing.{place_of}
use Rattle.woot.specs.Table.{key, keys}
use Rattle.index.specs.Keys.{Small, AllSmall, place_in, previous_places, next_places}
use Rattle.woot.specs.Memory.{previous_keys, next_keys}
use Rattle.index.proofs.Indices.{place-keys}

module _ (cs : List Character) (s : AllSmall cs) where
  place-each : (f : Character → Identifier) (ds : List Character) → ((c : Character) → Memᴰ c ds → Small (f c))
      → map (place_in (keys cs)) (map (λ c. key (f c)) ds) ≡ map (λ c. place_of cs (f c)) ds
  place-each f [] t = refl
  place-each f (d ∷ ds) t =
      ap₂ (λ (k : ℕ) (ks : List ℕ). k ∷ ks) (place-keys (f d) (t d (Memᴰ.head refl)) cs s) (place-each f ds (λ c m. t c (Memᴰ.tail m)))

  pub placed-previous : map (place_in (keys cs)) (previous_keys cs) ≡ previous_places cs
  placed-previous = place-each (λ c. c.previous) cs (λ c m. (s c m).previous)

  pub placed-next : map (place_in (keys cs)) (next_keys cs) ≡ next_places cs
  placed-next = place-each (λ c. c.next) cs (λ c m. (s c m).next)
