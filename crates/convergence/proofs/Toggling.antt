-- A toggle changes the toggles of characters and nothing else: all that looks only at where each character came from is
-- as it was.
use Prim.Native.Nat.{ℕ, zero, suc, max}
use mathlib.Core.Path.{◌≡◌, refl, ap, ap₂, sym, ◌∙◌, subst}
use mathlib.Core.Bool.{Bool, true, false, cond}
use mathlib.Core.List.Memᴰ
use mathlib.Core.List.{List, [], ◌∷◌, ◌++◌, map, Memᴰ}
use mathlib.Core.Option.{Option, none, some}
use lib.ListN.{length, length-map}
use Rattle.woot.specs.declared.Identifier.{Identifier}
use Rattle.woot.specs.declared.Insert.{Insert}
use Rattle.woot.specs.declared.Toggle.{Toggle}
use Rattle.woot.specs.declared.Operation.{Operation}
use Rattle.woot.specs.declared.Operation.TheVariants.{Insert as insert, Toggle as toggle}
use Rattle.woot.specs.declared.Character.{Character}
use Rattle.woot.specs.Identifiers.{begin, end, same, below}
use Rattle.woot.specs.Operations.{origin, with_toggles, toggled_by}
use Rattle.lists.specs.Lists.{keep}
use Rattle.woot.specs.Placing.{identifiers, sequence, place_of, held, above, Interval, Located, located, adjacent, candidate, candidates, narrowed, search, position, between, integrate_toggle}
use Rattle.lists.proofs.Members.{keep-map}
use Rattle.woot.specs.Pending.{executable, crossed, unplaceable}

module _ {B : Type 0} (f : Character → B) (indifferent : (c : Character) (n : ℕ) → f (with_toggles c n) ≡ f c) (x : Toggle) where
  pub toggled-same : (c : Character) → f (toggled_by x c) ≡ f c
  unfolding toggled_by
  toggled-same c = go (same x.target c.id)
    where
      go : (b : Bool) → f (cond b (with_toggles c (max c.toggles x.toggles)) c) ≡ f c
      go true = indifferent c (max c.toggles x.toggles)
      go false = refl

  -- what does not look at the toggles is as it was
  pub toggle_map : (cs : List Character) → map f (integrate_toggle cs x) ≡ map f cs
  unfolding integrate_toggle
  toggle_map [] = refl
  toggle_map (c ∷ cs) = ap₂ (λ (b : B) (bs : List B). b ∷ bs) (toggled-same c) (toggle_map cs)

module _ (x : Toggle) where
  pub toggled-origin : (c : Character) → origin (toggled_by x c) ≡ origin c
  unfolding origin with_toggles
  toggled-origin = toggled-same origin (λ c n. refl) x

  pub toggled-id : (c : Character) → (toggled_by x c).id ≡ c.id
  unfolding with_toggles
  toggled-id = toggled-same (λ c. c.id) (λ c n. refl) x

  pub toggled-previous : (c : Character) → (toggled_by x c).previous ≡ c.previous
  unfolding with_toggles
  toggled-previous = toggled-same (λ c. c.previous) (λ c n. refl) x

  pub toggled-next : (c : Character) → (toggled_by x c).next ≡ c.next
  unfolding with_toggles
  toggled-next = toggled-same (λ c. c.next) (λ c n. refl) x

  -- the target takes the larger of its toggles and the operation's, and every other keeps its own
  pub toggled-toggles : (c : Character) → (toggled_by x c).toggles ≡ cond (same x.target c.id) (max c.toggles x.toggles) c.toggles
  unfolding with_toggles toggled_by
  toggled-toggles c = go (same x.target c.id)
    where
      go : (b : Bool) → (cond b (with_toggles c (max c.toggles x.toggles)) c).toggles ≡ cond b (max c.toggles x.toggles) c.toggles
      go true = refl
      go false = refl

module _ (cs : List Character) (x : Toggle) where
  pub toggle_length : length (integrate_toggle cs x) ≡ length cs
  unfolding integrate_toggle
  toggle_length = length-map cs (toggled_by x)

  pub toggle_identifiers : identifiers (integrate_toggle cs x) ≡ identifiers cs
  unfolding with_toggles
  toggle_identifiers = toggle_map (λ c. c.id) (λ c n. refl) x cs

  pub toggle_origins : map origin (integrate_toggle cs x) ≡ map origin cs
  unfolding with_toggles origin
  toggle_origins = toggle_map origin (λ c n. refl) x cs

  pub toggle_sequence : sequence (integrate_toggle cs x) ≡ sequence cs
  unfolding sequence
  toggle_sequence = ap (λ (l : List Identifier). begin ∷ (l ++ end ∷ [])) toggle_identifiers

  pub toggle_place : (y : Identifier) → place_of (integrate_toggle cs x) y ≡ place_of cs y
  unfolding place_of
  toggle_place y = rw toggle_sequence

  pub toggle_held : (y : Identifier) → held (integrate_toggle cs x) y ≡ held cs y
  unfolding held
  toggle_held y = rw (toggle_place y, toggle_length)

  pub toggle_above : (y z : Identifier) → above (integrate_toggle cs x) y z ≡ above cs y z
  unfolding above
  toggle_above y z = rw (toggle_place y, toggle_place z, toggle_held z)

  pub toggle_member : {d : Character} → Memᴰ d (integrate_toggle cs x) → (c : Character) × Memᴰ c cs × (toggled_by x c ≡ d)
  unfolding integrate_toggle
  toggle_member m = Memᴰ.of_map (toggled_by x) cs m

  pub member_toggle : {c : Character} → Memᴰ c cs → Memᴰ (toggled_by x c) (integrate_toggle cs x)
  unfolding integrate_toggle
  member_toggle m = Memᴰ.map (toggled_by x) m

  -- what holds of where each character came from
  pub toggle_each : (P : Insert → Type 0) → ((c : Character) → Memᴰ c cs → P (origin c))
      → (d : Character) → Memᴰ d (integrate_toggle cs x) → P (origin d)
  toggle_each P f d m = let r = toggle_member m in subst P (sym (toggled-origin x r.0) ∙ ap origin r.2) (f r.0 r.1)

  pub toggle_executable : (o : Operation) → executable (integrate_toggle cs x) o ≡ executable cs o
  unfolding executable
  toggle_executable (insert i) = rw (toggle_held i.previous, toggle_held i.next)
  toggle_executable (toggle d) = toggle_held d.target

  pub toggle_crossed : (o : Operation) → crossed (integrate_toggle cs x) o ≡ crossed cs o
  unfolding crossed
  toggle_crossed (insert i) = rw (toggle_executable (insert i), toggle_above i.previous i.next)
  toggle_crossed (toggle d) = refl

-- placing looks at the places and at where the characters came from, so it is as it was
module _ (cs : List Character) (x : Toggle) where
  -- a character with its place, after the toggle
  abbrev relocated : Located → Located
  relocated l = record { place = l.place; at = toggled_by x l.at }

  toggle_located : (k : ℕ) (ds : List Character) → located k (integrate_toggle ds x) ≡ map relocated (located k ds)
  unfolding integrate_toggle
  toggle_located k [] = refl
  toggle_located k (d ∷ ds) = ap (λ (ls : List Located). record { place = k; at = toggled_by x d } ∷ ls) (toggle_located (suc k) ds)

  toggle_candidate : (v : Interval) (l : Located) → candidate (integrate_toggle cs x) v (relocated l) ≡ candidate cs v l
  unfolding candidate
  toggle_candidate v l = rw (toggled-previous x l.at, toggled-next x l.at, toggle_place cs x l.at.previous, toggle_place cs x l.at.next)

  toggle_candidates : (v : Interval) → candidates (integrate_toggle cs x) v ≡ map relocated (candidates cs v)
  unfolding candidates
  toggle_candidates v =
      ap (keep (candidate (integrate_toggle cs x) v)) (toggle_located 1 cs)
      ∙ keep-map relocated (candidate (integrate_toggle cs x) v) (candidate cs v) (toggle_candidate v) (located 1 cs)

  relocated_narrowed : (y : Identifier) (v : Interval) (ls : List Located) → narrowed y v (map relocated ls) ≡ narrowed y v ls
  unfolding narrowed
  relocated_narrowed y v [] = refl
  relocated_narrowed y v (l ∷ ls) =
      ap₂ (λ (b : Bool) (w : Interval). cond b w (record { upper = v.upper; lower = l.place }))
      (ap (λ (z : Identifier). below z y) (toggled-id x l.at))
      (relocated_narrowed y (record { upper = l.place; lower = v.lower }) ls)

  -- the rest of a search, by the candidates that it found
  abbrev rest : List Character → ℕ → Identifier → Interval → List Located → Option ℕ
  rest ds n y v found = elim found [ [] ↦ none | l ∷ ls ↦ search n ds y (narrowed y v (l ∷ ls)) ]

  toggle_search : (n : ℕ) (y : Identifier) (v : Interval) → search n (integrate_toggle cs x) y v ≡ search n cs y v
  unfolding search
  toggle_search zero y v = refl
  toggle_search (suc n) y v =
      ap (λ (o : Option ℕ). cond (adjacent v) (some v.upper) o)
      (ap (rest (integrate_toggle cs x) n y v) (toggle_candidates v) ∙ go (candidates cs v) (toggle_search n y))
    where
      go : (ls : List Located) → ((w : Interval) → search n (integrate_toggle cs x) y w ≡ search n cs y w)
          → rest (integrate_toggle cs x) n y v (map relocated ls) ≡ rest cs n y v ls
      go [] r = refl
      go (l ∷ ls) r = ap (search n (integrate_toggle cs x) y) (relocated_narrowed y v (l ∷ ls)) ∙ r (narrowed y v (l ∷ ls))

  pub toggle_position : (y : Identifier) (v : Interval) → position (integrate_toggle cs x) y v ≡ position cs y v
  unfolding position
  toggle_position y v = toggle_search v.lower y v

  pub toggle_between : (i : Insert) → between (integrate_toggle cs x) i ≡ between cs i
  unfolding between
  toggle_between i = rw (toggle_place cs x i.previous, toggle_place cs x i.next)

  pub toggle_unplaceable : (o : Operation) → unplaceable (integrate_toggle cs x) o ≡ unplaceable cs o
  unfolding unplaceable
  toggle_unplaceable (insert i) = rw (toggle_executable cs x (insert i), toggle_between i, toggle_position i.id (between cs i))
  toggle_unplaceable (toggle d) = refl
