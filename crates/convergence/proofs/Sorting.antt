-- Integration keeps concurrent characters sorted. While the interval narrows, those above it that the new character
-- would be concurrent with have lower identifiers, and those below it higher ones.
use Prim.Native.Nat.{ℕ, suc, ◌≤◌, ◌<◌}
use native.Mathlib.Omega.{arith}
use mathlib.Core.Path.{◌≡◌, sym, ◌∙◌, subst}
use mathlib.Core.Bool.{true, false}
use mathlib.Core.List.{List, Memᴰ}
use mathlib.Core.Logic.{⊎_elim}
use Rattle.woot.specs.declared.Identifier.{Identifier}
use Rattle.woot.specs.declared.Insert.{Insert}
use Rattle.woot.specs.declared.Toggle.{Toggle}
use Rattle.woot.specs.declared.Character.{Character}
use Rattle.woot.specs.Identifiers.{below}
use Rattle.woot.specs.Operations.{character, origin}
use Rattle.woot.specs.Placing.{place_of, held, above, Interval, Located, located, candidate, candidates, between, integrate_toggle}
use Rattle.convergence.specs.Agreement.{Standing, Concurrent, Sorted}
use Rattle.lists.proofs.Tests.{fails}
use Rattle.convergence.proofs.Identifiers.{same-ne, below_irrefl, below-trans, below-asym, below_total}
use Rattle.lists.proofs.Members.{keep_member}
use Rattle.convergence.proofs.Places.{held-id, above_place, above_lower, above-upper, place-above, place-injective, held-apart}
use Rattle.lists.proofs.Tests.{side}
use Rattle.convergence.proofs.Characters.{located_member, located-place}
use Rattle.convergence.proofs.Toggling.{toggle_place, toggle_each}
use Rattle.convergence.proofs.Placing.{candidates-are, Narrowing, adjacent-is, Placed, arrived, narrows, placed}
use Rattle.convergence.proofs.Standing.{Placement, Displaced, inserted, previous_in, next_in, new-place, old_place, each}

-- if x stands above y, under y's previous p, and y over x's next n, then x is the lower identifier
abbrev pub Ranked : List Character → (x n p y : Identifier) → Type 0
Ranked cs x n p y =
    place_of cs x < place_of cs y → place_of cs p < place_of cs x → place_of cs y < place_of cs n → below x y ≡ true

-- Sorted by places, in one direction: the upper of two concurrent characters has the lower identifier
abbrev pub Ascending : List Character → Type 0
Ascending cs = (c d : Character) → Memᴰ c cs → Memᴰ d cs → Ranked cs c.id c.next d.previous d.id

module _ (cs : List Character) (s : Standing cs) where
  pub previous-place : {c : Character} → Memᴰ c cs → place_of cs c.previous < place_of cs c.id
  previous-place {c} m = above_place cs c.previous c.id (s.below-previous c m)

  pub next_place : {c : Character} → Memᴰ c cs → place_of cs c.id < place_of cs c.next
  next_place {c} m = above_place cs c.id c.next (s.above-next c m)

  pub previous-held : {c : Character} → Memᴰ c cs → held cs c.previous ≡ true
  previous-held {c} m = above-upper cs c.previous c.id (s.below-previous c m)

  pub next-held : {c : Character} → Memᴰ c cs → held cs c.next ≡ true
  next-held {c} m = above_lower cs c.id c.next (s.above-next c m)

  pub sorted_ascending : Sorted cs → Ascending cs
  sorted_ascending w c d m n p q r = sym (w c d m n concurrent) ∙ place-above cs c.id d.id p (held-id cs n)
    where
      concurrent : Concurrent cs c d
      concurrent =
          record {
            c-low = place-above cs d.previous c.id q (held-id cs m);
            c-high = place-above cs c.id d.next (omega (arith, next_place n)) (next-held n);
            d-low = place-above cs c.previous d.id (omega (arith, previous-place m)) (held-id cs n);
            d-high = place-above cs d.id c.next r (next-held m);
          }

  pub ascending_sorted : Ascending cs → Sorted cs
  ascending_sorted a c d m n k = ⊎_elim not-above is-above (side (place_of cs d.id) (place_of cs c.id))
    where
      is-above : place_of cs c.id < place_of cs d.id → above cs c.id d.id ≡ below c.id d.id
      is-above h =
          place-above cs c.id d.id h (held-id cs n)
          ∙ sym (a c d m n h (above_place cs d.previous c.id k.c-low) (above_place cs d.id c.next k.d-high))

      equal : place_of cs c.id ≡ place_of cs d.id → below c.id d.id ≡ true → ⊥
      equal e b =
          below_irrefl d.id
          (subst (λ (x : Identifier). below x d.id ≡ true) (place-injective cs c.id d.id e (held-id cs m) (held-id cs n)) b)

      under : place_of cs d.id < place_of cs c.id → below c.id d.id ≡ true → ⊥
      under e b =
          below-asym c.id d.id b
          (a d c n m e (above_place cs c.previous d.id k.d-low) (above_place cs c.id d.next k.c-high))

      not-above : place_of cs d.id ≤ place_of cs c.id → above cs c.id d.id ≡ below c.id d.id
      not-above h =
          fails (above cs c.id d.id) (λ e. omega (arith, above_place cs c.id d.id e))
          ∙ sym (fails (below c.id d.id) (λ b. ⊎_elim (λ e. equal (omega arith) b) (λ e. under e b) (side (place_of cs c.id) (place_of cs d.id))))

-- put just below place a, i would be concurrent with y above it only where y has the lower identifier
abbrev Up : List Character → Insert → ℕ → Type 0
Up cs i a =
    (y : Character) → Memᴰ y cs → place_of cs i.previous < place_of cs y.id → place_of cs y.id ≤ a → a < place_of cs y.next
    → below y.id i.id ≡ true

-- put just above place b, i would be concurrent with y below it only where y has the higher identifier
abbrev Down : List Character → Insert → ℕ → Type 0
Down cs i b =
    (y : Character) → Memᴰ y cs → place_of cs y.id < place_of cs i.next → b ≤ place_of cs y.id → place_of cs y.previous < b
    → below i.id y.id ≡ true

-- what holds of each interval while an insert is placed
record Flanked (cs : List Character) (i : Insert) (w : Interval) : Type 0 where
  apart : w.upper < w.lower
  top : place_of cs i.previous ≤ w.upper
  bottom : w.lower ≤ place_of cs i.next
  up : Up cs i w.upper
  down : Down cs i w.lower

module _ (cs : List Character) (s : Standing cs) (a : Ascending cs) (i : Insert) (fresh : held cs i.id ≡ false) where
  -- a candidate as a character, with its place
  candidate-place : (v : Interval) {l : Located} → Memᴰ l (candidates cs v) → Memᴰ l.at cs × (place_of cs l.at.id ≡ l.place)
  unfolding candidates
  candidate-place v m = let n = (keep_member (candidate cs v) (located 1 cs) m).0 in (located_member 1 cs n, located-place cs s n)

  module _ (v w : Interval) (f : Flanked cs i v) (n : Narrowing cs i.id v w) where
    up_kept : Up cs i w.upper
    up_kept y m p q r = ⊎_elim (λ e. f.up y m p (omega arith) (omega arith)) (λ k. at k.0 k.1 k.2 k.3) n.upper-end
      where
        at : (l : Located) → Memᴰ l (candidates cs v) → below l.at.id i.id ≡ true → w.upper ≡ l.place → below y.id i.id ≡ true
        at l k b e = ⊎_elim (λ h. f.up y m p h (omega (arith, candidates-are cs v l k))) under (side (place_of cs y.id) v.upper)
          where
            here : Memᴰ l.at cs × (place_of cs l.at.id ≡ l.place)
            here = candidate-place v k

            met : place_of cs l.at.id ≤ place_of cs y.id → l.at.id ≡ y.id
            met g = place-injective cs l.at.id y.id (omega (arith, here)) (held-id cs here.0) (held-id cs m)

            under : v.upper < place_of cs y.id → below y.id i.id ≡ true
            under h =
                ⊎_elim (λ g. subst (λ (x : Identifier). below x i.id ≡ true) (met g) b)
                (λ g. below-trans y.id l.at.id i.id (a y l.at m here.0 g (omega (arith, candidates-are cs v l k)) (omega (arith, here))) b)
                (side (place_of cs l.at.id) (place_of cs y.id))

    down-kept : Down cs i w.lower
    down-kept y m p q r = ⊎_elim (λ e. f.down y m p (omega arith) (omega arith)) (λ k. at k.0 k.1 k.2 k.3) n.lower-end
      where
        at : (l : Located) → Memᴰ l (candidates cs v) → below l.at.id i.id ≡ false → w.lower ≡ l.place → below i.id y.id ≡ true
        at l k b e = ⊎_elim (λ h. f.down y m p h (omega (arith, candidates-are cs v l k))) over (side v.lower (place_of cs y.id))
          where
            here : Memᴰ l.at cs × (place_of cs l.at.id ≡ l.place)
            here = candidate-place v k

            lower : below i.id l.at.id ≡ true
            lower = below_total l.at.id i.id (same-ne l.at.id i.id (held-apart cs l.at.id i.id (held-id cs here.0) fresh)) b

            met : place_of cs y.id ≤ place_of cs l.at.id → l.at.id ≡ y.id
            met g = place-injective cs l.at.id y.id (omega (arith, here)) (held-id cs here.0) (held-id cs m)

            over : place_of cs y.id < v.lower → below i.id y.id ≡ true
            over h =
                ⊎_elim (λ g. subst (λ (x : Identifier). below i.id x ≡ true) (met g) lower)
                (λ g. below-trans i.id l.at.id y.id lower (a l.at y here.0 m g (omega (arith, here)) (omega (arith, candidates-are cs v l k))))
                (side (place_of cs y.id) (place_of cs l.at.id))

    flanked_kept : Flanked cs i w
    flanked_kept = record { apart = n.apart; top = omega arith; bottom = omega arith; up = up_kept; down = down-kept }

  flanked_start : place_of cs i.previous < place_of cs i.next → Flanked cs i (between cs i)
  unfolding between
  flanked_start h = record { apart = h; top = omega arith; bottom = omega arith; up = λ y m p q r. absurd (omega arith); down = λ y m p q r. absurd (omega arith) }

  -- the interval in which the insert is placed is flanked, and nothing is in it
  flanked_end : (k : ℕ) {v : Interval} → Placed cs i.id k v → Flanked cs i v → Flanked cs i (record { upper = k; lower = suc k })
  flanked_end k (arrived {v = v} g e) f =
      record {
        apart = omega arith;
        top = omega arith;
        bottom = omega (arith, f.apart, f.bottom);
        up = λ y m p q r. f.up y m p (omega arith) (omega arith);
        down = λ y m p q r. f.down y m p (omega (arith, adjacent-is v g)) (omega (arith, f.apart));
      }
  flanked_end k (narrows {v = v} {w = w} g n r) f = flanked_end k r (flanked_kept v w f n)

  module _ (p : Placement cs i) where
    flanked : Flanked cs i (record { upper = p.place; lower = suc p.place })
    flanked = flanked_end p.place (placed cs i.id (between cs i) p.place p.found) (flanked_start (above_place cs i.previous i.next p.ordered))

    old_order : (x y : Identifier) → held cs x ≡ true → held cs y ≡ true
        → place_of (inserted cs i p) x < place_of (inserted cs i p) y → place_of cs x < place_of cs y
    old_order x y h g q =
        ⊎_elim (λ a. ⊎_elim (λ b. omega arith) (λ b. omega arith) y-place)
        (λ a. ⊎_elim (λ b. omega arith) (λ b. omega arith) y-place)
        (old_place cs i fresh p x h)
      where
        y-place : Displaced p.place (place_of cs y) (place_of (inserted cs i p) y)
        y-place = old_place cs i fresh p y g

    -- what stands above the new character stood above the gap, and what stands below it below
    above_new : (x : Identifier) → held cs x ≡ true → place_of (inserted cs i p) x < place_of (inserted cs i p) i.id → place_of cs x ≤ p.place
    above_new x h q = ⊎_elim (λ a. omega arith) (λ a. omega (arith, new-place cs i fresh p)) (old_place cs i fresh p x h)

    below_new : (x : Identifier) → held cs x ≡ true → place_of (inserted cs i p) i.id < place_of (inserted cs i p) x → p.place < place_of cs x
    below_new x h q = ⊎_elim (λ a. omega (arith, new-place cs i fresh p)) (λ a. omega arith) (old_place cs i fresh p x h)

    abbrev Pair : Character → Character → Type 0
    Pair c d = Ranked (inserted cs i p) c.id c.next d.previous d.id

    pub ascending_insert : Ascending (inserted cs i p)
    unfolding character
    ascending_insert c d m n =
        each cs i fresh p (λ e. Pair e d) (each cs i fresh p (Pair (character i)) (λ q r t. absurd (omega arith)) new_old d n)
        (λ e k. each cs i fresh p (Pair e) (old_new e k) (old_old e k) d n)
        c
        m
      where
        new_old : (d : Character) → Memᴰ d cs → Pair (character i) d
        new_old d n q r t =
            flanked.down d n (old_order d.id i.next (held-id cs n) (next_in cs i fresh p) t) (below_new d.id (held-id cs n) q)
            (omega (arith, above_new d.previous (previous-held cs s n) r))

        old_new : (c : Character) → Memᴰ c cs → Pair c (character i)
        old_new c m q r t =
            flanked.up c m (old_order i.previous c.id (previous_in cs i fresh p) (held-id cs m) r) (above_new c.id (held-id cs m) q)
            (below_new c.next (next-held cs s m) t)

        old_old : (c : Character) → Memᴰ c cs → (d : Character) → Memᴰ d cs → Pair c d
        old_old c m d n q r t =
            a c d m n (old_order c.id d.id (held-id cs m) (held-id cs n) q)
            (old_order d.previous c.id (previous-held cs s n) (held-id cs m) r)
            (old_order d.id c.next (held-id cs n) (next-held cs s m) t)

module _ (cs : List Character) (x : Toggle) (a : Ascending cs) where
  -- by where the two came from
  abbrev Came : Insert → Insert → Type 0
  Came i j = Ranked (integrate_toggle cs x) i.id i.next j.previous j.id

  as_before : (y z : Identifier) → place_of (integrate_toggle cs x) y < place_of (integrate_toggle cs x) z → place_of cs y < place_of cs z
  as_before y z h = omega (arith, toggle_place cs x y, toggle_place cs x z)

  pub ascending_toggle : Ascending (integrate_toggle cs x)
  unfolding origin
  ascending_toggle c d m n = toggle_each cs x (λ i. Came i (origin d)) (λ e k. toggle_each cs x (Came (origin e)) (both e k) d n) c m
    where
      both : (e : Character) → Memᴰ e cs → (f : Character) → Memᴰ f cs → Came (origin e) (origin f)
      both e k f l p q r = a e f k l (as_before e.id f.id p) (as_before f.previous e.id q) (as_before f.id e.next r)
