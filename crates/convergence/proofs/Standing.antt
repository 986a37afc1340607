-- Integration keeps each character between its neighbours, on any list that has it: the new one goes in somewhere
-- strictly between its own neighbours, and the others stand as they stood.
use Prim.Native.Nat.{ℕ, suc, max, ◌≤◌, ◌<◌}
use native.Mathlib.Omega.{arith}
use mathlib.Core.Path.{◌≡◌, refl, ap, sym, ◌∙◌, subst}
use mathlib.Core.Bool.{Bool, true, false, cond}
use mathlib.Core.List.Memᴰ
use mathlib.Core.List.{List, [], append-nil, Memᴰ}
use mathlib.Core.Logic.{◌⊎◌, inl, inr, ⊎_elim}
use mathlib.Core.Option.{Option, none, some}
use borrow.Author.Tests.{not-false}
use lib.ListN.{length}
use Rattle.woot.specs.declared.Identifier.{Identifier}
use Rattle.woot.specs.declared.Insert.{Insert}
use Rattle.woot.specs.declared.Toggle.{Toggle}
use Rattle.woot.specs.declared.Operation.TheVariants.{Insert as insert}
use Rattle.woot.specs.declared.Character.{Character}
use Rattle.woot.specs.Limits.{last_toggles}
use Rattle.woot.specs.Identifiers.{same}
use Rattle.woot.specs.Operations.{character, origin, toggled_by}
use Rattle.woot.specs.Ranges.{insert_in_range, toggle_in_range, character_in_range}
use Rattle.lists.specs.Lists.{distinct, missing}
use Rattle.woot.specs.Placing.{identifiers, place_of, held, above, position, between, insert_at, integrate_insert, integrate_toggle}
use Rattle.woot.specs.Pending.{executable, crossed, unplaceable}
use Rattle.convergence.specs.Agreement.{Standing}
use Rattle.lists.proofs.Tests.{clash, or_left, or_right, and-false}
use Rattle.convergence.proofs.Ranges.{origin_ranged, toggles_ranged, to-character-range, toggle-in-range}
use Rattle.convergence.proofs.Identifiers.{same_refl}
use Rattle.convergence.proofs.Insertion.{insert_member, insert-distinct}
use Rattle.convergence.proofs.Places.{shift, shift-before, shift_behind, held_place, above_place, above_lower, above-upper, place-above, held-apart, held-insert, not-held, place-insert_old, place-insert-new, above-insert}
use Rattle.lists.proofs.Tests.{side}
use Rattle.convergence.proofs.Toggling.{toggled-origin, toggled-toggles, toggle_identifiers, toggle_above, toggle_member, toggle_each}
use Rattle.convergence.proofs.Placing.{position-within}

-- where an insert goes in, strictly between its neighbours
pub record Placement (cs : List Character) (i : Insert) : Type 0 where
  pub place : ℕ
  pub found : position cs i.id (between cs i) ≡ some place
  pub ordered : above cs i.previous i.next ≡ true
  pub under : place_of cs i.previous ≤ place
  pub over : place < place_of cs i.next
  pub within : place ≤ length cs
  pub result : integrate_insert cs i ≡ insert_at place (character i) cs

module _ (cs : List Character) (i : Insert) (ready : executable cs (insert i) ≡ true) (straight : crossed cs (insert i) ≡ false) where
  pub neighbours-ordered : above cs i.previous i.next ≡ true
  unfolding crossed
  neighbours-ordered = not-false _ (and-false (executable cs (insert i)) _ straight ready)

  pub placement-at : (k : ℕ) → position cs i.id (between cs i) ≡ some k → Placement cs i
  unfolding between integrate_insert
  placement-at k e =
      record {
        place = k;
        found = e;
        ordered = neighbours-ordered;
        under = inside.0;
        over = inside.1;
        within = omega (arith, inside, next_in);
        result = rw (e, integrate_insert);
      }
    where
      inside : (place_of cs i.previous ≤ k) × (k < place_of cs i.next)
      inside = position-within cs i.id (between cs i) k (above_place cs i.previous i.next neighbours-ordered) e

      next_in : place_of cs i.next ≤ suc (length cs)
      next_in = held_place cs i.next (above_lower cs i.previous i.next neighbours-ordered)

  pub placement : unplaceable cs (insert i) ≡ false → Placement cs i
  unfolding unplaceable
  placement u = go (position cs i.id (between cs i)) refl
    where
      go : (o : Option ℕ) → position cs i.id (between cs i) ≡ o → Placement cs i
      go none e = clash (ap missing e) (and-false (executable cs (insert i)) _ u ready)
      go (some k) e = placement-at k e

  -- "in its place": where the code puts it
  pub integrate-insert : unplaceable cs (insert i) ≡ false
      → (k : ℕ) × (k ≤ length cs) × (integrate_insert cs i ≡ insert_at k (character i) cs)
  integrate-insert u = let p = placement u in (p.place, p.within, p.result)

-- a place, and what it is after an insertion just below place k
abbrev pub Displaced : ℕ → ℕ → ℕ → Type 0
Displaced k a b = ((a ≤ k) × (b ≡ a)) ⊎ ((k < a) × (b ≡ suc a))

-- the characters with an insert in its place
abbrev pub inserted : (cs : List Character) (i : Insert) → Placement cs i → List Character
inserted cs i p = insert_at p.place (character i) cs

abbrev Apart : List Identifier → Type 0
Apart xs = distinct same xs ≡ true

-- where the old and the new stand, once an insert is in its place
module _ (cs : List Character) (i : Insert) (fresh : held cs i.id ≡ false) (p : Placement cs i) where
  pub new-place : place_of (inserted cs i p) i.id ≡ suc p.place
  unfolding character
  new-place = place-insert-new p.place (character i) cs p.within fresh

  pub new-held : held (inserted cs i p) i.id ≡ true
  unfolding character
  new-held = held-insert p.place (character i) cs i.id ∙ or_left (same i.id i.id) _ (same_refl i.id)

  pub old_held : (x : Identifier) → held cs x ≡ true → held (inserted cs i p) x ≡ true
  unfolding character
  old_held x h = held-insert p.place (character i) cs x ∙ or_right (same x i.id) _ h

  -- those above the new one keep their place, and the others move down by one
  pub old_place : (x : Identifier) → held cs x ≡ true → Displaced p.place (place_of cs x) (place_of (inserted cs i p) x)
  unfolding character
  old_place x h =
      ⊎_elim (λ e. inl (e, moved ∙ shift-before (suc p.place) (place_of cs x) (omega arith)))
      (λ e. inr (e, moved ∙ shift_behind (suc p.place) (place_of cs x) (omega arith)))
      (side (place_of cs x) p.place)
    where
      moved : place_of (inserted cs i p) x ≡ shift (suc p.place) (place_of cs x)
      moved = place-insert_old p.place (character i) cs p.within x (held-apart cs x i.id h fresh)

  pub old_above : (x y : Identifier) → above cs x y ≡ true → above (inserted cs i p) x y ≡ true
  unfolding character
  old_above x y h = above-insert p.place (character i) cs p.within x y (above-upper cs x y h) (above_lower cs x y h) fresh ∙ h

  pub previous_in : held cs i.previous ≡ true
  previous_in = above-upper cs i.previous i.next p.ordered

  pub next_in : held cs i.next ≡ true
  next_in = above_lower cs i.previous i.next p.ordered

  pub new-below : above (inserted cs i p) i.previous i.id ≡ true
  new-below =
      place-above (inserted cs i p) i.previous i.id
      (⊎_elim (λ q. omega (arith, q, new-place)) (λ q. omega (arith, q, p.under)) (old_place i.previous previous_in))
      new-held

  pub new-above : above (inserted cs i p) i.id i.next ≡ true
  new-above =
      place-above (inserted cs i p) i.id i.next
      (⊎_elim (λ q. omega (arith, q, p.over)) (λ q. omega (arith, q, new-place)) (old_place i.next next_in))
      (old_held i.next next_in)

  -- what holds of the new character and of each old one
  pub each : (P : Character → Type 0) → P (character i)
      → ((c : Character) → Memᴰ c cs → P c) → (c : Character) → Memᴰ c (inserted cs i p) → P c
  each P new old c m = ⊎_elim (λ e. subst P (sym e) new) (old c) (insert_member p.place (character i) cs m)

  still-apart : distinct same (identifiers cs) ≡ true → distinct same (identifiers (inserted cs i p)) ≡ true
  unfolding character
  still-apart d =
      subst Apart (append-nil (identifiers (inserted cs i p)))
      (insert-distinct p.place (character i) cs [] (not-held cs i.id fresh) refl (subst Apart (sym (append-nil (identifiers cs))) d))

  pub standing_insert-at : Standing cs → insert_in_range i ≡ true → Standing (inserted cs i p)
  unfolding character origin
  standing_insert-at s h =
      record {
        ranges = each (λ c. character_in_range c ≡ true) (to-character-range (character i) h (omega arith)) s.ranges;
        apart = still-apart s.apart;
        below-previous =
            each (λ c. above (inserted cs i p) c.previous c.id ≡ true) new-below
            (λ c m. old_above c.previous c.id (s.below-previous c m));
        above-next =
            each (λ c. above (inserted cs i p) c.id c.next ≡ true) new-above
            (λ c m. old_above c.id c.next (s.above-next c m));
      }

pub standing_insert : (cs : List Character) (i : Insert) → Standing cs → insert_in_range i ≡ true → held cs i.id ≡ false
    → executable cs (insert i) ≡ true → crossed cs (insert i) ≡ false → unplaceable cs (insert i) ≡ false
    → Standing (integrate_insert cs i)
standing_insert cs i s r n e c u =
    let p = placement cs i e c u in
    subst Standing (sym p.result) (standing_insert-at cs i n p s r)

pub standing_empty : Standing []
standing_empty =
    record {
      ranges = λ c m. absurd (Memᴰ.not-nil m);
      apart = refl;
      below-previous = λ c m. absurd (Memᴰ.not-nil m);
      above-next = λ c m. absurd (Memᴰ.not-nil m);
    }

-- a character in range stays so: its toggles are its own or the operation's
marked_ranged : (x : Toggle) → toggle_in_range x ≡ true → (c : Character) → character_in_range c ≡ true → character_in_range (toggled_by x c) ≡ true
marked_ranged x r c h =
    to-character-range (toggled_by x c) (subst (λ (i : Insert). insert_in_range i ≡ true) (sym (toggled-origin x c)) (origin_ranged c h))
    (subst (λ (n : ℕ). n ≤ last_toggles) (sym (toggled-toggles x c)) (go (same x.target c.id)))
  where
    go : (b : Bool) → cond b (max c.toggles x.toggles) c.toggles ≤ last_toggles
    go true = omega (arith, toggles_ranged c h, (toggle-in-range x r).most)
    go false = toggles_ranged c h

pub standing_toggle : (cs : List Character) (x : Toggle) → toggle_in_range x ≡ true → Standing cs → Standing (integrate_toggle cs x)
unfolding origin
standing_toggle cs x r s =
    record {
      ranges = λ c m. let w = toggle_member cs x m in subst (λ (d : Character). character_in_range d ≡ true) w.2 (marked_ranged x r w.0 (s.ranges w.0 w.1));
      apart = rw toggle_identifiers s.apart;
      below-previous =
          toggle_each cs x (λ i. above (integrate_toggle cs x) i.previous i.id ≡ true)
          (λ c m. toggle_above cs x c.previous c.id ∙ s.below-previous c m);
      above-next =
          toggle_each cs x (λ i. above (integrate_toggle cs x) i.id i.next ≡ true)
          (λ c m. toggle_above cs x c.id c.next ∙ s.above-next c m);
    }
