-- Integration keeps all that a list has that grew from the empty one; and in such a list every insert between its
-- neighbours has a place, since of the characters between two ends the one born first is a candidate.
use Prim.Native.Nat.{ℕ, zero, suc, ◌+◌, ◌≤◌, ◌<◌}
use native.Mathlib.Omega.{arith}
use mathlib.Core.Path.{◌≡◌, refl, ap, sym, ◌∙◌, subst}
use mathlib.Core.Bool.{true, false, cond}
use mathlib.Core.List.Memᴰ
use mathlib.Core.List.{List, [], ◌∷◌, Memᴰ}
use mathlib.Core.Logic.{⊎_elim}
use mathlib.Core.Option.{some}
use borrow.Author.Tests.{leb-false}
use lib.ListN.{length, get_or}
use Rattle.woot.specs.declared.Identifier.{Identifier}
use Rattle.woot.specs.declared.Insert.{Insert}
use Rattle.woot.specs.declared.Toggle.{Toggle}
use Rattle.woot.specs.declared.Operation.TheVariants.{Insert as insert}
use Rattle.woot.specs.declared.Character.{Character}
use Rattle.woot.specs.Identifiers.{same}
use Rattle.woot.specs.Operations.{character, origin}
use Rattle.woot.specs.Ranges.{insert_in_range, toggle_in_range}
use Rattle.woot.specs.State.{blank_character}
use Rattle.lists.specs.Lists.{missing}
use Rattle.woot.specs.Placing.{place_of, held, Interval, Located, adjacent, candidate, candidates, narrowed, position, between, integrate_insert, integrate_toggle}
use Rattle.woot.specs.Pending.{executable, crossed, unplaceable}
use Rattle.convergence.specs.Agreement.{Standing, Births, Grown}
use Rattle.lists.proofs.Tests.{either}
use Rattle.convergence.proofs.Identifiers.{same_refl}
use Rattle.lists.proofs.Members.{member_keep}
use Rattle.convergence.proofs.Places.{held-id, held_place, above_lower, held-apart}
use Rattle.lists.proofs.Tests.{side}
use Rattle.convergence.proofs.Characters.{spot, member_located, at-index, between-marks}
use Rattle.convergence.proofs.Toggling.{toggle_each}
use Rattle.convergence.proofs.Placing.{Candidate, is-candidate, narrowing, is-adjacent, position-adjacent, position-again}
use Rattle.convergence.proofs.Standing.{previous_in, next_in, Placement, placement-at, neighbours-ordered, inserted, each, standing_insert-at, standing_empty, standing_toggle}
use Rattle.convergence.proofs.Sorting.{sorted_ascending, ascending_sorted, ascending_insert, ascending_toggle, previous-place, next_place, previous-held, next-held}

-- there is a candidate
abbrev Eligible : List Character → Interval → Type 0
Eligible cs v = (l : Located) × Memᴰ l (candidates cs v)

module _ (cs : List Character) (s : Standing cs) (b : Births cs) where
  -- what is sought from a character between the ends, born before n
  abbrev Sought : Interval → ℕ → Type 0
  Sought v n = (c : Character) → Memᴰ c cs → b.birth c.id < n → v.upper < place_of cs c.id → place_of cs c.id < v.lower → Eligible cs v

  -- on to a neighbour between the ends
  toward : (v : Interval) → v.lower ≤ suc (length cs) → (n : ℕ) → Sought v n → (x : Identifier) → held cs x ≡ true → b.birth x < n
      → v.upper < place_of cs x → place_of cs x < v.lower → Eligible cs v
  toward v w n again x e g i j =
      let r = between-marks cs s x e (omega arith) (omega arith) in
      let f : b.birth x ≡ b.birth r.0.id = ap b.birth r.2 in
      let k : place_of cs x ≡ place_of cs r.0.id = ap (place_of cs) r.2 in
      again r.0 r.1 (omega arith) (omega arith) (omega arith)

  -- one that is no candidate has a neighbour between the ends, born before it
  oldest : (v : Interval) → v.lower ≤ suc (length cs) → (n : ℕ) → Sought v n
  unfolding candidates
  oldest v w zero c m h p q = absurd (omega arith)
  oldest v w (suc n) c m h p q =
      ⊎_elim (λ e. ⊎_elim (chosen e) (onward (oldest v w n)) (side v.lower (place_of cs c.next))) (back (oldest v w n))
      (side (place_of cs c.previous) v.upper)
    where
      here : Located
      here = spot (place_of cs c.id) c

      chosen : place_of cs c.previous ≤ v.upper → v.lower ≤ place_of cs c.next → Eligible cs v
      chosen e g =
          let k : Candidate cs v here = record { under = p; over = q; previous-out = e; next-out = g } in
          (here, member_keep (candidate cs v) (member_located cs s m) (is-candidate cs v here k))

      onward : Sought v n → place_of cs c.next < v.lower → Eligible cs v
      onward r g = toward v w n r c.next (next-held cs s m) (omega (arith, b.after_next c m)) (omega (arith, next_place cs s m)) g

      back : Sought v n → v.upper < place_of cs c.previous → Eligible cs v
      back r e = toward v w n r c.previous (previous-held cs s m) (omega (arith, b.after-previous c m)) e (omega (arith, previous-place cs s m))

  candidate-exists : (v : Interval) → adjacent v ≡ false → v.lower ≤ suc (length cs) → Eligible cs v
  unfolding adjacent
  candidate-exists v a h =
      oldest v h (suc (b.birth c.id)) c r.0 (omega arith) (omega (arith, r.1)) (omega (arith, r.1, two))
    where
      two : suc v.upper < v.lower
      two = leb-false v.lower (suc v.upper) a

      c : Character
      c = get_or cs v.upper blank_character

      r : Memᴰ c cs × (place_of cs c.id ≡ suc v.upper)
      r = at-index cs s v.upper blank_character (omega (arith, two))

  abbrev Ends : Identifier → Interval → Type 0
  Ends x v = (k : ℕ) × (position cs x v ≡ some k)

  -- placing never ends without a place (refusal 9)
  position-exists : (x : Identifier) (n : ℕ) (v : Interval) → v.lower ≤ suc (n + v.upper) → v.lower ≤ suc (length cs) → Ends x v
  position-exists x zero v e h = (v.upper, position-adjacent cs x v (is-adjacent v (omega arith)))
  position-exists x (suc n) v e h =
      ⊎_elim (λ a. (v.upper, position-adjacent cs x v a)) (λ a. go a (candidates cs v) refl (position-exists x n)) (either (adjacent v))
    where
      go : adjacent v ≡ false → (ls : List Located) → candidates cs v ≡ ls
          → ((w : Interval) → w.lower ≤ suc (n + w.upper) → w.lower ≤ suc (length cs) → Ends x w) → Ends x v
      go a [] f r = let l = candidate-exists v a h in absurd (Memᴰ.not-nil (subst (Memᴰ l.0) f l.1))
      go a (l ∷ ls) f r =
          let w = narrowing cs x v l ls a f in
          let k = r (narrowed x v (l ∷ ls)) (omega arith) (omega arith) in
          (k.0, position-again cs x v l ls a f ∙ k.1)

  pub insert-placed : (i : Insert) → executable cs (insert i) ≡ true → crossed cs (insert i) ≡ false → Placement cs i
  unfolding between
  insert-placed i e c =
      let r = position-exists i.id (between cs i).lower (between cs i) (omega arith) lower in
      placement-at cs i e c r.0 r.1
    where
      lower : place_of cs i.next ≤ suc (length cs)
      lower = held_place cs i.next (above_lower cs i.previous i.next (neighbours-ordered cs i e c))

  pub insert_placeable : (i : Insert) → executable cs (insert i) ≡ true → crossed cs (insert i) ≡ false → unplaceable cs (insert i) ≡ false
  unfolding unplaceable
  insert_placeable i e c = rw (e, ap missing (insert-placed i e c).found)

-- the new character is born after both its neighbours
module _ (cs : List Character) (b : Births cs) (s : Standing cs) (i : Insert) (fresh : held cs i.id ≡ false) (p : Placement cs i) where
  birth : Identifier → ℕ
  birth x = cond (same x i.id) (suc (b.birth i.previous + b.birth i.next)) (b.birth x)

  birth_new : birth i.id ≡ suc (b.birth i.previous + b.birth i.next)
  unfolding birth
  birth_new = rw (same_refl i.id)

  birth_old : (x : Identifier) → held cs x ≡ true → birth x ≡ b.birth x
  unfolding birth
  birth_old x h = rw (held-apart cs x i.id h fresh)

  births_insert : Births (inserted cs i p)
  unfolding character
  births_insert =
      record {
        birth = birth;
        after-previous =
            each cs i fresh p (λ c. birth c.previous < birth c.id) (omega (arith, birth_new, birth_old i.previous (previous_in cs i fresh p)))
            (λ c m. omega (arith, birth_old c.previous (previous-held cs s m), birth_old c.id (held-id cs m), b.after-previous c m));
        after_next =
            each cs i fresh p (λ c. birth c.next < birth c.id) (omega (arith, birth_new, birth_old i.next (next_in cs i fresh p)))
            (λ c m. omega (arith, birth_old c.next (next-held cs s m), birth_old c.id (held-id cs m), b.after_next c m));
      }

births_toggle : (cs : List Character) (x : Toggle) → Births cs → Births (integrate_toggle cs x)
unfolding origin
births_toggle cs x b =
    record {
      birth = b.birth;
      after-previous = toggle_each cs x (λ (i : Insert). b.birth i.previous < b.birth i.id) b.after-previous;
      after_next = toggle_each cs x (λ (i : Insert). b.birth i.next < b.birth i.id) b.after_next;
    }

pub grown-empty : Grown []
grown-empty =
    record {
      standing = standing_empty;
      births =
          record {
            birth = λ x. 0;
            after-previous = λ c m. absurd (Memᴰ.not-nil m);
            after_next = λ c m. absurd (Memᴰ.not-nil m);
          };
      sorted = λ c d m. absurd (Memᴰ.not-nil m);
    }

pub grown_toggle : (cs : List Character) (x : Toggle) → toggle_in_range x ≡ true → Grown cs → Grown (integrate_toggle cs x)
grown_toggle cs x r g =
    record {
      standing = s;
      births = births_toggle cs x g.births;
      sorted =
          ascending_sorted (integrate_toggle cs x) s
          (ascending_toggle cs x (sorted_ascending cs g.standing g.sorted));
    }
  where
    s : Standing (integrate_toggle cs x)
    s = standing_toggle cs x r g.standing

-- no refusal 9
pub grown_placeable : (cs : List Character) (i : Insert) → Grown cs → executable cs (insert i) ≡ true → crossed cs (insert i) ≡ false
    → unplaceable cs (insert i) ≡ false
grown_placeable cs i g e c = insert_placeable cs g.standing g.births i e c

pub grown-insert : (cs : List Character) (i : Insert) → Grown cs → insert_in_range i ≡ true → held cs i.id ≡ false
    → executable cs (insert i) ≡ true → crossed cs (insert i) ≡ false → Grown (integrate_insert cs i)
grown-insert cs i g r n e c = subst Grown (sym p.result) kept
  where
    p : Placement cs i
    p = insert-placed cs g.standing g.births i e c

    s : Standing (inserted cs i p)
    s = standing_insert-at cs i n p g.standing r

    kept : Grown (inserted cs i p)
    kept =
        record {
          standing = s;
          births = births_insert cs g.births g.standing i n p;
          sorted =
              ascending_sorted (inserted cs i p) s
              (ascending_insert cs g.standing (sorted_ascending cs g.standing g.sorted) i n p);
        }
