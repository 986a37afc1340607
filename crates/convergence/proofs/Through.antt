-- The characters from the top through one of them: how many of them are visible grows from one visible character to the
-- next by one, so that a count of visible characters and the character on the left of that gap tell each other.
use Prim.Native.Nat.{ℕ, zero, suc, ◌+◌, ◌≤◌, ◌<◌}
use native.Mathlib.Omega.{arith}
use mathlib.Core.Path.{◌≡◌, refl, ap, sym, ◌∙◌, subst}
use mathlib.Core.Bool.{Bool, true, false, not, cond}
use mathlib.Core.List.Memᴰ
use mathlib.Core.List.{List, [], ◌∷◌, ◌++◌, map, Memᴰ}
use mathlib.Core.Logic.{◌⊎◌, inl, inr, ⊎_elim}
use lib.ListN.{length, take, get_or, length-map}
use borrow.Author.Tests.{not-true}
use Rattle.woot.specs.declared.Identifier.{Identifier}
use Rattle.woot.specs.declared.Character.{Character}
use Rattle.woot.specs.Identifiers.{begin, end, same}
use Rattle.woot.specs.Operations.{is_visible}
use Rattle.woot.specs.State.{blank_character}
use Rattle.woot.specs.Placing.{identifiers, sequence, index_of, place_of, held}
use Rattle.woot.specs.Calls.{visibles}
use Rattle.woot.specs.Cursor.{left_of, through, visible_through}
use Rattle.lists.specs.Lists.{any, keep, distinct}
use Rattle.lists.proofs.Tests.{either, side, clash, and_left_lem, and_right}
use Rattle.lists.proofs.Members.{get_member, any_none, any_member, member_any, keep_member}
use Rattle.convergence.specs.Agreement.{Standing}
use Rattle.convergence.specs.Cursors.{shown, NearestAbove}
use Rattle.convergence.proofs.Identifiers.{same_refl, same-eq, same_sym}
use Rattle.convergence.proofs.Places.{index-here, index-later, not-begin, held-begin, held_member, place-above, above_place, place-injective}
use Rattle.convergence.proofs.InsertionPoint.{member_range}
use Rattle.convergence.proofs.Characters.{own-index, member_place}

-- ---- a walk from the top, which stops behind x

abbrev pub up_to : Identifier → List Character → List Character
up_to x [] = []
up_to x (c ∷ cs) = c ∷ cond (same x c.id) [] (up_to x cs)

pub through-up : (cs : List Character) (x : Identifier) → through cs x ≡ cond (same x begin) [] (up_to x cs)
unfolding through place_of sequence
through-up cs x = ⊎_elim (λ e. rw (index-here x begin (identifiers cs ++ end ∷ []) e, e)) (λ e. rw (index-later x begin (identifiers cs ++ end ∷ []) e, e) (go cs)) (either (same x begin))
  where
    go : (ds : List Character) → take (suc (index_of x (identifiers ds ++ end ∷ []))) ds ≡ up_to x ds
    go [] = refl
    go (d ∷ ds) =
        ⊎_elim (λ e. rw (index-here x d.id (identifiers ds ++ end ∷ []) e, e)) (λ e. rw (index-later x d.id (identifiers ds ++ end ∷ []) e, e) (ap (λ (l : List Character). d ∷ l) (go ds)))
        (either (same x d.id))

-- how many are visible
abbrev pub shown_in : List Character → ℕ
shown_in cs = length (keep is_visible cs)

pub shown-visibles : (cs : List Character) → length (visibles cs) ≡ shown_in cs
unfolding visibles
shown-visibles cs = length-map (keep is_visible cs) (λ c. c.id)

pub shown-through : (cs : List Character) (x : Identifier) → visible_through cs x ≡ shown_in (through cs x)
unfolding visible_through
shown-through cs x = shown-visibles (through cs x)

pub through-begin : (cs : List Character) → visible_through cs begin ≡ 0
through-begin cs = shown-through cs begin ∙ rw (through-up cs begin, same_refl begin)

pub through-character : (cs : List Character) (x : Identifier) → same x begin ≡ false → visible_through cs x ≡ shown_in (up_to x cs)
through-character cs x e = shown-through cs x ∙ rw (through-up cs x, e)

-- ---- distinct identifiers

pub rest-distinct : (c : Character) (cs : List Character) → distinct same (identifiers (c ∷ cs)) ≡ true → distinct same (identifiers cs) ≡ true
rest-distinct c cs d = and_right (not (any (same c.id) (identifiers cs))) (distinct same (identifiers cs)) d

pub other-identifier : (c : Character) (cs : List Character) {x : Identifier} → distinct same (identifiers (c ∷ cs)) ≡ true → Memᴰ x (identifiers cs) → same x c.id ≡ false
other-identifier c cs {x} d m =
    same_sym x c.id ∙ any_none (same c.id) (not-true (any (same c.id) (identifiers cs)) (and_left_lem (not (any (same c.id) (identifiers cs))) (distinct same (identifiers cs)) d)) m

pub visible_member : (cs : List Character) {x : Identifier} → Memᴰ x (visibles cs) → (c : Character) × Memᴰ c cs × (is_visible c ≡ true) × (c.id ≡ x)
unfolding visibles
visible_member cs m =
    let w = Memᴰ.of_map (λ c. c.id) (keep is_visible cs) m in
    let k = keep_member is_visible cs w.1 in
    (w.0, k.0, k.1, w.2)

pub visible_identifier : (cs : List Character) {x : Identifier} → Memᴰ x (visibles cs) → Memᴰ x (identifiers cs)
visible_identifier cs m = let w = visible_member cs m in subst (λ y. Memᴰ y (identifiers cs)) w.3 (Memᴰ.map (λ c. c.id) w.1)

-- the visible character counted k from 0 is the one behind which k + 1 have been passed
up_left : (cs : List Character) → distinct same (identifiers cs) ≡ true → (k : ℕ) (z : Identifier) → k < length (visibles cs) → shown_in (up_to (get_or (visibles cs) k z) cs) ≡ suc k
unfolding visibles
up_left [] d k z h = absurd (omega arith)
up_left (c ∷ cs) d k z h = go (is_visible c) refl k h (up_left cs (rest-distinct c cs d))
  where
    later : (k : ℕ) → k < length (visibles cs) → same (get_or (visibles cs) k z) c.id ≡ false
    later k l = other-identifier c cs d (visible_identifier cs (get_member (visibles cs) k z l))

    go : (b : Bool) → is_visible c ≡ b → (k : ℕ) → k < length (identifiers (cond b (c ∷ keep is_visible cs) (keep is_visible cs)))
        → ((k : ℕ) (z : Identifier) → k < length (visibles cs) → shown_in (up_to (get_or (visibles cs) k z) cs) ≡ suc k)
        → shown_in (up_to (get_or (identifiers (cond b (c ∷ keep is_visible cs) (keep is_visible cs))) k z) (c ∷ cs)) ≡ suc k
    go true e zero l again = rw (same_refl c.id, e)
    go true e (suc j) l again = rw (later j (omega arith), e) (ap suc (again j z (omega arith)))
    go false e j l again = rw (later j l, e) (again j z l)

-- ---- the first of a list

-- more of them have as many visible ones or more
pub shown-more : (cs : List Character) (j k : ℕ) → j ≤ k → shown_in (take j cs) ≤ shown_in (take k cs)
shown-more cs zero k h = omega arith
shown-more [] (suc j) k h = omega arith
shown-more (c ∷ cs) (suc j) zero h = absurd (omega arith)
shown-more (c ∷ cs) (suc j) (suc k) h = go (is_visible c) (shown-more cs j k (omega arith))
  where
    go : (b : Bool) → shown_in (take j cs) ≤ shown_in (take k cs)
        → length (cond b (c ∷ keep is_visible (take j cs)) (keep is_visible (take j cs))) ≤ length (cond b (c ∷ keep is_visible (take k cs)) (keep is_visible (take k cs)))
    go true l = omega arith
    go false l = l

-- and one more with a visible one at their end
shown-next : (cs : List Character) (k : ℕ) (z : Character) → k < length cs → is_visible (get_or cs k z) ≡ true → shown_in (take (suc k) cs) ≡ suc (shown_in (take k cs))
shown-next [] k z h v = absurd (omega arith)
shown-next (c ∷ cs) zero z h v = rw v
shown-next (c ∷ cs) (suc k) z h v = go (is_visible c) (shown-next cs k z (omega arith) v)
  where
    go : (b : Bool) → shown_in (take (suc k) cs) ≡ suc (shown_in (take k cs))
        → length (cond b (c ∷ keep is_visible (take (suc k) cs)) (keep is_visible (take (suc k) cs))) ≡ suc (length (cond b (c ∷ keep is_visible (take k cs)) (keep is_visible (take k cs))))
    go true e = ap suc e
    go false e = e

pub shown_most : (cs : List Character) (k : ℕ) → shown_in (take k cs) ≤ shown_in cs
shown_most cs zero = omega arith
shown_most [] (suc k) = omega arith
shown_most (c ∷ cs) (suc k) = go (is_visible c) (shown_most cs k)
  where
    go : (b : Bool) → shown_in (take k cs) ≤ shown_in cs → length (cond b (c ∷ keep is_visible (take k cs)) (keep is_visible (take k cs))) ≤ length (cond b (c ∷ keep is_visible cs) (keep is_visible cs))
    go true l = omega arith
    go false l = l

pub through_most : (cs : List Character) (x : Identifier) → visible_through cs x ≤ length (visibles cs)
unfolding through
through_most cs x = omega (arith, shown-through cs x, shown-visibles cs, shown_most cs (place_of cs x))

pub through-more : (cs : List Character) (x y : Identifier) → place_of cs x ≤ place_of cs y → visible_through cs x ≤ visible_through cs y
unfolding through
through-more cs x y h = omega (arith, shown-through cs x, shown-through cs y, shown-more cs (place_of cs x) (place_of cs y) h)

place-begin : (cs : List Character) → place_of cs begin ≡ 0
unfolding place_of sequence
place-begin cs = index-here begin begin (identifiers cs ++ end ∷ []) (same_refl begin)

-- ---- on a list that stands

-- what is shown is the begin mark or a visible character
abbrev pub Shown : List Character → Identifier → Type 0
Shown cs x = (x ≡ begin) ⊎ Memᴰ x (visibles cs)

pub to-shown : (cs : List Character) (x : Identifier) → shown cs x ≡ true → Shown cs x
to-shown cs x h = let w = any_member (same x) (begin ∷ visibles cs) h in go (Memᴰ.cases_cons w.1) (same-eq x w.0 w.2)
  where
    go : {y : Identifier} → (y ≡ begin) ⊎ Memᴰ y (visibles cs) → x ≡ y → Shown cs x
    go (inl e) f = inl (f ∙ e)
    go (inr m) f = inr (subst (λ z. Memᴰ z (visibles cs)) (sym f) m)

pub from_member : (cs : List Character) {x : Identifier} → Memᴰ x (begin ∷ visibles cs) → shown cs x ≡ true
from_member cs {x} m = member_any (same x) m (same_refl x)

-- what stands on the left of a gap is shown, whatever the gap
pub left-shown : (cs : List Character) (g : ℕ) → shown cs (left_of cs g) ≡ true
left-shown cs zero = from_member cs (Memᴰ.head refl)
left-shown cs (suc k) = from_member cs (go (visibles cs) k)
  where
    go : (xs : List Identifier) (k : ℕ) → Memᴰ (get_or xs k begin) (begin ∷ xs)
    go [] k = Memᴰ.head refl
    go (x ∷ xs) zero = Memᴰ.tail (Memᴰ.head refl)
    go (x ∷ xs) (suc k) = ⊎_elim (λ e. Memᴰ.head e) (λ m. Memᴰ.tail (Memᴰ.tail m)) (Memᴰ.cases_cons (go xs k))

pub shown-held : (cs : List Character) (x : Identifier) → Shown cs x → held cs x ≡ true
shown-held cs x (inl e) = subst (λ y. held cs y ≡ true) (sym e) (held-begin cs)
shown-held cs x (inr m) = held_member cs (visible_identifier cs m)

module _ {cs : List Character} (s : Standing cs) where
  pub left-through : (g : ℕ) → g ≤ length (visibles cs) → visible_through cs (left_of cs g) ≡ g
  left-through zero h = through-begin cs
  left-through (suc k) h =
      let m = visible_identifier cs (get_member (visibles cs) k begin (omega arith)) in
      through-character cs (get_or (visibles cs) k begin) (not-begin (get_or (visibles cs) k begin) (member_range cs s.ranges m)) ∙ up_left cs s.apart k begin (omega arith)

  -- through a visible character further down there is one more
  pub taken_next : (k : ℕ) (y : Identifier) → Memᴰ y (visibles cs) → k < place_of cs y → suc (shown_in (take k cs)) ≤ visible_through cs y
  unfolding through
  taken_next k y m h =
      let w = visible_member cs m in
      let i = own-index cs s blank_character w.1 in
      let here : place_of cs y ≡ suc i.0 = ap (place_of cs) (sym w.3) ∙ i.1 in
      let seen : is_visible (get_or cs i.0 blank_character) ≡ true = ap is_visible i.2 ∙ w.2 in
      let one = shown-next cs i.0 blank_character (omega (arith, i.1, (member_place cs s w.1).1)) seen in
      let all : shown_in (take (place_of cs y) cs) ≡ shown_in (take (suc i.0) cs) = ap (λ (k : ℕ). shown_in (take k cs)) here in
      omega (arith, shown-through cs y, all, one, shown-more cs k i.0 (omega arith))

  -- of two that are shown the one further down has more through it
  shown-next-through : (x y : Identifier) → Shown cs y → place_of cs x < place_of cs y → suc (visible_through cs x) ≤ visible_through cs y
  unfolding through
  shown-next-through x y (inl e) h = absurd (omega (arith, ap (place_of cs) e, place-begin cs))
  shown-next-through x y (inr m) h = omega (arith, shown-through cs x, taken_next (place_of cs x) y m h)

  -- the character on the left of the gap that x comes to
  left-again : (x : Identifier) → visible_through cs (left_of cs (visible_through cs x)) ≡ visible_through cs x
  left-again x = left-through (visible_through cs x) (through_most cs x)

  -- where x and that character are both shown they are the same
  pub kept-left : (x : Identifier) → shown cs x ≡ true → left_of cs (visible_through cs x) ≡ x
  kept-left x h =
      ⊎_elim (λ a. ⊎_elim (λ b. place-injective cs y x (omega arith) (shown-held cs y q) (shown-held cs x p)) (λ b. absurd (omega (arith, shown-next-through y x p b, left-again x))) (side (place_of cs x) (place_of cs y)))
      (λ a. absurd (omega (arith, shown-next-through x y q a, left-again x)))
      (side (place_of cs y) (place_of cs x))
    where
      y : Identifier
      y = left_of cs (visible_through cs x)

      p : Shown cs x
      p = to-shown cs x h

      q : Shown cs y
      q = to-shown cs y (left-shown cs (visible_through cs x))

  -- where x is held and hidden, that character is the nearest one above it
  pub nearest-left : (x : Identifier) → held cs x ≡ true → shown cs x ≡ false → NearestAbove cs x (left_of cs (visible_through cs x))
  nearest-left x e h =
      record {
        is-shown = left-shown cs (visible_through cs x);
        stands-above = place-above cs y x above-x e;
        none_between = λ z t a b. absurd (omega (arith, shown-next-through y z (to-shown cs z t) (above_place cs y z a), through-more cs z x (omega (arith, above_place cs z x b)), left-again x));
      }
    where
      y : Identifier
      y = left_of cs (visible_through cs x)

      q : Shown cs y
      q = to-shown cs y (left-shown cs (visible_through cs x))

      apart : place_of cs x ≡ place_of cs y → ⊥
      apart f = clash (subst (λ z. shown cs z ≡ true) (sym (place-injective cs x y f e (shown-held cs y q))) (left-shown cs (visible_through cs x))) h

      above-x : place_of cs y < place_of cs x
      above-x = ⊎_elim (λ a. ⊎_elim (λ b. absurd (apart (omega arith))) (λ b. absurd (omega (arith, shown-next-through x y q b, left-again x))) (side (place_of cs y) (place_of cs x))) (λ a. a) (side (place_of cs x) (place_of cs y))
