-- How erasing and restoring move a cursor: one character's turn is raised by one, which hides or shows it, so that the
-- count of visible characters through another changes by one where it stands among them, and else not.
use Prim.Native.Nat.{ℕ, zero, suc, ◌+◌, ◌-◌, ◌%◌, ◌≤◌, ◌<◌}
use native.Mathlib.Omega.{arith}
use mathlib.Core.Path.{◌≡◌, refl, ap, ap₂, sym, ◌∙◌, subst}
use mathlib.Core.Bool.{Bool, true, false, not, cond}
use mathlib.Core.List.{List, [], ◌∷◌, map, Memᴰ}
use mathlib.Core.Logic.{inl, inr, ⊎_elim}
use lib.Dec.{eqb, leb}
use lib.ListN.{length, take, get_or}
use borrow.Author.Tests.{eqb-true, eqb-false, eq-eqb, ne_eqb, leb-true, le-leb, ltb-false, not-false}
use Rattle.woot.specs.declared.Identifier.{Identifier}
use Rattle.woot.specs.declared.Character.{Character}
use Rattle.answers.specs.declared.Answer.{Answer}
use Rattle.woot.specs.Identifiers.{same}
use Rattle.woot.specs.Operations.{is_visible, with_toggles}
use Rattle.woot.specs.State.{State, blank_character}
use Rattle.woot.specs.Placing.{identifiers, place_of, held, above, integrate_toggle}
use Rattle.woot.specs.Form.{well_formed}
use Rattle.answers.specs.Answers.{changes}
use Rattle.woot.specs.Calls.{Outcome, with_characters, carry_out, visibles, beyond_visible, generated_toggle, not_visible, delete_checks, generated_delete, local_delete, not_hidden, restore_checks, local_restore}
use Rattle.woot.specs.Cursor.{left_of, through, visible_through, cursor_after, new_gap}
use Rattle.woot.specs.Histories.{outcome}
use Rattle.lists.specs.Lists.{keep, distinct}
use Rattle.lists.proofs.Tests.{either, side, clash, fails, or-false-right}
use Rattle.lists.proofs.Members.{get_member, member_keep}
use Rattle.convergence.specs.Theorems.{raised_at}
use Rattle.convergence.specs.Cursors.{ErasingMoves, RestoringMoves}
use Rattle.convergence.proofs.Identifiers.{eq-same, same_sym}
use Rattle.convergence.proofs.Places.{not-begin, held-id, above_place, place-above, place-injective}
use Rattle.convergence.proofs.InsertionPoint.{member_range}
use Rattle.convergence.proofs.Characters.{member_place, own-index, same-character}
use Rattle.convergence.proofs.Toggling.{toggle_place}
use Rattle.convergence.proofs.Forms.{Formed, formed}
use Rattle.convergence.proofs.Toggles.{std, visible_at, hidden_at}
use Rattle.convergence.proofs.Through.{shown_in, shown-through, rest-distinct, other-identifier, visible_member, Shown, to-shown, left-shown, shown-held, left-through, through-more, taken_next}
use Rattle.convergence.proofs.Moving.{map-still}
use Rattle.convergence.proofs.Replies.{delete_sends, restore_sends}
use Rattle.convergence.proofs.Sending.{toggle_raises}
use Rattle.convergence.proofs.Own.{erased_carried, restored_carried, own-received}

abbrev one : Bool → ℕ
one b = cond b 1 0

-- ---- one character of a list

abbrev raise : Identifier → Character → Character
raise x c = cond (same x c.id) (with_toggles c (c.toggles + 1)) c

parity : (n : ℕ) → eqb ((n + 1) % 2) 0 ≡ not (eqb (n % 2) 0)
parity n =
    ⊎_elim (λ e. rw e (ne_eqb ((n + 1) % 2) 0 (λ z. omega (arith, eqb-true (n % 2) 0 e))))
    (λ e. rw e (eq-eqb ((n + 1) % 2) 0 (omega (arith, eqb-false (n % 2) 0 e))))
    (either (eqb (n % 2) 0))

-- what is visible is hidden, and what is hidden is visible
flipped : (c : Character) → is_visible (with_toggles c (c.toggles + 1)) ≡ not (is_visible c)
unfolding is_visible with_toggles
flipped c = parity c.toggles

raise_other : (x : Identifier) (c : Character) → same x c.id ≡ false → raise x c ≡ c
raise_other x c e = rw e

-- a character further down is another than the first
module _ (x : Identifier) (c : Character) (cs : List Character) (d : distinct same (identifiers (c ∷ cs)) ≡ true) where
  first-other : (i : ℕ) (z : Character) → i < length cs → x ≡ (get_or cs i z).id → raise x c ≡ c
  first-other i z l e =
      let m = subst (λ (y : Identifier). Memᴰ y (identifiers cs)) (sym e) (mathlib.Core.List.Memᴰ.map (λ b. b.id) (get_member cs i z l)) in
      raise_other x c (other-identifier c cs d m)

  -- and where the first has the identifier, those further down have others
  rest-others : x ≡ c.id → map (raise x) cs ≡ cs
  rest-others e =
      map-still (raise x) cs (λ b m.
      raise_other x b (ap (λ (y : Identifier). same y b.id) e ∙ same_sym c.id b.id ∙ other-identifier c cs d (mathlib.Core.List.Memᴰ.map (λ a. a.id) m)))

-- above the character nothing changes
taken-above : (x : Identifier) (cs : List Character) → distinct same (identifiers cs) ≡ true → (i k : ℕ) (z : Character)
    → i < length cs → x ≡ (get_or cs i z).id → k ≤ i → take k (raised_at x cs) ≡ take k cs
taken-above x [] d i k z l e h = absurd (omega arith)
taken-above x (c ∷ cs) d i zero z l e h = refl
taken-above x (c ∷ cs) d zero (suc k) z l e h = absurd (omega arith)
taken-above x (c ∷ cs) d (suc i) (suc k) z l e h =
    ap₂ (λ (b : Character) (bs : List Character). b ∷ bs) (first-other x c cs d i z (omega arith) e)
    (taken-above x cs (rest-distinct c cs d) i k z (omega arith) e (omega arith))

-- through the character and below it one more is visible, or one less
taken-below : (x : Identifier) (cs : List Character) → distinct same (identifiers cs) ≡ true → (i k : ℕ) (z : Character)
    → i < length cs → x ≡ (get_or cs i z).id → i < k
    → shown_in (take k (raised_at x cs)) + one (is_visible (get_or cs i z)) ≡ shown_in (take k cs) + one (not (is_visible (get_or cs i z)))
taken-below x [] d i k z l e h = absurd (omega arith)
taken-below x (c ∷ cs) d i zero z l e h = absurd (omega arith)
taken-below x (c ∷ cs) d zero (suc k) z l e h =
    rw (rest-others x c cs d e, eq-same e, flipped c) (go (is_visible c) (with_toggles c (c.toggles + 1)) (keep is_visible (take k cs)))
  where
    go : (b : Bool) (w : Character) (xs : List Character) → length (cond (not b) (w ∷ xs) xs) + one b ≡ length (cond b (c ∷ xs) xs) + one (not b)
    go true w xs = omega arith
    go false w xs = omega arith
taken-below x (c ∷ cs) d (suc i) (suc k) z l e h =
    rw (first-other x c cs d i z (omega arith) e)
    (go (is_visible c) (one (is_visible (get_or cs i z))) (one (not (is_visible (get_or cs i z))))
    (keep is_visible (take k (raised_at x cs))) (keep is_visible (take k cs))
    (taken-below x cs (rest-distinct c cs d) i k z (omega arith) e (omega arith)))
  where
    go : (v : Bool) (a b : ℕ) (xs ys : List Character) → length xs + a ≡ length ys + b → length (cond v (c ∷ xs) xs) + a ≡ length (cond v (c ∷ ys) ys) + b
    go true a b xs ys e = omega arith
    go false a b xs ys e = e

-- ---- through the row on the left of a gap

module _ (s : State) (f : Formed s) (form : well_formed s ≡ true) (g : ℕ) (few : g ≤ length (visibles s.characters)) where
  abbrev cs : List Character
  cs = s.characters

  abbrev left : Identifier
  left = left_of cs g

  -- the visible characters through it, once the turn of y is raised
  abbrev then : Identifier → ℕ
  then y = visible_through (integrate_toggle cs (generated_toggle s y)) left

  then-taken : (y : Identifier) → then y ≡ shown_in (take (place_of cs left) (raised_at y cs))
  unfolding through
  then-taken y =
      let t = generated_toggle s y in
      shown-through (integrate_toggle cs t) left
      ∙ ap (λ (k : ℕ). shown_in (take k (integrate_toggle cs t))) (toggle_place cs t left)
      ∙ ap (λ (ds : List Character). shown_in (take (place_of cs left) ds)) (toggle_raises s form y)

  before-taken : shown_in (take (place_of cs left) cs) ≡ g
  unfolding through
  before-taken = sym (shown-through cs left) ∙ left-through (std s f) g few

  module _ {c : Character} (m : Memᴰ c cs) (y : Identifier) (named : y ≡ c.id) where
    index : (i : ℕ) × (place_of cs y ≡ suc i) × (i < length cs) × (get_or cs i blank_character ≡ c)
    index =
        let i = own-index cs (std s f) blank_character m in
        let here = ap (place_of cs) named in
        (i.0, omega (arith, i.1), omega (arith, i.1, (member_place cs (std s f) m).1), i.2)

    at-index : y ≡ (get_or cs index.0 blank_character).id
    at-index = named ∙ ap (λ (b : Character). b.id) (sym index.3)

    -- a row below it changes nothing, and one above it, or itself, is hidden or shown
    raised_below : place_of cs left < place_of cs y → then y ≡ g
    raised_below h =
        let i = index in
        let same_rows = taken-above y cs (std s f).apart i.0 (place_of cs left) blank_character i.2 at-index (omega (arith, i.1)) in
        then-taken y ∙ ap shown_in same_rows ∙ before-taken

    raised-above : place_of cs y ≤ place_of cs left → then y + one (is_visible c) ≡ g + one (not (is_visible c))
    raised-above h =
        let i = index in
        let count = taken-below y cs (std s f).apart i.0 (place_of cs left) blank_character i.2 at-index (omega (arith, i.1)) in
        omega (arith, then-taken y, before-taken, rw i.3 at count)

  -- what was visible is hidden, at a place up to the gap or beyond it
  erased_gap : (p : ℕ) → not_visible s p ≡ false → p ≤ length (visibles cs) → then (left_of cs p) ≡ cond (leb p g) (g - 1) g
  unfolding visibles through
  erased_gap p h shown =
      let c = visible_at s f p h in
      let y = left_of cs p in
      let own = left-through (std s f) p shown in
      let gap = left-through (std s f) g few in
      let seen : Memᴰ c.0.id (visibles cs) = mathlib.Core.List.Memᴰ.map (λ b. b.id) (member_keep is_visible c.1 c.2) in
      let next = taken_next (std s f) (place_of cs left) y (subst (λ (z : Identifier). Memᴰ z (visibles cs)) (sym c.3) seen) in
      ⊎_elim
      (λ k. rw (le-leb p g (omega (arith, through-more cs y left k))) (omega (arith, rw c.2 at (raised-above c.1 y c.3 k))))
      (λ k. rw (fails (leb p g) (λ e. omega (arith, leb-true p g e, shown-through cs left, next k))) (raised_below c.1 y c.3 k))
      (side (place_of cs y) (place_of cs left))

  -- a hidden character is not what is shown
  hidden-apart : {c : Character} → Memᴰ c cs → is_visible c ≡ false → {y : Identifier} → Shown cs y → c.id ≡ y → ⊥
  hidden-apart {c} m hidden (inl e) named = clash (eq-same (named ∙ e)) (not-begin c.id (member_range cs (std s f).ranges (mathlib.Core.List.Memᴰ.map (λ b. b.id) m)))
  hidden-apart {c} m hidden (inr n) named =
      let w = visible_member cs n in
      let alike : c ≡ w.0 = same-character cs (std s f) m w.1 (named ∙ sym w.3) in
      clash (ap is_visible alike ∙ w.2) hidden

  -- what was hidden is shown, and is not the row on the left, which is shown already
  restored_gap : (x : Identifier) → not_hidden s x ≡ false → then x ≡ cond (above cs x left) (g + 1) g
  restored_gap x h =
      let c = hidden_at s f x h in
      let seen = to-shown cs left (left-shown cs g) in
      let left-held = shown-held cs left seen in
      let x-held : held cs x ≡ true = subst (λ (z : Identifier). held cs z ≡ true) (sym c.3) (held-id cs c.1) in
      let apart : place_of cs x ≡ place_of cs left → ⊥ = λ e. hidden-apart c.1 c.2 seen (sym c.3 ∙ place-injective cs x left e x-held left-held) in
      ⊎_elim
      (λ k.
      let stands : above cs x left ≡ true = place-above cs x left (omega (arith, apart)) left-held in
      rw stands (omega (arith, rw c.2 at (raised-above c.1 x c.3 k))))
      (λ k. rw (fails (above cs x left) (λ e. omega (arith, above_place cs x left e))) (raised_below c.1 x c.3 k))
      (side (place_of cs x) (place_of cs left))

-- ---- the calls

gap_within : (s : State) (g : ℕ) → beyond_visible s g ≡ false → g ≤ length (visibles s.characters)
unfolding beyond_visible
gap_within s g h = ltb-false (length (visibles s.characters)) g h

pub erasing_moves : ErasingMoves
unfolding outcome delete_checks local_delete generated_delete not_visible new_gap cursor_after changes carry_out with_characters
erasing_moves s p g o e h =
    let q = (delete_sends (well_formed s) s p o).0 e in
    let form = not-false (well_formed s) q.0.0 in
    let place = gap_within s p (or-false-right (eqb p 0) (beyond_visible s p) q.0.1.0) in
    ap (λ (r : Outcome Answer). new_gap s r g) ((own-received.1 s p o e).1 g h ∙ erased_carried s p q.0)
    ∙ erased_gap s (formed s form) form g (gap_within s g h) p q.0.1.0 place

pub restoring-moves : RestoringMoves
unfolding outcome restore_checks local_restore new_gap cursor_after changes carry_out with_characters
restoring-moves s x g o e h =
    let q = (restore_sends (well_formed s) s x o).0 e in
    let form = not-false (well_formed s) q.0.1.0 in
    ap (λ (r : Outcome Answer). new_gap s r g) ((own-received.2 s x o e).1 g h ∙ restored_carried s x q.0)
    ∙ restored_gap s (formed s form) form g (gap_within s g h) x q.0.1.1.0
