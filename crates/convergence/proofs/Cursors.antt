-- The promises about receiving with a cursor. A call that changes the characters is made on a state in form and leaves
-- one, so that what stood on the left is held still, and the new gap is the count of visible characters through it.
use Prim.Native.Nat.{ℕ, suc, ◌+◌, ◌-◌, ◌≤◌, ◌<◌}
use native.Mathlib.Omega.{arith}
use mathlib.Core.Path.{◌≡◌, refl, ap, ◌∙◌, subst}
use mathlib.Core.Bool.{Bool, true, false, cond, true≢false, false≢true}
use mathlib.Core.List.{List}
use mathlib.Core.Logic.{⊎_elim}
use mathlib.Core.Option.{Option, none, some}
use lib.Dec.{ltb, le→leb, leb→le}
use lib.IntN.{ℤ, pos, negsuc, sub_ℕ, ◌+ℤ◌}
use lib.Signed.{◌≤ℤ◌}
use lib.ListN.{length}
use borrow.Author.Tests.{ltb-true, ltb-false}
use Rattle.woot.specs.declared.Identifier.{Identifier}
use Rattle.woot.specs.declared.Operation.{Operation}
use Rattle.woot.specs.declared.Character.{Character}
use Rattle.answers.specs.declared.Answer.{Answer}
use Rattle.answers.specs.declared.Answer.TheVariants.{Deferred, Duplicate, Refused}
use Rattle.woot.specs.Limits.{capacity}
use Rattle.woot.specs.Identifiers.{begin}
use Rattle.woot.specs.Operations.{is_visible}
use Rattle.woot.specs.State.{State}
use Rattle.woot.specs.Form.{well_formed}
use Rattle.answers.specs.Answers.{changes, first, decided}
use Rattle.woot.specs.Calls.{Outcome, unchanged, carry_out, defer, accept, with_pending, visibles, beyond_visible}
use Rattle.woot.specs.Cursor.{left_of, visible_through, cursor_after, receive_at_checks, receive_at_when, receive_at, new_gap, shift_of, shift_at, last_number, nearest, moved_by}
use Rattle.woot.specs.Histories.{receiving_at, outcome}
use Rattle.lists.proofs.Tests.{either, clash, fails}
use Rattle.lists.proofs.Members.{keep-length}
use Rattle.convergence.specs.Cursors.{shown, characters_then, left_then, CursorKeeps, NearestAbove, CursorHidden, ShiftBounds, ShiftStill, ShiftAdds, MovedAdds, MovedToNewGap, TopStays}
use Rattle.convergence.proofs.Forms.{Formed, formed}
use Rattle.convergence.proofs.Soundness.{standing}
use Rattle.convergence.proofs.Kept.{step-formed}
use Rattle.convergence.proofs.Steps.{Turned, Step, turned, adds, raises, defers, first-none, first_some, receive-at-turned, step}
use Rattle.convergence.proofs.Pointing.{receive-at-same}
use Rattle.convergence.proofs.Through.{to-shown, left-shown, left-through, through-begin, through_most, shown-visibles, kept-left, nearest-left}
use Rattle.convergence.proofs.Moving.{Near, step_near}

-- ---- whole numbers

pub difference-self : (g : ℕ) → sub_ℕ g g ≡ pos 0
difference-self g = go (ltb g g) refl
  where
    nothing : g - g ≡ 0
    nothing = omega arith

    go : (b : Bool) → ltb g g ≡ b → cond b (negsuc (g - suc g)) (pos (g - g)) ≡ pos 0
    go true e = absurd (omega (arith, ltb-true g g e))
    go false e = ap pos nothing

-- a difference between -1 and m
difference-bounds : (a g m : ℕ) → g ≤ suc a → a ≤ g + m → (negsuc 0 ≤ℤ sub_ℕ a g) × (sub_ℕ a g ≤ℤ pos m)
difference-bounds a g m low high = go (ltb a g) refl
  where
    go : (b : Bool) → ltb a g ≡ b → (negsuc 0 ≤ℤ cond b (negsuc (g - suc a)) (pos (a - g))) × (cond b (negsuc (g - suc a)) (pos (a - g)) ≤ℤ pos m)
    go true e = (record { le = le→leb (g - suc a) 0 (omega arith) }, record { le = tt })
    go false e = (record { le = tt }, record { le = le→leb (a - g) m (omega arith) })

difference_adds : (a g : ℕ) → pos g +ℤ sub_ℕ a g ≡ pos a
difference_adds a g = go (ltb a g) refl
  where
    back : a < g → sub_ℕ g (suc (g - suc a)) ≡ pos a
    back l =
        let far : ltb g (suc (g - suc a)) ≡ false = fails (ltb g (suc (g - suc a))) (λ e. omega (arith, ltb-true g (suc (g - suc a)) e)) in
        let left : g - suc (g - suc a) ≡ a = omega arith in
        rw (far, left)

    go : (b : Bool) → ltb a g ≡ b → pos g +ℤ cond b (negsuc (g - suc a)) (pos (a - g)) ≡ pos a
    go true e = back (ltb-true a g e)
    go false e = let sum : g + (a - g) ≡ a = omega (arith, ltb-false a g e) in ap pos sum

-- ---- a call that changes nothing, and one that changes something

-- what is known of one that does: it began and ended in form, with the gap among the visible characters
record Changed (s : State) (w : Outcome Answer) (g : ℕ) : Type 0 where
  told : changes w.answer ≡ true
  before : Formed s
  after : Formed w.state
  within : g ≤ length (visibles s.characters)

step_changed : (s : State) {r : Outcome Answer} → Step s r → changes r.answer ≡ true → Formed s
unfolding unchanged carry_out defer changes
step_changed s (turned (Rattle.answers.specs.declared.Answer.TheVariants.Done _ _) w) e = elim w [ ]
step_changed s (turned Deferred w) e = elim w [ ]
step_changed s (turned (Refused q) w) e = absurd (false≢true e)
step_changed s (turned Duplicate w) e = absurd (false≢true e)
step_changed s (adds i a) e = a.formed
step_changed s (raises d a) e = a.formed
step_changed s (defers o a) e = a.formed

step-unchanged : (s : State) {r : Outcome Answer} → Step s r → changes r.answer ≡ false → r.state ≡ s
unfolding unchanged carry_out defer changes
step-unchanged s (turned a w) e = refl
step-unchanged s (adds i a) e = absurd (true≢false e)
step-unchanged s (raises d a) e = absurd (true≢false e)
step-unchanged s (defers o a) e = absurd (true≢false e)

pub turned-still : (a : Answer) → Turned a → changes a ≡ false
unfolding changes
turned-still (Rattle.answers.specs.declared.Answer.TheVariants.Done _ _) w = elim w [ ]
turned-still Deferred w = elim w [ ]
turned-still Duplicate w = refl
turned-still (Refused r) w = refl

at-step : (s : State) (o : Operation) (g : ℕ) → Step s (receive_at s o g)
unfolding outcome
at-step s o g = step s (receiving_at o g)

-- one that changes something met no condition, the gap's among them
at-within : (s : State) (o : Operation) (g : ℕ) → changes (receive_at s o g).answer ≡ true → beyond_visible s g ≡ false
unfolding receive_at receive_at_when receive_at_checks decided unchanged
at-within s o g = go (first (receive_at_checks (well_formed s) s o g)) refl
  where
    go : (m : Option Answer) → first (receive_at_checks (well_formed s) s o g) ≡ m → changes (decided (unchanged s) m (accept s o)).answer ≡ true → beyond_visible s g ≡ false
    go none f e = (first-none (receive_at_checks (well_formed s) s o g) f).1.1.1.0
    go (some a) f e = clash e (turned-still a (first_some Turned (receive_at_checks (well_formed s) s o g) (receive-at-turned (well_formed s) s o g) a f))

module _ (s : State) (o : Operation) (g : ℕ) where
  abbrev then : Outcome Answer
  then = receive_at s o g

  -- what stands on the left before the call
  abbrev left : Identifier
  left = left_of s.characters g

  near : Near s.characters then.state.characters left
  near = step_near s (at-step s o g) left (to-shown s.characters left (left-shown s.characters g))

  changed : changes then.answer ≡ true → Changed s then g
  unfolding beyond_visible
  changed e =
      let f = step_changed s (at-step s o g) e in
      record { told = e; before = f; after = step-formed s (at-step s o g) f; within = ltb-false (length (visibles s.characters)) g (at-within s o g e) }

  -- the new gap, either way
  gap_still : changes then.answer ≡ false → new_gap s then g ≡ g
  unfolding new_gap
  gap_still e = rw e

  gap_moved : changes then.answer ≡ true → new_gap s then g ≡ visible_through then.state.characters left
  unfolding new_gap cursor_after
  gap_moved e = rw e

  -- and the old one, where something changed
  gap_before : Changed s then g → visible_through s.characters left ≡ g
  gap_before c = left-through (standing c.before.sound) g c.within

pub cursor_keeps : CursorKeeps
cursor_keeps s o g h = ⊎_elim moved still (either (changes (receive_at s o g).answer))
  where
    moved : changes (receive_at s o g).answer ≡ true → left_then s o g ≡ left_of s.characters g
    moved e = rw (gap_moved s o g e) (kept-left (standing (changed s o g e).after.sound) (left_of s.characters g) h)

    still : changes (receive_at s o g).answer ≡ false → left_then s o g ≡ left_of s.characters g
    still e = rw (gap_still s o g e, ap (λ (t : State). t.characters) (step-unchanged s (at-step s o g) e))

pub cursor_hidden : CursorHidden
cursor_hidden s o g h = ⊎_elim moved still (either (changes (receive_at s o g).answer))
  where
    moved : changes (receive_at s o g).answer ≡ true → NearestAbove (characters_then s o g) (left_of s.characters g) (left_then s o g)
    moved e =
        rw (gap_moved s o g e)
        (nearest-left (standing (changed s o g e).after.sound) (left_of s.characters g) (near s o g).stays h)

    still : changes (receive_at s o g).answer ≡ false → NearestAbove (characters_then s o g) (left_of s.characters g) (left_then s o g)
    still e = clash (left-shown s.characters g) (subst (λ (t : State). shown t.characters (left_of s.characters g) ≡ false) (step-unchanged s (at-step s o g) e) h)

-- ---- the shift

still-shift : (s : State) (o : Operation) (g : ℕ) → new_gap s (receive_at s o g) g ≡ g → shift_at s o g ≡ pos 0
unfolding shift_at shift_of
still-shift s o g e = rw e (difference-self g)

pub shift-bounds : ShiftBounds
unfolding shift_at shift_of
shift-bounds s o g = ⊎_elim moved still (either (changes (receive_at s o g).answer))
  where
    moved : changes (receive_at s o g).answer ≡ true → (negsuc 0 ≤ℤ sub_ℕ (new_gap s (receive_at s o g) g) g) × (sub_ℕ (new_gap s (receive_at s o g) g) g ≤ℤ pos 513)
    moved e =
        let n = near s o g in
        let b = gap_before s o g (changed s o g e) in
        let m = gap_moved s o g e in
        difference-bounds (new_gap s (receive_at s o g) g) g 513 (omega (arith, n.falls)) (omega (arith, n.rises))

    still : changes (receive_at s o g).answer ≡ false → (negsuc 0 ≤ℤ sub_ℕ (new_gap s (receive_at s o g) g) g) × (sub_ℕ (new_gap s (receive_at s o g) g) g ≤ℤ pos 513)
    still e = let m = gap_still s o g e in difference-bounds (new_gap s (receive_at s o g) g) g 513 (omega arith) (omega arith)

-- with waits the characters are as they were
step_waits : (s : State) {r : Outcome Answer} → Step s r → r.answer ≡ Deferred → r.state.characters ≡ s.characters
unfolding unchanged carry_out defer with_pending
step_waits s (turned a w) e = refl
step_waits s (adds i a) e = absurd (let z : ◌≡◌ {A = ℕ} 0 1 = cc in omega arith)
step_waits s (raises d a) e = absurd (let z : ◌≡◌ {A = ℕ} 0 1 = cc in omega arith)
step_waits s (defers o a) e = refl

waits-changes : {a : Answer} → a ≡ Deferred → changes a ≡ true
unfolding changes
waits-changes e = rw e

pub shift-still : ShiftStill
shift-still = (
  λ s o g e. still-shift s o g (gap_still s o g e),
  λ s o g e.
      still-shift s o g
      (gap_moved s o g (waits-changes e)
      ∙ ap (λ (cs : List Character). visible_through cs (left_of s.characters g)) (step_waits s (at-step s o g) e)
      ∙ gap_before s o g (changed s o g (waits-changes e))),
)

-- the new gap is within what is visible then, or the old one
gap_most : (s : State) (o : Operation) (g : ℕ) → changes (receive_at s o g).answer ≡ true → new_gap s (receive_at s o g) g ≤ length (visibles (receive_at s o g).state.characters)
gap_most s o g e = omega (arith, gap_moved s o g e, through_most (receive_at s o g).state.characters (left_of s.characters g))

within_visible : (s : State) (g : ℕ) → g ≤ length (visibles s.characters) → beyond_visible s g ≡ false
unfolding beyond_visible
within_visible s g h = fails (ltb (length (visibles s.characters)) g) (λ e. omega (arith, ltb-true (length (visibles s.characters)) g e))

pub shift_adds : ShiftAdds
unfolding shift_at shift_of
shift_adds s o g = (difference_adds (new_gap s (receive_at s o g) g) g, λ h. ⊎_elim moved (still h) (either (changes (receive_at s o g).answer)))
  where
    moved : changes (receive_at s o g).answer ≡ true → beyond_visible (receive_at s o g).state (new_gap s (receive_at s o g) g) ≡ false
    moved e = within_visible (receive_at s o g).state (new_gap s (receive_at s o g) g) (gap_most s o g e)

    still : beyond_visible s g ≡ false → changes (receive_at s o g).answer ≡ false → beyond_visible (receive_at s o g).state (new_gap s (receive_at s o g) g) ≡ false
    still h e = rw (gap_still s o g e, step-unchanged s (at-step s o g) e) h

-- a replica in form shows few characters
shown-few : (s : State) → Formed s → length (visibles s.characters) ≤ capacity
shown-few s f = omega (arith, shown-visibles s.characters, keep-length is_visible s.characters, f.sound.room)

-- the nearest number of 64 bits to a whole number
nearest_so : (x : ℤ)
    → (pos 0 ≤ℤ x → x ≤ℤ pos last_number → pos (nearest x) ≡ x) × (x ≤ℤ negsuc 0 → nearest x ≡ 0) × (pos last_number ≤ℤ x → nearest x ≡ last_number)
unfolding nearest
nearest_so (pos n) = (
  λ low high. let few = leb→le n last_number high.le in ap pos (omega arith),
  λ high. absurd high.le,
  λ low. let many = leb→le last_number n low.le in omega arith,
)
nearest_so (negsuc n) = (λ low high. absurd low.le, λ high. refl, λ low. absurd low.le)

pub moved_adds : MovedAdds
unfolding moved_by
moved_adds g z = nearest_so (pos g +ℤ z)

pub moved-to-new_gap : MovedToNewGap
unfolding moved_by nearest
moved-to-new_gap s o g few =
    rw (shift_adds s o g).0
    (⊎_elim (λ e. omega (arith, gap_most s o g e, shown-few (receive_at s o g).state (changed s o g e).after))
    (λ e. omega (arith, gap_still s o g e))
    (either (changes (receive_at s o g).answer)))

-- ---- at the top

top_gap : (s : State) (w : Outcome Answer) → new_gap s w 0 ≡ 0
unfolding new_gap cursor_after
top_gap s w = go (changes w.answer)
  where
    go : (b : Bool) → cond b (visible_through w.state.characters begin) 0 ≡ 0
    go true = through-begin w.state.characters
    go false = refl

pub top_stays : TopStays
unfolding shift_of
top_stays formed s o = (receive-at-same formed s o 0 (within_visible s 0 (omega arith)), rw (top_gap s (receive_at_when formed s o 0)) (difference-self 0))
