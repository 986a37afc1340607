-- A writer by its conditions: the first that holds is answered and leaves the slice, and where none does the bytes are
-- written.
use Rattle.std.proofs.Common.{Ok, Err}
use Prim.Native.Nat.{ℕ, ◌≤◌, ◌<◌}
use native.Mathlib.Omega.{arith}
use mathlib.Core.Path.{◌≡◌, refl, ap, sym, ◌∙◌}
use mathlib.Core.Bool.{Bool, true, false}
use mathlib.Core.Option.{none, some}
use mathlib.Core.Logic.{◌↔◌}
use mathlib.Core.List.{List, [], ◌∷◌, ◌++◌}
use borrow.Author.Tests.{lt-ltb, le-ltb}
use lib.Dec.{ltb}
use lib.ListN.{length}
use Rattle.output.specs.Output.{placed}
use Rattle.answers.specs.declared.Refusal.{Refusal}
use Rattle.answers.specs.declared.Refusal.TheVariants.{Output}
use Rattle.woot.specs.Writing.{Written}
use Rattle.answers.specs.Answers.{number, Check, ◌⇒◌, first, decided}
use Rattle.woot.specs.Writing.{writing_checks, written_as, output_after, written_number}
use Rattle.lists.proofs.Tests.{no-some}
use Rattle.convergence.specs.Theorems.{WritingRefuses, WritingWrites}
use Rattle.convergence.proofs.Refusals.{reported_first, decided_exactly}
use Rattle.convergence.proofs.Replies.{numbers_differ, positive, none_first}

pub length-refused : {n : ℕ} {r : Refusal} → Ok n ≡ Err r → ⊥
length-refused e = let z : ◌≡◌ {A = ℕ} 0 1 = cc in omega arith

written-number : (w : Written) (r : Refusal) → (written_number w ≡ number r) ↔ (w ≡ Err r)
unfolding written_number
written-number w r = (to w, λ e. rw e)
  where
    to : (v : Written) → written_number v ≡ number r → v ≡ Err r
    to (Ok n) e = absurd (positive r e)
    to (Err q) e = ap Err (numbers_differ q r e)

left_alone : (own : List (Check Written)) (bytes out : List ℕ) (a : Written) → first (writing_checks own bytes out) ≡ some a → output_after own bytes out ≡ out
unfolding output_after decided
left_alone own bytes out a h = rw h

pub writing_refuses : WritingRefuses
unfolding written_as
writing_refuses own bytes out r =
    let exact = decided_exactly (λ a. a) (λ a. a) (λ a. refl) (writing_checks own bytes out) (Ok (length bytes)) (Err r) length-refused in
    let named = written-number (written_as own bytes out) r in
    (exact, (λ h. exact.0 (named.0 h), λ h. named.1 (exact.1 h)), λ h. left_alone own bytes out (Err r) (reported_first (writing_checks own bytes out) (Err r) (exact.0 h)))

pub writing-writes : WritingWrites
unfolding written_as output_after decided
writing-writes own bytes out w = rw (none_first (writing_checks own bytes out) w) (refl, refl)

-- ---- the laws that a writer is proved by

module _ {A : Type 0} where
  first-own : (own later : List (Check A)) (a : A) → first own ≡ some a → first (own ++ later) ≡ some a
  first-own [] later a h = no-some h
  first-own (c ∷ own) later a h = go c.holds refl (first-own own later a)
    where
      go : (b : Bool) → c.holds ≡ b → (first own ≡ some a → first (own ++ later) ≡ some a) → first (c ∷ own ++ later) ≡ some a
      go true e f = rw e (rw e at h)
      go false e f = rw e (f (rw e at h))

  first-later : (own later : List (Check A)) → first own ≡ none → first (own ++ later) ≡ first later
  first-later [] later h = refl
  first-later (c ∷ own) later h = go c.holds refl (first-later own later)
    where
      go : (b : Bool) → c.holds ≡ b → (first own ≡ none → first (own ++ later) ≡ first later) → first (c ∷ own ++ later) ≡ first later
      go true e f = no-some (sym (rw e at h))
      go false e f = rw e (f (rw e at h))

-- a condition of its own that holds
pub own_first : (own : List (Check Written)) (a : Written) (bytes out : List ℕ) → first own ≡ some a
    → (written_as own bytes out ≡ a) × (output_after own bytes out ≡ out)
unfolding written_as output_after writing_checks decided
own_first own a bytes out h = rw (first-own own ((ltb (length out) (length bytes) ⇒ Err Output) ∷ []) a h) (refl, refl)

-- none of its own holds, and the slice is shorter: refusal 12
pub too_short : (own : List (Check Written)) (bytes out : List ℕ) → first own ≡ none → length out < length bytes
    → (written_as own bytes out ≡ Err Output) × (output_after own bytes out ≡ out)
unfolding written_as output_after writing_checks decided
too_short own bytes out h g =
    rw (first-later own ((ltb (length out) (length bytes) ⇒ Err Output) ∷ []) h, lt-ltb (length out) (length bytes) g) (refl, refl)

-- none of its own holds, and there is room
pub has_room_lem : (own : List (Check Written)) (bytes out : List ℕ) → first own ≡ none → length bytes ≤ length out
    → (written_as own bytes out ≡ Ok (length bytes)) × (output_after own bytes out ≡ placed out 0 bytes)
unfolding written_as output_after writing_checks decided
has_room_lem own bytes out h g =
    let b : ltb (length out) (length bytes) ≡ false = le-ltb (length out) (length bytes) g in
    rw (first-later own ((ltb (length out) (length bytes) ⇒ Err Output) ∷ []) h, b) (refl, refl)

-- none of its own holds: it is a writer with none
pub own-none : (own : List (Check Written)) (bytes out : List ℕ) → first own ≡ none
    → (written_as [] bytes out ≡ written_as own bytes out) × (output_after [] bytes out ≡ output_after own bytes out)
unfolding written_as output_after writing_checks
own-none own bytes out h = rw (first-later own ((ltb (length out) (length bytes) ⇒ Err Output) ∷ []) h) (refl, refl)

-- as the code of a writer with none of its own ends: shorter, and nothing done
pub ends-short : (bytes out : List ℕ) → length out < length bytes → (Err Output ≡ written_as [] bytes out) × (out ≡ output_after [] bytes out)
ends-short bytes out h = let w = too_short [] bytes out refl h in (sym w.0, sym w.1)

-- or all written, n of them
pub ends-written : (bytes out after : List ℕ) (n : ℕ) → n ≡ length bytes → after ≡ placed out 0 bytes → length bytes ≤ length out
    → (Ok n ≡ written_as [] bytes out) × (after ≡ output_after [] bytes out)
ends-written bytes out after n e p h = let w = has_room_lem [] bytes out refl h in (ap Ok e ∙ sym w.0, p ∙ sym w.1)
