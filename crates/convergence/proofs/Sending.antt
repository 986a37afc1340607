-- What is sent is in range, since it is sent where no condition holds and the conditions keep it so; and what is erased or
-- restored is raised by one, since its own turn is the one that its identifier finds.
use mathlib.Core.Path.{◌≡◌, refl, sym, ap, ap₂, ◌∙◌, subst}
use mathlib.Core.Bool.{Bool, true, false, cond}
use mathlib.Core.List.{List, [], ◌∷◌, map, Memᴰ}
use Prim.Native.Nat.{ℕ, ◌+◌, max}
use native.Mathlib.Omega.{arith}
use borrow.Author.Tests.{not-false}
use Rattle.woot.specs.declared.Operation.{Operation}
use Rattle.woot.specs.declared.Operation.TheVariants.{Insert as insert, Toggle as toggle}
use Rattle.woot.specs.declared.Identifier.{Identifier}
use Rattle.woot.specs.declared.Toggle.{Toggle}
use Rattle.woot.specs.declared.Character.{Character}
use Rattle.woot.specs.Identifiers.{same}
use Rattle.woot.specs.Operations.{with_toggles, toggled_by}
use Rattle.woot.specs.Ranges.{in_range}
use Rattle.woot.specs.State.{State}
use Rattle.woot.specs.Form.{well_formed}
use Rattle.woot.specs.Placing.{identifiers, integrate_toggle}
use Rattle.answers.specs.Answers.{decided}
use Rattle.woot.specs.Calls.{with_characters, carry_out, insert_checks, toggles_of, generated_toggle, send_toggle, delete_checks, generated_delete, restore_checks, local_insert, local_delete_when, local_delete, local_restore_when, local_restore}
use Rattle.convergence.specs.Theorems.{SentInRange, raised_at, RaisedByOne}
use Rattle.convergence.proofs.Forms.{formed}
use Rattle.convergence.proofs.Toggles.{toggles-found, std, delete_ranged, restore_ranged}
use Rattle.convergence.proofs.Steps.{generated_addable}
use Rattle.convergence.proofs.Identifiers.{same-eq}
use Rattle.convergence.proofs.Replies.{none_first, insert-sends, delete_sends, restore_sends}

ranged : Operation → Type 0
ranged o = in_range o ≡ true

pub sent_in_range : SentInRange
unfolding ranged in_range insert_checks delete_checks restore_checks local_insert local_delete local_restore
sent_in_range = (
  λ s g n o e.
      let q = (insert-sends (well_formed s) s g n o).0 e in
      let form = formed s (not-false (well_formed s) q.0.1.0) in
      subst ranged q.1 (generated_addable (well_formed s) s g n form q.0).ranged,
  λ s p o e.
      let q = (delete_sends (well_formed s) s p o).0 e in
      let form = formed s (not-false (well_formed s) q.0.0) in
      subst ranged q.1 (delete_ranged s form p q.0.1.0),
  λ s x o e.
      let q = (restore_sends (well_formed s) s x o).0 e in
      let form = formed s (not-false (well_formed s) q.0.1.0) in
      subst ranged q.1 (restore_ranged s form x q.0.1.1.0 q.0.1.1.1.0),
)

-- ---- raised by one

map_same : {A B : Type 0} (f g : A → B) (xs : List A) → ((x : A) → Memᴰ x xs → f x ≡ g x) → map f xs ≡ map g xs
map_same f g [] each = refl
map_same f g (x ∷ xs) each =
    ap₂ (λ y ys. y ∷ ys) (each x (Memᴰ.head refl)) (map_same f g xs (λ y m. each y (Memᴰ.tail m)))

pub toggle_raises : (s : State) → well_formed s ≡ true → (x : Identifier) → integrate_toggle s.characters (generated_toggle s x) ≡ raised_at x s.characters
unfolding integrate_toggle generated_toggle toggled_by
toggle_raises s h x = map_same _ _ s.characters (λ c m. go c m (same x c.id) refl)
  where
    go : (c : Character) → Memᴰ c s.characters → (b : Bool) → same x c.id ≡ b
        → cond (same x c.id) (with_toggles c (max c.toggles (toggles_of s.characters x + 1))) c ≡ cond (same x c.id) (with_toggles c (c.toggles + 1)) c
    go c m true e =
        let own : toggles_of s.characters x ≡ c.toggles = ap (toggles_of s.characters) (same-eq x c.id e) ∙ toggles-found s.characters (std s (formed s h)).apart m in
        let larger : max c.toggles (toggles_of s.characters x + 1) ≡ c.toggles + 1 = omega (arith, own) in
        rw (e, larger)
    go c m false e = rw e

-- the character that an operation is about
subject : Operation → Identifier
subject (insert i) = i.id
subject (toggle t) = t.target

pub raised-by-one : RaisedByOne
unfolding subject decided send_toggle carry_out with_characters delete_checks restore_checks local_delete_when local_delete local_restore_when local_restore generated_delete generated_toggle
raised-by-one = (
  λ s p t e.
      let q = (delete_sends (well_formed s) s p (toggle t)).0 e in
      let h = not-false (well_formed s) q.0.0 in
      rw (none_first (delete_checks (well_formed s) s p) q.0)
      (toggle_raises s h _ ∙ ap (λ (o : Operation). raised_at (subject o) s.characters) q.1),
  λ s x o e.
      let q = (restore_sends (well_formed s) s x o).0 e in
      let h = not-false (well_formed s) q.0.1.0 in
      rw (none_first (restore_checks (well_formed s) s x) q.0) (toggle_raises s h x),
)
