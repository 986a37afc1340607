-- What is sent here meets no condition of receiving on the state it was made on: it is in range, nobody has its
-- identifier or its turn, and all that it needs is held. So it is carried out there too.
use Prim.Native.Nat.{ℕ, ◌+◌}
use native.Mathlib.Omega.{arith}
use mathlib.Core.Path.{◌≡◌, refl, ap, sym, ◌∙◌, subst}
use mathlib.Core.Bool.{true, false, ◌&&◌, ◌||◌, not}
use mathlib.Core.List.{map, Memᴰ}
use lib.Dec.{leb, eqb}
use borrow.Author.Tests.{leb-true, not-false}
use Rattle.woot.specs.declared.Identifier.{Identifier}
use Rattle.woot.specs.declared.Insert.{Insert}
use Rattle.woot.specs.declared.Toggle.{Toggle}
use Rattle.woot.specs.declared.Operation.{Operation}
use Rattle.woot.specs.declared.Operation.TheVariants.{Insert as insert, Toggle as toggle}
use Rattle.woot.specs.declared.Character.{Character}
use Rattle.answers.specs.declared.Answer.TheVariants.{Done}
use Rattle.woot.specs.Identifiers.{same}
use Rattle.woot.specs.Operations.{origin, inserts, same_insert, same_toggle, same_operation}
use Rattle.woot.specs.Ranges.{in_range}
use Rattle.woot.specs.State.{State}
use Rattle.woot.specs.Placing.{held}
use Rattle.woot.specs.Pending.{executable, crossed, unplaceable}
use Rattle.woot.specs.Form.{present_inserts, well_formed}
use Rattle.answers.specs.Answers.{NoneHolds, decided}
use Rattle.woot.specs.Sending.{answer_of}
use Rattle.woot.specs.Calls.{duplicate, conflicting, document_full, carry_out, receive, generated_insert, identifier_taken, insert_checks, send_insert, local_insert_when, local_insert, toggles_of, generated_toggle, send_toggle, delete_checks, generated_delete, local_delete_when, local_delete, restore_checks, local_restore_when, local_restore}
use Rattle.woot.specs.Cursor.{receive_at}
use Rattle.woot.specs.Histories.{Call, deleting, inserting, restoring, outcome}
use Rattle.lists.specs.Lists.{any}
use Rattle.lists.proofs.Tests.{clash, fails, or-false, three}
use Rattle.lists.proofs.Members.{any_append, any_none, none_any}
use Rattle.convergence.specs.Cursors.{DoesAs, OwnReceived}
use Rattle.convergence.proofs.Identifiers.{same-eq}
use Rattle.convergence.proofs.Forms.{Formed, formed}
use Rattle.convergence.proofs.Toggles.{toggles-found, std, visible_at, delete_ranged, delete_ready, hidden_at, restore_ranged, restore_ready}
use Rattle.convergence.proofs.Pointing.{receive-at-same}
use Rattle.convergence.proofs.Named.{none_named, one-named}
use Rattle.convergence.proofs.Steps.{any-inserts, any-map, Addable, generated_addable}
use Rattle.convergence.proofs.Receiving.{received-done}
use Rattle.convergence.proofs.Replies.{none_first, insert-sends, delete_sends, restore_sends}

-- an operation that meets no condition and has what it needs is carried out
record Acceptable (s : State) (o : Operation) : Type 0 where
  in-form : well_formed s ≡ true
  ranged : in_range o ≡ true
  new : duplicate s o ≡ false
  sole : conflicting s o ≡ false
  straight : crossed s.characters o ≡ false
  placed : unplaceable s.characters o ≡ false
  ready : executable s.characters o ≡ true
  space : document_full s o ≡ false

accepted : (s : State) (o : Operation) → Acceptable s o → receive s o ≡ carry_out Done s o
accepted s o a =
    received-done s o a.in-form a.ranged a.new a.sole a.straight a.placed a.ready a.space

-- so it does as a call that carries it out
module _ (s : State) (c : Call) (o : Operation) (a : Acceptable s o) (carried : outcome s c ≡ carry_out Done s o) where
  does_as : DoesAs s c o
  unfolding outcome receive_at receive
  does_as = (accepted s o a ∙ sym carried, λ g h. receive-at-same (well_formed s) s o g h ∙ accepted s o a ∙ sym carried)

-- ---- typing

-- an insert whose identifier nobody has is not known, nor in conflict
module _ (s : State) (i : Insert) (free : any (λ j. same i.id j.id) (present_inserts s) ≡ false) where
  unequal : any (same_insert i) (present_inserts s) ≡ false
  unfolding same_insert
  unequal = none_any (same_insert i) (present_inserts s) (λ j m. rw (any_none (λ j. same i.id j.id) free m))

  free_new : duplicate s (insert i) ≡ false
  unfolding duplicate present_inserts
  free_new =
      let apart : (any (same_insert i) (map origin s.characters) || any (same_insert i) (inserts s.pending)) ≡ false =
      sym (any_append (same_insert i) (map origin s.characters) (inserts s.pending)) ∙ unequal in
      rw (← any-inserts i s.pending, ← any-map (same_insert i) origin s.characters) apart

  free_sole : conflicting s (insert i) ≡ false
  unfolding conflicting
  free_sole = none_named (λ (j : Insert). j.id) (λ j. not (same_insert i j)) i.id (present_inserts s) free

typed_acceptable : (s : State) (g n : ℕ) → Addable s (generated_insert s g n) → well_formed s ≡ true → identifier_taken s ≡ false
    → document_full s (insert (generated_insert s g n)) ≡ false → Acceptable s (insert (generated_insert s g n))
unfolding in_range identifier_taken generated_insert
typed_acceptable s g n a form free space =
    record {
      in-form = form;
      ranged = a.ranged;
      new = free_new s (generated_insert s g n) free;
      sole = free_sole s (generated_insert s g n) free;
      straight = a.uncrossed;
      placed = a.placeable;
      ready = a.ready;
      space = space;
    }

-- ---- erasing and restoring

-- what waits has not got what it needs, so no toggle of a character that is held waits
not-waiting : (s : State) (t : Toggle) → Formed s → held s.characters t.target ≡ true → any (same_operation (toggle t)) s.pending ≡ false
unfolding executable same_operation same_toggle
not-waiting s t f h = none_any (same_operation (toggle t)) s.pending (λ p m. go p (any_none (executable s.characters) f.unready m))
  where
    go : (p : Operation) → executable s.characters p ≡ false → same_operation (toggle t) p ≡ false
    go (insert j) e = refl
    go (toggle u) e =
        fails (same_toggle t u) (λ q.
        let named = same-eq t.target u.target (three (eqb t.sender u.sender) (same t.target u.target) (eqb t.toggles u.toggles) q).1 in
        clash (subst (λ (x : Identifier). held s.characters x ≡ true) named h) e)

-- the next turn of a character is larger than its own
module _ (s : State) (f : Formed s) {c : Character} (m : Memᴰ c s.characters) (x : Identifier) (named : x ≡ c.id) where
  next_larger : any (λ d. same x d.id && leb (toggles_of s.characters x + 1) d.toggles) s.characters ≡ false
  next_larger =
      let own : toggles_of s.characters x ≡ c.toggles = ap (toggles_of s.characters) named ∙ toggles-found s.characters (std s f).apart m in
      one-named (λ (d : Character). d.id) (λ d. leb (toggles_of s.characters x + 1) d.toggles) x s.characters (std s f).apart m named
      ∙ fails (leb (toggles_of s.characters x + 1) c.toggles) (λ e. omega (arith, leb-true (toggles_of s.characters x + 1) c.toggles e, own))

  toggle_acceptable : well_formed s ≡ true → in_range (toggle (generated_toggle s x)) ≡ true → held s.characters x ≡ true
      → Acceptable s (toggle (generated_toggle s x))
  unfolding generated_toggle duplicate conflicting crossed unplaceable executable document_full
  toggle_acceptable form range ready =
      record {
        in-form = form;
        ranged = range;
        new = or-false next_larger (not-waiting s (generated_toggle s x) f ready);
        sole = refl;
        straight = refl;
        placed = refl;
        ready = ready;
        space = refl;
      }

-- ---- what is sent

-- a call that meets no condition carries out what it sends
module _ (s : State) where
  pub typed_carried : (g n : ℕ) → NoneHolds (insert_checks (well_formed s) s g n) → outcome s (inserting g n) ≡ carry_out Done s (insert (generated_insert s g n))
  unfolding outcome local_insert local_insert_when decided send_insert carry_out answer_of
  typed_carried g n w = rw (none_first (insert_checks (well_formed s) s g n) w)

  pub erased_carried : (p : ℕ) → NoneHolds (delete_checks (well_formed s) s p) → outcome s (deleting p) ≡ carry_out Done s (toggle (generated_delete s p))
  unfolding outcome local_delete local_delete_when decided send_toggle carry_out answer_of
  erased_carried p w = rw (none_first (delete_checks (well_formed s) s p) w)

  pub restored_carried : (x : Identifier) → NoneHolds (restore_checks (well_formed s) s x)
      → outcome s (restoring x) ≡ carry_out Done s (toggle (generated_toggle s x))
  unfolding outcome local_restore local_restore_when decided send_toggle carry_out answer_of
  restored_carried x w = rw (none_first (restore_checks (well_formed s) s x) w)

pub own-received : OwnReceived
unfolding insert_checks delete_checks restore_checks local_insert local_delete local_restore generated_delete generated_toggle in_range
own-received = (
  λ s g n o e.
      let q = (insert-sends (well_formed s) s g n o).0 e in
      let form = not-false (well_formed s) q.0.1.0 in
      let a = generated_addable (well_formed s) s g n (formed s form) q.0 in
      let w = typed_acceptable s g n a form q.0.1.1.1.1.0 q.0.1.1.1.1.1.1.0 in
      subst (DoesAs s (inserting g n)) q.1 (does_as s (inserting g n) (insert (generated_insert s g n)) w (typed_carried s g n q.0)),
  λ s p o e.
      let q = (delete_sends (well_formed s) s p o).0 e in
      let form = not-false (well_formed s) q.0.0 in
      let f = formed s form in
      let c = visible_at s f p q.0.1.0 in
      let w = toggle_acceptable s f c.1 _ c.3 form (delete_ranged s f p q.0.1.0) (delete_ready s f p q.0.1.0) in
      subst (DoesAs s (deleting p)) q.1 (does_as s (deleting p) (toggle (generated_delete s p)) w (erased_carried s p q.0)),
  λ s x o e.
      let q = (restore_sends (well_formed s) s x o).0 e in
      let form = not-false (well_formed s) q.0.1.0 in
      let f = formed s form in
      let c = hidden_at s f x q.0.1.1.0 in
      let ranged = restore_ranged s f x q.0.1.1.0 q.0.1.1.1.0 in
      let w = toggle_acceptable s f c.1 x c.3 form ranged (restore_ready s f x q.0.1.1.0) in
      subst (DoesAs s (restoring x)) q.1 (does_as s (restoring x) (toggle (generated_toggle s x)) w (restored_carried s x q.0)),
)
