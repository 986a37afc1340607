-- Receiving an operation that has all it needs settles it: it is known, it crosses, or it is carried out.
use Prim.Native.Nat.{suc, ◌+◌, ◌≤◌, max}
use native.Mathlib.Omega.{arith}
use mathlib.Core.Path.{◌≡◌, refl, ap, ap₂, sym, ◌∙◌, subst}
use mathlib.Core.Bool.{true, false, ◌&&◌}
use mathlib.Core.Logic.{◌⊎◌, inl, inr, ⊎_elim}
use mathlib.Core.List.Memᴰ
use mathlib.Core.List.{List, ◌∷◌, ◌++◌, map, Memᴰ, []}
use lib.Dec.{leb}
use lib.ListN.{length}
use borrow.Author.Tests.{leb-true}
use Rattle.woot.specs.declared.Insert.{Insert}
use Rattle.woot.specs.declared.Toggle.{Toggle}
use Rattle.woot.specs.declared.Operation.{Operation}
use Rattle.woot.specs.declared.Operation.TheVariants.{Insert as insert, Toggle as toggle}
use Rattle.woot.specs.declared.Character.{Character}
use Rattle.answers.specs.declared.Refusal.TheVariants.{Crossed}
use Rattle.answers.specs.declared.Answer.{Answer}
use Rattle.answers.specs.declared.Answer.TheVariants.{Done, Deferred, Duplicate, Refused}
use Rattle.woot.specs.Identifiers.{same}
use Rattle.woot.specs.Operations.{origin, inserts, same_insert, same_operation, toggled_by, with_toggles}
use Rattle.woot.specs.Ranges.{in_range}
use Rattle.woot.specs.State.{State}
use Rattle.woot.specs.Placing.{identifiers, integrate_insert, integrate_toggle}
use Rattle.woot.specs.Pending.{executable, crossed, unplaceable, integrate, drain_steps, drain, drained}
use Rattle.woot.specs.Form.{well_formed}
use Rattle.answers.specs.Answers.{decided}
use Rattle.woot.specs.Calls.{Outcome, unchanged, with_characters, after_drain, insert_carried, duplicate, conflicting, sender_full, document_full, receive_checks, carry_out, accept, receive_when, receive}
use Rattle.lists.specs.Lists.{any}
use Rattle.lists.proofs.Tests.{either, clash, and_intro, and_left_lem, and_right, or_cases}
use Rattle.lists.proofs.Members.{any_member, any_none}
use Rattle.convergence.specs.Agreement.{Grown, Standing}
use Rattle.convergence.specs.Invariants.{pending_ids}
use Rattle.convergence.proofs.Identifiers.{same-eq, same_sym}
use Rattle.convergence.proofs.Extract.{front, extract_append, extract_distinct}
use Rattle.convergence.proofs.Forms.{Formed, formed}
use Rattle.convergence.proofs.Growth.{grown_placeable}
use Rattle.convergence.proofs.Steps.{fresh_insert}
use Rattle.convergence.proofs.Equal.{insert-same, operation_same}
use Rattle.convergence.proofs.Progress.{Progress, progress_none, progress_on, Settled, settled-later, stopped}
use Rattle.convergence.proofs.Offering.{Offered, carried, ended}
use Rattle.convergence.proofs.Drains.{draining}
use Rattle.convergence.proofs.Characters.{same-character}

-- ---- by the tests

pub received-known : (s : State) (o : Operation) → well_formed s ≡ true → in_range o ≡ true → duplicate s o ≡ true
    → receive s o ≡ unchanged s Duplicate
unfolding receive receive_when receive_checks decided
received-known s o f r d = rw (f, r, d)

received-crossed : (s : State) (o : Operation) → well_formed s ≡ true → in_range o ≡ true → duplicate s o ≡ false
    → conflicting s o ≡ false → crossed s.characters o ≡ true → receive s o ≡ unchanged s (Refused Crossed)
unfolding receive receive_when receive_checks decided
received-crossed s o f r d c x = rw (f, r, d, c, x)

pub received-done : (s : State) (o : Operation) → well_formed s ≡ true → in_range o ≡ true → duplicate s o ≡ false
    → conflicting s o ≡ false → crossed s.characters o ≡ false → unplaceable s.characters o ≡ false
    → executable s.characters o ≡ true → document_full s o ≡ false → receive s o ≡ carry_out Done s o
unfolding receive receive_when receive_checks decided accept sender_full
received-done s o f r d c x p e l = rw (f, r, d, c, x, p, e, l)

-- ---- what it comes to

-- done or known, or refused with 8
abbrev pub Said : List Character → Operation → Answer → Type 0
Said cs o (Done n m) = Unit
Said cs o Duplicate = Unit
Said cs o Deferred = ⊥
Said cs o (Refused r) = crossed cs o ≡ true

-- what the call answers and leaves
pub record Taken (heap : List Operation) (s : State) (o : Operation) (r : Outcome Answer) : Type 0 where
  pub grown : Grown r.state.characters
  pub progress : Progress heap s.characters r.state.characters
  pub settled : Settled r.state.characters o
  pub waiting : (p : Operation) → Memᴰ p r.state.pending → Memᴰ p s.pending
  pub present : length r.state.characters + length (inserts r.state.pending)
      ≤ suc (length s.characters + length (inserts s.pending))
  pub said : Said s.characters o r.answer

-- ---- what is known already

inserted-here : (i : Insert) (cs : List Character) → any (λ c. same_insert i (origin c)) cs ≡ true
    → Memᴰ i (map origin cs)
inserted-here i cs h =
    let w = any_member (λ c. same_insert i (origin c)) cs h in
    subst (λ (j : Insert). Memᴰ j (map origin cs)) (sym (insert-same i (origin w.0) w.2))
    (Memᴰ.map origin w.1)

toggled-here : (t : Toggle) (cs : List Character)
    → any (λ c. same t.target c.id && leb t.toggles c.toggles) cs ≡ true → Settled cs (toggle t)
toggled-here t cs h =
    let w = any_member (λ c. same t.target c.id && leb t.toggles c.toggles) cs h in (
      w.0,
      w.1,
      same-eq t.target w.0.id (and_left_lem (same t.target w.0.id) (leb t.toggles w.0.toggles) w.2),
      leb-true t.toggles w.0.toggles
          (and_right (same t.target w.0.id) (leb t.toggles w.0.toggles) w.2),
    )

-- what waits does not have all it needs
not-waiting : (s : State) → Formed s → (o : Operation) → executable s.characters o ≡ true
    → any (same_operation o) s.pending ≡ true → ⊥
not-waiting s f o ready h =
    let w = any_member (same_operation o) s.pending h in
    clash (subst (λ (p : Operation). executable s.characters p ≡ true) (operation_same o w.0 w.2) ready)
    (any_none (executable s.characters) f.unready w.1)

pub known-settled : (s : State) → Formed s → (o : Operation) → executable s.characters o ≡ true
    → duplicate s o ≡ true → Settled s.characters o
unfolding duplicate
known-settled s f (insert i) ready d =
    ⊎_elim (λ h. inl (inserted-here i s.characters h)) (λ h. absurd (not-waiting s f (insert i) ready h))
    (or_cases (any (λ c. same_insert i (origin c)) s.characters) (any (same_operation (insert i)) s.pending) d)
known-settled s f (toggle t) ready d =
    ⊎_elim (λ h. toggled-here t s.characters h) (λ h. absurd (not-waiting s f (toggle t) ready h))
    (or_cases (any (λ c. same t.target c.id && leb t.toggles c.toggles) s.characters)
    (any (same_operation (toggle t)) s.pending) d)

-- ---- the three ways

module _ (heap : List Operation) (s : State) (o : Operation) (g : Grown s.characters) where
  -- a call that changes nothing
  still : (a : Answer) → Said s.characters o a → Settled s.characters o → Taken heap s o (unchanged s a)
  unfolding unchanged
  still a w t =
      record {
        grown = g;
        progress = progress_none heap g.standing;
        settled = t;
        waiting = λ p m. m;
        present = omega arith;
        said = w;
      }

-- an operation that is carried out
acted : (heap : List Operation) (s : State) (o : Operation) → Grown s.characters → Formed s → in_range o ≡ true
    → duplicate s o ≡ false → conflicting s o ≡ false → executable s.characters o ≡ true
    → crossed s.characters o ≡ false → Memᴰ o heap
    → ((p : Operation) → Memᴰ p s.pending → Memᴰ p heap) → Taken heap s o (carry_out Done s o)
unfolding carry_out after_drain insert_carried with_characters integrate unplaceable
acted heap s (insert i) g f r d c ready uncrossed m among =
    let off : Offered s.characters (insert i ∷ s.pending) = offered_insert s i f r (fresh_insert s i d c) in
    let y = carried heap {cs = s.characters} {os = s.pending} {ps = insert i ∷ s.pending}
    (insert i) front off g m ready uncrossed (grown_placeable s.characters i g ready uncrossed) in
    let z = ended heap (draining (integrate_insert s.characters i) s.pending) y.offered y.grown among in
    record {
      grown = z.grown;
      progress = progress_on y.progress z.progress;
      settled = settled-later z.progress y.grown z.grown (insert i) y.settled;
      waiting = z.waiting;
      present = omega (arith, z.count, y.count);
      said = tt;
    }
  where
    offered_insert : (s : State) (i : Insert) → Formed s → in_range (insert i) ≡ true
        → any (same i.id) (identifiers s.characters ++ pending_ids s.pending) ≡ false
        → Offered s.characters (insert i ∷ s.pending)
    offered_insert s i f r fresh =
        record {
          ranged = and_intro r f.sound.pending-ranges;
          apart =
              extract_distinct same same_sym (extract_append (identifiers s.characters) front) fresh
              f.sound.apart;
        }
acted heap s (toggle t) g f r d c ready uncrossed m among =
    let off : Offered s.characters (toggle t ∷ s.pending) =
    record { ranged = and_intro r f.sound.pending-ranges; apart = f.sound.apart }
    in
    let y = carried heap {cs = s.characters} {os = s.pending} {ps = toggle t ∷ s.pending}
    (toggle t) front off g m ready uncrossed toggle_placed in
    record {
      grown = y.grown;
      progress = y.progress;
      settled = y.settled;
      waiting = λ p n. n;
      present = omega (arith, y.count);
      said = tt;
    }
  where
    toggle_placed : unplaceable s.characters (toggle t) ≡ false
    toggle_placed = refl

pub taken : (heap : List Operation) (s : State) (o : Operation) → Grown s.characters → well_formed s ≡ true
    → in_range o ≡ true → conflicting s o ≡ false → executable s.characters o ≡ true
    → (duplicate s o ≡ false → document_full s o ≡ false) → Memᴰ o heap
    → ((p : Operation) → Memᴰ p s.pending → Memᴰ p heap) → Taken heap s o (receive s o)
unfolding unplaceable
taken heap s o g f r c ready room m among = go (either (duplicate s o)) (either (crossed s.characters o))
  where
    placed : (o : Operation) → executable s.characters o ≡ true → crossed s.characters o ≡ false
        → unplaceable s.characters o ≡ false
    placed (insert i) ready uncrossed = grown_placeable s.characters i g ready uncrossed
    placed (toggle t) ready uncrossed = refl

    go : (duplicate s o ≡ true) ⊎ (duplicate s o ≡ false)
        → (crossed s.characters o ≡ true) ⊎ (crossed s.characters o ≡ false) → Taken heap s o (receive s o)
    go (inl d) x =
        subst (Taken heap s o) (sym (received-known s o f r d))
        (still heap s o g Duplicate tt (known-settled s (formed s f) o ready d))
    go (inr d) (inl x) =
        subst (Taken heap s o) (sym (received-crossed s o f r d c x))
        (still heap s o g (Refused Crossed) x (stopped g o ready (inl x)))
    go (inr d) (inr x) =
        subst (Taken heap s o) (sym (received-done s o f r d c x (placed o ready x) ready (room d)))
        (acted heap s o g (formed s f) r d c ready x m among)

-- ---- where nothing waits

-- what is carried out is all that changes
pub carried_alone : (s : State) (o : Operation) → s.pending ≡ []
    → (carry_out Done s o).state.characters ≡ integrate s.characters o
unfolding carry_out after_drain insert_carried with_characters integrate drain drain_steps drained
carried_alone s (insert i) none = ap (λ ps. (drain (integrate_insert s.characters i) ps).characters) none
carried_alone s (toggle t) none = refl

-- a toggle that was taken changes nothing
pub toggle_again : (cs : List Character) (t : Toggle) → Standing cs → Settled cs (toggle t) → integrate_toggle cs t ≡ cs
unfolding integrate_toggle toggled_by with_toggles
toggle_again cs t s w = each cs (λ c m. still c m (either (same t.target c.id)))
  where
    each : (ds : List Character) → ((c : Character) → Memᴰ c ds → toggled_by t c ≡ c) → map (toggled_by t) ds ≡ ds
    each [] f = refl
    each (d ∷ ds) f =
        ap₂ (λ (b : Character) (bs : List Character). b ∷ bs) (f d (Memᴰ.head refl))
        (each ds (λ c m. f c (Memᴰ.tail m)))

    still : (c : Character) → Memᴰ c cs → (same t.target c.id ≡ true) ⊎ (same t.target c.id ≡ false)
        → toggled_by t c ≡ c
    still c m (inr e) = rw e
    still c m (inl e) =
        let k = ap (λ (b : Character). b.toggles)
        (same-character cs s w.1 m (sym w.2 ∙ same-eq t.target c.id e)) in
        let l : max c.toggles t.toggles ≡ c.toggles = omega (arith, k, w.3) in
        rw (e, l)
