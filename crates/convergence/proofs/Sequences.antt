-- Receiving operations of a heap one by one, each after all it needs: nothing comes to wait and there is always room,
-- so at the end each is settled, and what is there is complete.
use Prim.Native.Nat.{ℕ, suc, ◌≤◌}
use native.Mathlib.Omega.{arith}
use mathlib.Core.Path.{◌≡◌, refl, ap, sym, ◌∙◌, subst}
use mathlib.Core.Bool.{true, false, ◌&&◌, not, false≢true}
use mathlib.Core.Logic.{◌⊎◌, inl, inr, ⊎_elim}
use mathlib.Core.List.{List, [], ◌∷◌, ◌++◌, map, Memᴰ}
use lib.Dec.{leb}
use lib.ListN.{length, length-map}
use borrow.Author.Tests.{leb-true, not-true}
use Rattle.woot.specs.declared.Identifier.{Identifier}
use Rattle.woot.specs.declared.Insert.{Insert}
use Rattle.woot.specs.declared.Operation.{Operation}
use Rattle.woot.specs.declared.Operation.TheVariants.{Insert as insert, Toggle as toggle}
use Rattle.woot.specs.declared.Character.{Character}
use Rattle.woot.specs.Limits.{capacity}
use Rattle.woot.specs.Identifiers.{same}
use Rattle.woot.specs.Operations.{origin, inserts, same_insert, same_operation}
use Rattle.woot.specs.Ranges.{site_number, in_range}
use Rattle.woot.specs.State.{State, initial}
use Rattle.woot.specs.Placing.{identifiers, held, above}
use Rattle.woot.specs.Pending.{executable, crossed, unplaceable, integrate, Drained, drained, and_discarded, and_integrated}
use Rattle.woot.specs.Form.{present_inserts, well_formed}
use Rattle.woot.specs.Calls.{duplicate, conflicting, document_full, receive, Outcome, unchanged}
use Rattle.woot.specs.Histories.{receiving, outcome}
use Rattle.lists.specs.Lists.{any, every, distinct}
use Rattle.lists.proofs.Tests.{clash, and_intro, and_left_lem, and_right, or-false-left, fails, not-intro, either}
use Rattle.lists.proofs.Members.{any_none, none_any, every_member}
use Rattle.convergence.specs.Agreement.{Grown}
use Rattle.convergence.proofs.Identifiers.{same_refl, same-eq}
use Rattle.convergence.proofs.Extract.{no_more, Extract, extract_itself, extract_old}
use Rattle.convergence.proofs.Forms.{Formed, formed, known-length, empty-formed}
use Rattle.convergence.proofs.Growth.{grown-empty}
use Rattle.convergence.proofs.Kept.{form_kept}
use Rattle.bulk.specs.Building.{building, once}
use Rattle.convergence.specs.Building.{received, each_ready}
use Rattle.convergence.proofs.Equal.{insert-refl}
use Rattle.convergence.proofs.Unique.{Consistent, Complete, complete-unique}
use Rattle.convergence.proofs.Progress.{Progress, progress_none, progress_on, Settled, settled-later, completed, stopped}
use Rattle.convergence.proofs.Heap.{insert-listed, listed-insert, built-complete, heap_offered, once-among}
use Rattle.convergence.proofs.Receiving.{Taken, taken, received-known, received-done, known-settled, carried_alone, toggle_again}
use Rattle.answers.specs.declared.Answer.{Answer}
use Rattle.convergence.proofs.Places.{held-id}
use Rattle.convergence.proofs.Soundness.{standing, fresh_unheld}
use Rattle.convergence.proofs.Drains.{Draining, stop, discard, carry, draining}
use Rattle.convergence.proofs.Offering.{Offered, offered_out, offered_fresh, offered_carry}

-- ---- what a state has of a heap

-- the characters and what waits are of the heap
pub record Of (heap : List Operation) (s : State) : Type 0 where
  pub characters : (i : Insert) → Memᴰ i (map origin s.characters) → Memᴰ (insert i) heap
  pub pending : (o : Operation) → Memᴰ o s.pending → Memᴰ o heap

pub of_unconflicting : (heap : List Operation) → Consistent heap → (s : State) → Of heap s → (o : Operation)
    → Memᴰ o heap → conflicting s o ≡ false
unfolding conflicting present_inserts
of_unconflicting heap c s f (insert i) m =
    none_any (λ j. same i.id j.id && not (same_insert i j)) (present_inserts s)
    (λ j n. fails (same i.id j.id && not (same_insert i j)) (λ e.
    let there : Memᴰ (insert j) heap = ⊎_elim (λ k. f.characters j k)
    (λ k. f.pending (insert j) (insert-listed s.pending k))
    (mathlib.Core.List.Memᴰ.append_cases (map origin s.characters) n) in
    let eq : i ≡ j = c i j m there
    (same-eq i.id j.id (and_left_lem (same i.id j.id) (not (same_insert i j)) e)) in
    clash (subst (λ (k : Insert). same_insert i k ≡ true) eq (insert-refl i))
    (not-true (same_insert i j) (and_right (same i.id j.id) (not (same_insert i j)) e))))
of_unconflicting heap c s f (toggle t) m = refl

-- what a call leaves is of the heap too
pub of-later : (heap : List Operation) (s : State) (o : Operation) → Of heap s → Taken heap s o (receive s o)
    → Of heap (receive s o).state
of-later heap s o f t =
    record {
      characters = λ i m. ⊎_elim (λ n. f.characters i n) (λ n. n) (t.progress.came i m);
      pending = λ p m. f.pending p (t.waiting p m);
    }

crossed_ready : (cs : List Character) (o : Operation) → crossed cs o ≡ true → executable cs o ≡ true
unfolding crossed
crossed_ready cs (insert i) e = and_left_lem (executable cs (insert i)) (not (above cs i.previous i.next)) e
crossed_ready cs (toggle t) e = absurd (false≢true e)

pub received-append : (s : State) (os ps : List Operation) → received s (os ++ ps) ≡ received (received s os) ps
received-append s [] ps = refl
received-append s (o ∷ os) ps = received-append (receive s o).state os ps

-- ---- the whole sequence

module _ (heap : List Operation) (c : Consistent heap) (r : every in_range heap ≡ true)
    (few : length (inserts heap) ≤ capacity) where
  -- where nothing waits there is room for what is new
  room : (s : State) → Formed s → Of heap s → s.pending ≡ [] → (o : Operation) → Memᴰ o heap
      → duplicate s o ≡ false → document_full s o ≡ false
  unfolding document_full duplicate origin
  room s f h none (insert i) m d =
      fails (leb capacity (length (present_inserts s)))
      (λ e. omega (
        arith,
        leb-true capacity (length (present_inserts s)) e,
        known-length s,
        ap (λ (ps : List Operation). length (inserts ps)) none,
        more,
      ))
    where
      new : (x : Identifier) → Memᴰ x (identifiers s.characters) → same i.id x ≡ false
      new x n = fails (same i.id x) (λ e.
          let w = mathlib.Core.List.Memᴰ.of_map (λ (b : Character). b.id) s.characters n in
          let eq : i ≡ origin w.0 = c i (origin w.0) m (h.characters (origin w.0) (mathlib.Core.List.Memᴰ.map origin w.1))
          (same-eq i.id x e ∙ sym w.2) in
          clash (subst (λ (j : Insert). same_insert i j ≡ true) eq (insert-refl i))
          (any_none (λ b. same_insert i (origin b))
          (or-false-left (any (λ b. same_insert i (origin b)) s.characters)
          (any (same_operation (insert i)) s.pending) d) w.1))

      every-id : (x : Identifier) → Memᴰ x (i.id ∷ identifiers s.characters)
          → Memᴰ x (map (λ (j : Insert). j.id) (inserts heap))
      every-id x (mathlib.Core.List.Memᴰ.head e) =
          subst (λ (y : Identifier). Memᴰ y (map (λ (j : Insert). j.id) (inserts heap))) (sym e)
          (mathlib.Core.List.Memᴰ.map (λ (j : Insert). j.id) (listed-insert heap m))
      every-id x (mathlib.Core.List.Memᴰ.tail n) =
          let w = mathlib.Core.List.Memᴰ.of_map (λ (b : Character). b.id) s.characters n in
          subst (λ (y : Identifier). Memᴰ y (map (λ (j : Insert). j.id) (inserts heap))) w.2
          (mathlib.Core.List.Memᴰ.map (λ (j : Insert). j.id)
          (listed-insert heap (h.characters (origin w.0) (mathlib.Core.List.Memᴰ.map origin w.1))))

      apart : distinct same (identifiers s.characters) ≡ true
      apart = (standing f.sound).apart

      more : suc (length s.characters) ≤ capacity
      more =
          let k = no_more same same_refl (i.id ∷ identifiers s.characters)
          (map (λ (j : Insert). j.id) (inserts heap))
          (and_intro (not-intro (none_any (same i.id) (identifiers s.characters) new)) apart) every-id in
          omega (
            arith,
            k,
            length-map s.characters (λ (b : Character). b.id),
            length-map (inserts heap) (λ (j : Insert). j.id),
          )
  room s f h none (toggle t) m d = refl

  -- where a sequence leads from s to t
  pub record Arrived (s t : State) (os : List Operation) : Type 0 where
    pub form : well_formed t ≡ true
    pub grown : Grown t.characters
    pub progress : Progress heap s.characters t.characters
    pub settled : (o : Operation) → Memᴰ o os → Settled t.characters o
    pub none : t.pending ≡ []

  only_none : (ps : List Operation) → ((o : Operation) → Memᴰ o ps → ⊥) → ps ≡ []
  only_none [] f = refl
  only_none (o ∷ ps) f = absurd (f o (mathlib.Core.List.Memᴰ.head refl))

  pub arrives : (os : List Operation) (s : State) → well_formed s ≡ true → Grown s.characters → Of heap s
      → s.pending ≡ [] → ((o : Operation) → Memᴰ o os → Memᴰ o heap) → each_ready s os ≡ true
      → Arrived s (received s os) os
  unfolding outcome
  arrives [] s f g h none among e =
      record {
        form = f;
        grown = g;
        progress = progress_none heap g.standing;
        settled = λ o m. absurd (mathlib.Core.List.Memᴰ.not-nil m);
        none = none;
      }
  arrives (o ∷ os) s f g h none among e =
      let m = among o (mathlib.Core.List.Memᴰ.head refl) in
      let ready = and_left_lem (executable s.characters o) (each_ready (receive s o).state os) e in
      let t = taken heap s o g f (every_member in_range r m) (of_unconflicting heap c s h o m) ready
      (room s (formed s f) h none o m) m h.pending in
      let z =
      arrives os (receive s o).state (form_kept s (receiving o) f) t.grown (of-later heap s o h t)
      (only_none (receive s o).state.pending (λ p n. mathlib.Core.List.Memᴰ.not-nil (subst (Memᴰ p) none (t.waiting p n))))
      (λ p n. among p (mathlib.Core.List.Memᴰ.tail n))
      (and_right (executable s.characters o) (each_ready (receive s o).state os) e)
      in
      record {
        form = z.form;
        grown = z.grown;
        progress = progress_on t.progress z.progress;
        settled =
            λ p n. ⊎_elim (λ q. subst (Settled (received (receive s o).state os).characters) (sym q)
            (settled-later z.progress t.grown z.grown o t.settled)) (λ q. z.settled p q)
            (mathlib.Core.List.Memᴰ.cases_cons n);
        none = z.none;
      }

  of-empty : (n : ℕ) → Of heap (initial n)
  unfolding initial
  of-empty n =
      record { characters = λ i m. absurd (mathlib.Core.List.Memᴰ.not-nil m); pending = λ o m. absurd (mathlib.Core.List.Memᴰ.not-nil m) }

  -- from an empty replica
  pub arrives_empty : (n : ℕ) → site_number n ≡ true → (os : List Operation)
      → ((o : Operation) → Memᴰ o os → Memᴰ o heap) → each_ready (initial n) os ≡ true
      → Arrived (initial n) (received (initial n) os) os
  unfolding initial
  arrives_empty n q os among e =
      arrives os (initial n) (empty-formed n ∙ q) grown-empty
      (of-empty n) refl among e

  pub arrived_complete : (n : ℕ) → site_number n ≡ true → (os : List Operation)
      → ((o : Operation) → Memᴰ o os → Memᴰ o heap) → each_ready (initial n) os ≡ true
      → ((o : Operation) → Memᴰ o heap → Memᴰ o os ⊎
      ((executable (received (initial n) os).characters o ≡ false) ⊎
      (crossed (received (initial n) os).characters o ≡ true)))
      → Complete heap (received (initial n) os).characters
  unfolding initial
  arrived_complete n q os among e left =
      let z = arrives_empty n q os among e in
      completed heap z.grown z.progress
      (λ o m. ⊎_elim (λ k. inl (z.settled o k))
      (λ k. ⊎_elim (λ u. inr u)
      (λ u. inl (stopped z.grown o (ready o u) (inl u))) k) (left o m))
    where
      ready : (o : Operation) → crossed (received (initial n) os).characters o ≡ true
          → executable (received (initial n) os).characters o ≡ true
      ready o u = crossed_ready (received (initial n) os).characters o u

  pub received-built : (n : ℕ) → site_number n ≡ true → (os : List Operation)
      → ((o : Operation) → Memᴰ o os → Memᴰ o heap) → each_ready (initial n) os ≡ true
      → ((o : Operation) → Memᴰ o heap → Memᴰ o os ⊎
      ((executable (received (initial n) os).characters o ≡ false) ⊎
      (crossed (received (initial n) os).characters o ≡ true)))
      → (building heap).characters ≡ (received (initial n) os).characters
  received-built n q os among e left =
      complete-unique heap c (building heap).characters (received (initial n) os).characters
      (built-complete heap r c) (arrived_complete n q os among e left)

  -- ---- what was carried out, as a sequence

  -- an insert is new
  abbrev New : List Character → Operation → Type 0
  New cs (insert i) = held cs i.id ≡ false
  New cs (toggle t) = Unit

  -- where nothing waits, a new operation that has all it needs, in order, does what it does in the rule
  does : (s : State) → well_formed s ≡ true → Grown s.characters → Of heap s → s.pending ≡ [] → (o : Operation)
      → Memᴰ o heap → New s.characters o → executable s.characters o ≡ true
      → crossed s.characters o ≡ false → unplaceable s.characters o ≡ false
      → (receive s o).state.characters ≡ integrate s.characters o
  unfolding unchanged integrate crossed origin
  does s f g h none o m new ready uncrossed placeable = go o m new ready uncrossed placeable (either (duplicate s o))
    where
      known : (p : Operation) → New s.characters p → executable s.characters p ≡ true
          → crossed s.characters p ≡ false → Settled s.characters p → s.characters ≡ integrate s.characters p
      known (insert i) n e x (inl k) =
          let w = mathlib.Core.List.Memᴰ.of_map origin s.characters k in
          clash (subst (λ (j : Insert). held s.characters j.id ≡ true) w.2 (held-id s.characters w.1)) n
      known (insert i) n e x (inr k) = clash (and_intro e (not-intro k.2)) x
      known (toggle t) n e x w = sym (toggle_again s.characters t g.standing w)

      go : (p : Operation) → Memᴰ p heap → New s.characters p → executable s.characters p ≡ true
          → crossed s.characters p ≡ false → unplaceable s.characters p ≡ false
          → (duplicate s p ≡ true) ⊎ (duplicate s p ≡ false)
          → (receive s p).state.characters ≡ integrate s.characters p
      go p k n e x y (inl d) =
          ap (λ (r : Outcome Answer). r.state.characters) (received-known s p f (every_member in_range r k) d)
          ∙ known p n e x (known-settled s (formed s f) p e d)
      go p k n e x y (inr d) =
          ap (λ (r : Outcome Answer). r.state.characters)
          (received-done s p f (every_member in_range r k) d (of_unconflicting heap c s h p k) x y e
          (room s (formed s f) h none p k d))
          ∙ carried_alone s p none

  new-of : {cs : List Character} {os ps : List Operation} (o : Operation) → Extract o os ps → Offered cs ps → New cs o
  unfolding in_range
  new-of {cs} {os} (insert i) e f =
      fresh_unheld cs os i (every_member in_range f.ranged (extract_itself e)) (offered_fresh e f)
  new-of (toggle t) e f = tt

  ready_drained : {cs : List Character} {ps : List Operation} {d : Drained} → Draining cs ps d → (s : State)
      → Offered cs ps → well_formed s ≡ true → Grown s.characters → s.characters ≡ cs → Of heap s → s.pending ≡ []
      → ((o : Operation) → Memᴰ o ps → Memᴰ o heap) → each_ready s d.integrated ≡ true
  unfolding drained and_discarded and_integrated outcome
  ready_drained (stop e) s off f g q h none among = refl
  ready_drained (discard t v why k) s off f g q h none among =
      ready_drained k s (offered_out t.operation v.extracted off) f g q h none
      (λ o m. among o (extract_old v.extracted m))
  ready_drained {cs} (carry {d = d} t v uncrossed placeable k) s off f g q h none among =
      let o = t.operation in
      let m = among o (extract_itself v.extracted) in
      let ready = subst (λ ds. executable ds o ≡ true) (sym q) v.passed in
      let w =
      taken heap s o g f (every_member in_range r m) (of_unconflicting heap c s h o m) ready
      (room s (formed s f) h none o m) m h.pending
      in
      let done =
      does s f g h none o m (subst (λ ds. New ds o) (sym q) (new-of o v.extracted off)) ready
      (subst (λ ds. crossed ds o ≡ false) (sym q) uncrossed) (subst (λ ds. unplaceable ds o ≡ false) (sym q) placeable)
      in
      and_intro ready
      (ready_drained k (receive s o).state (offered_carry o v.extracted off v.passed uncrossed placeable)
      (form_kept s (receiving o) f) w.grown (done ∙ ap (λ ds. integrate ds o) q) (of-later heap s o h w)
      (only_none (receive s o).state.pending (λ p n. mathlib.Core.List.Memᴰ.not-nil (subst (Memᴰ p) none (w.waiting p n))))
      (λ p n. among p (extract_old v.extracted n)))

  pub ready_built : (n : ℕ) → site_number n ≡ true → each_ready (initial n) (building heap).integrated ≡ true
  unfolding building initial
  ready_built n q =
      ready_drained (draining [] (once heap)) (initial n) (heap_offered heap r c) (empty-formed n ∙ q) grown-empty
      refl (of-empty n) refl (λ o m. once-among heap m)
