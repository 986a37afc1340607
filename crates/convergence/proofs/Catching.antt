-- What is answered, received: each insert has all it needs when it comes, by the sequence in which they are sent, and
-- stands in order at the asker as it does at the other; then each toggle finds its character.
use Prim.Native.Nat.{ℕ, ◌+◌, ◌≤◌, ◌<◌}
use native.Mathlib.Omega.{arith}
use mathlib.Core.Path.{◌≡◌, refl, ap, sym, ◌∙◌, subst, fun_ext}
use mathlib.Core.Bool.{Bool, true, false, not}
use mathlib.Core.Logic.{◌⊎◌, inl, inr, ⊎_elim}
use mathlib.Core.List.Memᴰ
use mathlib.Core.List.{List, [], ◌∷◌, ◌++◌, map, Memᴰ}
use lib.Dec.{leb}
use lib.ListN.{length, length-map}
use borrow.Author.Tests.{leb-true, not-true}
use Rattle.lists.specs.Lists.{every, distinct}
use Rattle.lists.proofs.Tests.{either, clash, and_intro, and_left_lem, and_right, fails}
use Rattle.lists.proofs.Members.{every_member, member_every}
use Rattle.woot.specs.declared.Identifier.{Identifier}
use Rattle.woot.specs.declared.Insert.{Insert}
use Rattle.woot.specs.declared.Toggle.{Toggle}
use Rattle.woot.specs.declared.Operation.{Operation}
use Rattle.woot.specs.declared.Operation.TheVariants.{Insert as insert, Toggle as toggle}
use Rattle.woot.specs.declared.Character.{Character}
use Rattle.answers.specs.declared.Answer.{Answer}
use Rattle.answers.specs.declared.Answer.TheVariants.{Done, Deferred, Duplicate, Refused}
use Rattle.woot.specs.Limits.{last_clock, capacity}
use Rattle.woot.specs.Identifiers.{same}
use Rattle.woot.specs.Operations.{origin, inserts}
use Rattle.woot.specs.Ranges.{within, site_number, site_in_range, in_range}
use Rattle.woot.specs.State.{State}
use Rattle.woot.specs.Placing.{held, above}
use Rattle.woot.specs.Pending.{executable, crossed}
use Rattle.woot.specs.Form.{present_inserts, well_formed}
use Rattle.woot.specs.Calls.{document_full, receive}
use Rattle.bulk.specs.Loading.{among, free, arrivals, turnings}
use Rattle.bulk.specs.Catching.{listed_in, listing, sent, operations_for, answer_for}
use Rattle.woot.specs.Histories.{receiving, outcome}
use Rattle.convergence.specs.Agreement.{Grown}
use Rattle.convergence.specs.Building.{received}
use Rattle.convergence.specs.Catching.{AnswerIs, AnswerInserts, SpaceCounts, AnswerToggles, Grew, BegunGrew}
use Rattle.convergence.specs.Catching.{AskerKept, OneMeaningAsked}
use Rattle.convergence.specs.Catching.{Space, DoneOrKnown, NoneWaits, HoldsAll, CatchingUp}
use Rattle.convergence.proofs.Places.{Holding, is-begin, is-character, is-end, holding, held-begin, held-end}
use Rattle.convergence.proofs.Places.{held-id}
use Rattle.convergence.proofs.Characters.{same-character, id_in_range}
use Rattle.convergence.proofs.Ranges.{origin_ranged, toggles_ranged, to_toggle_range}
use Rattle.convergence.proofs.Sorting.{previous-held, next-held}
use Rattle.convergence.proofs.Agreement.{agreement_held}
use Rattle.convergence.proofs.Forms.{formed, known-length, known-ids}
use Rattle.convergence.proofs.Soundness.{standing}
use Rattle.convergence.proofs.Kept.{form_kept}
use Rattle.convergence.proofs.Unique.{Consistent, between_neighbours, one-meaning-of}
use Rattle.convergence.proofs.Progress.{Progress, progress_none, progress_on, progress_held, progress_above}
use Rattle.convergence.proofs.Progress.{Settled, settled-later}
use Rattle.convergence.proofs.Heap.{listed-insert}
use Rattle.convergence.proofs.Receiving.{Said, Taken, taken}
use Rattle.convergence.proofs.Sequences.{Of, of_unconflicting, of-later, received-append}
use Rattle.convergence.proofs.Peeling.{among_member, member_among}
use Rattle.convergence.proofs.Arrivals.{turn, insert-eq, toggle_eq, arrivals_alone, arrival, turning}
use Rattle.convergence.proofs.Arrivals.{turned_in, turnings-are, origin_arrives, arrived_origin}
use Rattle.convergence.proofs.Grown.{grown-run, grown-throughout}
use Rattle.convergence.proofs.Loading.{form_run}
use Rattle.convergence.proofs.Marking.{listed_exactly}
use Rattle.convergence.proofs.Sequencing.{distinct-one, EachFree, each_free, sent-sequence, sent-are}

-- ---- replicas of histories

pub begun-grew : BegunGrew
begun-grew b f cs = record { form = form_run _ cs f; grown = grown-throughout b cs }

pub asker_kept : AskerKept
unfolding outcome
asker_kept s [] g = g
asker_kept s (o ∷ os) g =
    asker_kept (receive s o).state os
    (record {
      form = form_kept s (receiving o) g.form;
      grown = grown-run s (receiving o ∷ []) g.grown;
    })

-- ---- what is said of the answers

known-answer : (cs : List Character) (o : Operation) (a : Answer) → crossed cs o ≡ false → Said cs o a → DoneOrKnown a
known-answer cs o (Done n m) x s = tt
known-answer cs o Duplicate x s = tt
known-answer cs o Deferred x s = s
known-answer cs o (Refused r) x s = clash s x

none-waits-append : (s : State) (os ps : List Operation) → NoneWaits s os → NoneWaits (received s os) ps
    → NoneWaits s (os ++ ps)
none-waits-append s [] ps f h = h
none-waits-append s (o ∷ os) ps f h = (f.0, none-waits-append (receive s o).state os ps f.1 h)

-- ---- step by step

module _ (heap : List Operation) where
  -- each operation takes the characters further by operations of the heap
  abbrev pub Advances : State → List Operation → Type 0
  Advances s [] = Unit
  Advances s (o ∷ os) =
      Progress heap s.characters (receive s o).state.characters × Advances (receive s o).state os

  advances_append : (s : State) (os ps : List Operation) → Advances s os → Advances (received s os) ps
      → Advances s (os ++ ps)
  advances_append s [] ps a b = b
  advances_append s (o ∷ os) ps a b = (a.0, advances_append (receive s o).state os ps a.1 b)

  -- as far as some of them
  pub advances_part : (s : State) (os ps : List Operation) → Advances s (os ++ ps) → Advances s os
  advances_part s [] ps a = tt
  advances_part s (o ∷ os) ps a = (a.0, advances_part (receive s o).state os ps a.1)

  -- all in all
  pub advanced : (s : State) (os : List Operation) → Grew s → Advances s os
      → Progress heap s.characters (received s os).characters
  advanced s [] g a = progress_none heap g.grown.standing
  advanced s (o ∷ os) g a =
      progress_on a.0 (advanced (receive s o).state os (asker_kept s (o ∷ []) g) a.1)

-- ---- one after another, with all operations that the two have as a heap

-- a character of the other whose insert is among these is held there under its identifier
held-origin : (cs : List Character) (d : Character) → Memᴰ (origin d) (map origin cs) → held cs d.id ≡ true
unfolding origin
held-origin cs d m =
    let w = Memᴰ.of_map origin cs m in
    subst (λ (x : Identifier). held cs x ≡ true) (ap (λ (i : Insert). i.id) w.2) (held-id cs w.1)

module _ (heap : List Operation) (c : Consistent heap) (r : every in_range heap ≡ true) (ds : List Character)
    (g : Grown ds) (theirs : (i : Insert) → Memᴰ i (map origin ds) → Memᴰ (insert i) heap) where
  -- what holds of the asker between two of the inserts sent, with these left
  pub record Between (s : State) (left : List Character) : Type 0 where
    pub form : well_formed s ≡ true
    pub grown : Grown s.characters
    pub of : Of heap s
    pub room : length s.characters + length (inserts s.pending) + length left ≤ capacity
    pub have : (d : Character) → Memᴰ d ds
        → Memᴰ d left ⊎ Memᴰ (origin d) (map origin s.characters)

  between-grew : {s : State} {left : List Character} → Between s left → Grew s
  between-grew b = record { form = b.form; grown = b.grown }

  -- what the other holds and is not left is held
  there : (s : State) (left : List Character) → Between s left → (x : Identifier) → held ds x ≡ true
      → among left x ≡ false → held s.characters x ≡ true
  there s left b x h n = go (holding ds x h)
    where
      Held : Identifier → Type 0
      Held y = held s.characters y ≡ true

      go : Holding ds x → Held x
      go (is-begin e) = subst Held (sym e) (held-begin s.characters)
      go (is-end e) = subst Held (sym e) (held-end s.characters)
      go (is-character d m e) =
          ⊎_elim (λ k. clash (subst (λ (y : Identifier). among left y ≡ true) (sym e) (member_among k)) n)
          (λ k. subst Held (sym e) (held-origin s.characters d k))
          (b.have d m)

  -- an insert whose neighbours are in their order at the other has them so here
  straight : (s : State) (left : List Character) → Between s left → (d : Character) → Memᴰ d ds
      → held s.characters d.previous ≡ true → held s.characters d.next ≡ true
      → above s.characters d.previous d.next ≡ true
  straight s left b d m p q =
      agreement_held s.characters ds b.grown g (one-meaning-of heap c b.of.characters theirs) d.previous
      d.next p q (previous-held ds g.standing m) (next-held ds g.standing m)
      ∙ between_neighbours g m

  record Stepped (s : State) (d : Character) (left : List Character) : Type 0 where
    after : Between (receive s (insert (origin d))).state left
    fine : DoneOrKnown (receive s (insert (origin d))).answer
    progress : Progress heap s.characters (receive s (insert (origin d))).state.characters

  -- the insert of d, which is free among those that are left
  stepped : (s : State) (d : Character) (left : List Character) → Between s (d ∷ left) → free (d ∷ left) d ≡ true
      → Memᴰ d ds → Stepped s d left
  unfolding origin executable crossed free outcome document_full
  stepped s d left b f m =
      record {
        after =
            record {
              form = form_kept s (receiving o) b.form;
              grown = t.grown;
              of = of-later heap s o b.of t;
              room = omega (arith, t.present, b.room);
              have = λ e k. had e (b.have e k);
            };
        fine = known-answer s.characters o (receive s o).answer uncrossed t.said;
        progress = t.progress;
      }
    where
      o : Operation
      o = insert (origin d)

      gone : (not (among (d ∷ left) d.previous) ≡ true) × (not (among (d ∷ left) d.next) ≡ true)
      gone = (and_left_lem _ (not (among (d ∷ left) d.next)) f, and_right (not (among (d ∷ left) d.previous)) _ f)

      up : held s.characters d.previous ≡ true
      up =
          there s (d ∷ left) b d.previous (previous-held ds g.standing m)
          (not-true (among (d ∷ left) d.previous) gone.0)

      low : held s.characters d.next ≡ true
      low =
          there s (d ∷ left) b d.next (next-held ds g.standing m)
          (not-true (among (d ∷ left) d.next) gone.1)

      ordered : above s.characters d.previous d.next ≡ true
      ordered = straight s (d ∷ left) b d m up low

      uncrossed : crossed s.characters o ≡ false
      uncrossed = rw (up, low, ordered)

      mine : Memᴰ o heap
      mine = theirs (origin d) (Memᴰ.map origin m)

      space : document_full s o ≡ false
      space =
          fails (leb capacity (length (present_inserts s)))
          (λ e. omega (arith, leb-true capacity (length (present_inserts s)) e, known-length s, b.room))

      t : Taken heap s o (receive s o)
      t =
          taken heap s o b.grown b.form (every_member in_range r mine)
          (of_unconflicting heap c s b.of o mine) (and_intro up low) (λ e. space) mine b.of.pending

      arrived : Memᴰ (origin d) (map origin (receive s o).state.characters)
      arrived =
          ⊎_elim (λ k. k)
          (λ k. clash
          (sym (progress_above t.progress b.grown t.grown d.previous d.next up low) ∙ ordered) k.2)
          t.settled

      after : List Character
      after = (receive s o).state.characters

      had : (e : Character) → Memᴰ e (d ∷ left) ⊎ Memᴰ (origin e) (map origin s.characters)
          → Memᴰ e left ⊎ Memᴰ (origin e) (map origin after)
      had e (inl n) =
          ⊎_elim (λ q. inr (subst (λ (x : Character). Memᴰ (origin x) (map origin after)) (sym q) arrived))
          (λ q. inl q) (Memᴰ.cases_cons n)
      had e (inr n) = inr (t.progress.kept (origin e) n)

  -- all the inserts
  record Inserted (s : State) (os : List Operation) : Type 0 where
    after : Between (received s os) []
    fine : NoneWaits s os
    advances : Advances heap s os

  all_inserted : (left : List Character) (s : State) → Between s left → EachFree left
      → ((d : Character) → Memᴰ d left → Memᴰ d ds) → Inserted s (arrivals left)
  all_inserted [] s b o f = record { after = b; fine = tt; advances = tt }
  all_inserted (d ∷ left) s b o f =
      let y = stepped s d left b o.0 (f d (Memᴰ.head refl)) in
      let z =
      all_inserted left (receive s (insert (origin d))).state y.after o.1 (λ e m. f e (Memᴰ.tail m))
      in
      record { after = z.after; fine = (y.fine, z.fine); advances = (y.progress, z.advances) }

  -- ---- the toggles

  -- a toggle of a character that is held
  record Turned (s : State) (o : Operation) : Type 0 where
    after : Between (receive s o).state []
    fine : DoneOrKnown (receive s o).answer
    progress : Progress heap s.characters (receive s o).state.characters
    settled : Settled (receive s o).state.characters o

  turned : (s : State) (t : Toggle) → Between s [] → Memᴰ (toggle t) heap → held s.characters t.target ≡ true
      → Turned s (toggle t)
  unfolding executable crossed outcome document_full
  turned s t b m h =
      let form = form_kept s (receiving (toggle t)) b.form in
      let k =
      taken heap s (toggle t) b.grown b.form (every_member in_range r m)
      (of_unconflicting heap c s b.of (toggle t) m) h (λ e. refl) m b.of.pending
      in
      record {
        after =
            record {
              form = form;
              grown = k.grown;
              of = of-later heap s (toggle t) b.of k;
              room = omega (arith, (formed (receive s (toggle t)).state form).sound.room);
              have = λ e n. ⊎_elim (λ q. inl q) (λ q. inr (k.progress.kept (origin e) q)) (b.have e n);
            };
        fine = known-answer s.characters (toggle t) (receive s (toggle t)).answer refl k.said;
        progress = k.progress;
        settled = k.settled;
      }

  -- a toggle of the heap, of something that is held
  abbrev Turnable : State → Operation → Type 0
  Turnable s o =
      (t : Toggle) × (o ≡ toggle t) × Memᴰ (toggle t) heap × (held s.characters t.target ≡ true)

  record Toggled (s : State) (os : List Operation) : Type 0 where
    after : Between (received s os) []
    fine : NoneWaits s os
    advances : Advances heap s os
    settled : (o : Operation) → Memᴰ o os → Settled (received s os).characters o

  all-toggled : (os : List Operation) (s : State) → Between s []
      → ((o : Operation) → Memᴰ o os → Turnable s o) → Toggled s os
  all-toggled [] s b f =
      record {
        after = b;
        fine = tt;
        advances = tt;
        settled = λ o m. absurd (Memᴰ.not-nil m);
      }
  all-toggled (o ∷ os) s b f =
      let w = f o (Memᴰ.head refl) in
      let y : Turned s o = subst (Turned s) (sym w.1) (turned s w.0 b w.2 w.3) in
      let z =
      all-toggled os (receive s o).state y.after (λ p m. let v = f p (Memᴰ.tail m) in
      (v.0, v.1, v.2, progress_held y.progress v.0.target v.3))
      in
      record {
        after = z.after;
        fine = (y.fine, z.fine);
        advances = (y.progress, z.advances);
        settled = λ p m. ⊎_elim (λ k. subst (Settled (received (receive s o).state os).characters) (sym k)
            (settled-later (advanced heap (receive s o).state os (between-grew y.after) z.advances)
            y.after.grown z.after.grown o y.settled))
            (λ k. z.settled p k) (Memᴰ.cases_cons m);
      }

  -- ---- the whole answer

  pub record Caught (s : State) (os : List Operation) : Type 0 where
    pub after : Between (received s os) []
    pub fine : NoneWaits s os
    pub advances : Advances heap s os
    pub holds : HoldsAll (received s os).characters ds

  caught : (n : ℕ) (left : List Character) (s : State) → Between s left → EachFree left
      → ((d : Character) → Memᴰ d left → Memᴰ d ds)
      → ((o : Operation) → Memᴰ o (turnings n ds) → Memᴰ o heap) → Caught s (arrivals left ++ turnings n ds)
  unfolding origin
  caught n left s b o f own =
      subst (λ (t : State). (Between t [] × HoldsAll t.characters ds)
      → Caught s (arrivals left ++ turnings n ds)) (received-append s (arrivals left) (turnings n ds))
      (λ w. record {
        after = w.0;
        fine = none-waits-append s (arrivals left) (turnings n ds) x.fine y.fine;
        advances = advances_append heap s (arrivals left) (turnings n ds) x.advances y.advances;
        holds = w.1;
      })
      (y.after, holding-all)
    where
      x : Inserted s (arrivals left)
      x = all_inserted left s b o f

      mid : State
      mid = received s (arrivals left)

      here : (d : Character) → Memᴰ d ds → Memᴰ (origin d) (map origin mid.characters)
      here d m = ⊎_elim (λ k. absurd (Memᴰ.not-nil k)) (λ k. k) (x.after.have d m)

      turnable : (p : Operation) → Memᴰ p (turnings n ds) → Turnable mid p
      turnable p m =
          let w = turning n ds m in (
            turn n w.0,
            w.2,
            subst (λ (q : Operation). Memᴰ q heap) w.2 (own p m),
            held-origin mid.characters w.0 (here w.0 w.1),
          )

      y : Toggled mid (turnings n ds)
      y = all-toggled (turnings n ds) mid x.after turnable

      holding-all : HoldsAll (received mid (turnings n ds)).characters ds
      holding-all d m =
          let es = (received mid (turnings n ds)).characters in
          let p = advanced heap mid (turnings n ds) (between-grew x.after) y.advances in
          let w = Memᴰ.of_map origin es (p.kept (origin d) (here d m)) in
          let e : w.0.id ≡ d.id = ap (λ (i : Insert). i.id) w.2 in (
            w.0,
            w.1,
            w.2,
            ⊎_elim (λ z. omega (arith, z))
                (λ k. let v = y.settled (toggle (turn n d)) k in
                let one = same-character es y.after.grown.standing v.1 w.1 (sym v.2 ∙ sym e) in
                omega (arith, v.3, ap (λ (q : Character). q.toggles) one)) (turned_in n ds m),
          )

-- ---- the two replicas

-- the answer goes by what is held
pub answer-alike : (s t : State) → well_formed s ≡ true
    → answer_for t (listing s) ≡ operations_for (among s.characters) t
unfolding answer_for
answer-alike s t f = ap (λ (p : Identifier → Bool). operations_for p t) (fun_ext (listed_exactly s f).2)

module _ (s : State) (n : ℕ) (ds : List Character) (a : Grew s) (site : site_number n ≡ true) (g : Grown ds)
    (one : OneMeaningAsked s ds) where
  -- what the other has and sends, and what the asker has
  unfoldable pub pool : List Operation
  pool = (arrivals ds ++ turnings n ds) ++ (arrivals s.characters ++ s.pending)

  -- an insert is the other's, or the asker's
  pub whose : (i : Insert) → Memᴰ (insert i) pool → Memᴰ i (map origin ds) ⊎ Memᴰ i (present_inserts s)
  unfolding pool present_inserts
  whose i m =
      ⊎_elim (λ k. inl (arrived_origin n ds i k))
      (λ k. inr (⊎_elim (λ l. let w = arrival s.characters l in
      Memᴰ.append_left (inserts s.pending) (subst (λ (j : Insert). Memᴰ j (map origin s.characters))
      (insert-eq w.2) (Memᴰ.map origin w.1)))
      (λ l. Memᴰ.append_right (map origin s.characters) (listed-insert s.pending l))
      (Memᴰ.append_cases (arrivals s.characters) k)))
      (Memᴰ.append_cases (arrivals ds ++ turnings n ds) m)

  ids-distinct : distinct same (map (λ i. i.id) (present_inserts s)) ≡ true
  ids-distinct = subst (λ xs. distinct same xs ≡ true) (sym (known-ids s)) (formed s a.form).sound.apart

  pub consistent : Consistent pool
  unfolding origin
  consistent i j m k e = go (whose i m) (whose j k)
    where
      both : (i j : Insert) → Memᴰ i (map origin ds) → Memᴰ j (present_inserts s) → i.id ≡ j.id → i ≡ j
      both i j p q e =
          let w = Memᴰ.of_map origin ds p in
          sym (one j w.0 q w.1 (sym e ∙ sym (ap (λ (l : Insert). l.id) w.2)) ∙ w.2)

      go : Memᴰ i (map origin ds) ⊎ Memᴰ i (present_inserts s)
          → Memᴰ j (map origin ds) ⊎ Memᴰ j (present_inserts s) → i ≡ j
      go (inl p) (inl q) =
          let v = Memᴰ.of_map origin ds p in
          let w = Memᴰ.of_map origin ds q in
          let ids = ap (λ (l : Insert). l.id) v.2 ∙ e ∙ sym (ap (λ (l : Insert). l.id) w.2) in
          sym v.2 ∙ ap origin (same-character ds g.standing v.1 w.1 ids) ∙ w.2
      go (inl p) (inr q) = both i j p q e
      go (inr p) (inl q) = sym (both j i q p (sym e))
      go (inr p) (inr q) = distinct-one (λ i. i.id) (present_inserts s) ids-distinct p q e

  pub ranged : every in_range pool ≡ true
  unfolding pool in_range
  ranged =
      member_every in_range pool (λ o m. ⊎_elim
      (λ k. ⊎_elim (arrived ds g o) (turned o) (Memᴰ.append_cases (arrivals ds) k))
      (λ k. ⊎_elim (arrived s.characters a.grown o)
      (λ l. every_member in_range (formed s a.form).sound.pending-ranges l)
      (Memᴰ.append_cases (arrivals s.characters) k))
      (Memᴰ.append_cases (arrivals ds ++ turnings n ds) m))
    where
      arrived : (es : List Character) → Grown es → (o : Operation) → Memᴰ o (arrivals es) → in_range o ≡ true
      arrived es h o m =
          let w = arrival es m in
          subst (λ (p : Operation). in_range p ≡ true) w.2
          (origin_ranged w.0 (h.standing.ranges w.0 w.1))

      turned : (o : Operation) → Memᴰ o (turnings n ds) → in_range o ≡ true
      turned o m =
          let w = turning n ds m in
          subst (λ (p : Operation). in_range p ≡ true) (sym w.2)
          (to_toggle_range (turn n w.0)
          (record {
            sender = site;
            target = id_in_range ds g.standing w.1;
            least = w.3;
            most = toggles_ranged w.0 (g.standing.ranges w.0 w.1);
          }))

  pub theirs : (i : Insert) → Memᴰ i (map origin ds) → Memᴰ (insert i) pool
  unfolding pool
  theirs i m =
      Memᴰ.append_left (arrivals s.characters ++ s.pending)
      (Memᴰ.append_left (turnings n ds) (origin_arrives ds i m))

  ours : Of pool s
  unfolding pool
  ours =
      record {
        characters = λ i m. Memᴰ.append_right (arrivals ds ++ turnings n ds)
            (Memᴰ.append_left s.pending (origin_arrives s.characters i m));
        pending =
            λ o m. Memᴰ.append_right (arrivals ds ++ turnings n ds) (Memᴰ.append_right (arrivals s.characters) m);
      }

  toggled : (o : Operation) → Memᴰ o (turnings n ds) → Memᴰ o pool
  unfolding pool
  toggled o m = Memᴰ.append_left (arrivals s.characters ++ s.pending) (Memᴰ.append_right (arrivals ds) m)

  module _ (room : length (present_inserts s) + length (sent (among s.characters) ds) ≤ capacity) where
    left : List Character
    left = sent (among s.characters) ds

    out : (d : Character) → Memᴰ d left → Memᴰ d ds
    unfolding left
    out d m = ((sent-are (among s.characters) ds g.standing.apart d).0 m).0

    start : Between pool consistent ranged ds g theirs s left
    unfolding origin left present_inserts
    start =
        record {
          form = a.form;
          grown = a.grown;
          of = ours;
          room = omega (arith, room, known-length s);
          have = λ d m. ⊎_elim (λ k. inr (held_already d m (among_member s.characters d.id k)))
              (λ k. inl ((sent-are (among s.characters) ds g.standing.apart d).1 (m, k)))
              (either (among s.characters d.id));
        }
      where
        held_already : (d : Character) → Memᴰ d ds
            → (b : Character) × Memᴰ b s.characters × (d.id ≡ b.id)
            → Memᴰ (origin d) (map origin s.characters)
        held_already d m w =
            let e = one (origin w.0) d (Memᴰ.append_left (inserts s.pending) (Memᴰ.map origin w.1)) m
            (sym w.2) in
            subst (λ (i : Insert). Memᴰ i (map origin s.characters)) e (Memᴰ.map origin w.1)

    pub caught-up : Caught pool consistent ranged ds g theirs s
        (arrivals (sent (among s.characters) ds) ++ turnings n ds)
    unfolding left
    caught-up =
        caught pool consistent ranged ds g theirs n left s start
        (each_free ds g.births left (sent-sequence (among s.characters) ds g.standing.apart).choosing out)
        out
        toggled

pub site-number : {s : State} → Grew s → site_number s.site.number ≡ true
unfolding site_in_range
site-number {s} g =
    and_left_lem (site_number s.site.number) (within 0 last_clock s.site.clock) (formed s g.form).site

-- what the answer of t leaves s
pub asked : (s t : State) (g : Grew s) (h : Grew t) (one : OneMeaningAsked s t.characters) → Space s t
    → let n = t.site.number in
    let ds = t.characters in
    Caught (pool s n ds g (site-number h) h.grown one) (consistent s n ds g (site-number h) h.grown one)
    (ranged s n ds g (site-number h) h.grown one) ds h.grown (theirs s n ds g (site-number h) h.grown one) s
    (answer_for t (listing s))
unfolding operations_for
asked s t g h one room =
    rw (answer-alike s t g.form)
    (caught-up s t.site.number t.characters g (site-number h) h.grown one room)

pub catching_up : CatchingUp
catching_up s t g h one room = let z = asked s t g h one room in (z.fine, z.holds)

-- ---- what the answer consists of

pub answer-is : AnswerIs
unfolding answer_for operations_for
answer-is t l =
    ap (λ (os : List Operation). arrivals (sent (listed_in l.chunks) t.characters) ++ os)
    (turnings-are t.site.number t.characters)

pub answer-inserts : AnswerInserts
unfolding answer_for operations_for
answer-inserts t l =
    arrivals_alone (sent (listed_in l.chunks) t.characters) t.site.number t.characters

pub space_counts : SpaceCounts
unfolding operations_for
space_counts s t f =
    let held-sent = sent (among s.characters) t.characters in
    ap (λ (os : List Operation). length (inserts os)) (answer-alike s t f)
    ∙ ap length (arrivals_alone held-sent t.site.number t.characters) ∙ length-map held-sent origin

pub answer-toggles : AnswerToggles
unfolding answer_for operations_for
answer-toggles t l u = (to, from)
  where
    sends : List Character
    sends = sent (listed_in l.chunks) t.characters

    Whose : Type 0
    Whose = (c : Character) × Memᴰ c t.characters × (0 < c.toggles) × (u ≡ turn t.site.number c)

    to : Memᴰ (toggle u) (answer_for t l) → Whose
    to m =
        ⊎_elim (λ k. let q = (arrival sends k).2 in absurd (let z : ◌≡◌ {A = ℕ} 0 1 = cc in omega arith))
        (λ k. let w = turning t.site.number t.characters k in (w.0, w.1, w.3, toggle_eq w.2))
        (Memᴰ.append_cases (arrivals sends) m)

    from : Whose → Memᴰ (toggle u) (answer_for t l)
    from w =
        Memᴰ.append_right (arrivals sends)
        (⊎_elim (λ z. absurd (omega (arith, w.2, z)))
        (λ k. subst (λ (v : Toggle). Memᴰ (toggle v) (turnings t.site.number t.characters)) (sym w.3) k)
        (turned_in t.site.number t.characters w.1))
