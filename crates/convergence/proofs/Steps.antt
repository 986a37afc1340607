-- What a call does, as one of four steps with all that is known where it is taken: nothing, an insert carried out, a
-- toggle carried out, an operation deferred. Every theorem about calls goes by these.
use Prim.Native.Nat.{ℕ, suc, ◌+◌, ◌≤◌, ◌<◌, max}
use native.Mathlib.Omega.{arith}
use mathlib.Core.Path.{◌≡◌, refl, ap, sym, ◌∙◌, subst}
use mathlib.Core.Bool.{Bool, true, false, ◌&&◌, ◌||◌, not, cond}
use mathlib.Core.Option.{Option, none, some}
use mathlib.Core.Logic.{◌⊎◌, ⊎_elim}
use mathlib.Core.List.Memᴰ
use mathlib.Core.List.{List, [], ◌∷◌, ◌++◌, map, Memᴰ}
use lib.Dec.{leb, ltb, eqb}
use lib.ListN.{length}
use borrow.Author.Tests.{leb-false, ltb-false, not-false, eq-eqb}
use Rattle.woot.specs.declared.Identifier.{Identifier}
use Rattle.woot.specs.declared.Site.{Site}
use Rattle.woot.specs.declared.Insert.{Insert}
use Rattle.woot.specs.declared.Toggle.{Toggle}
use Rattle.woot.specs.declared.Operation.{Operation}
use Rattle.woot.specs.declared.Operation.TheVariants.{Insert as insert, Toggle as toggle}
use Rattle.woot.specs.declared.Character.{Character}
use Rattle.answers.specs.declared.Refusal.TheVariants.{Position}
use Rattle.answers.specs.declared.Answer.{Answer}
use Rattle.answers.specs.declared.Answer.TheVariants.{Done, Deferred, Duplicate, Refused}
use Rattle.woot.specs.Limits.{last_clock, capacity, share}
use Rattle.woot.specs.Identifiers.{begin, end, same}
use Rattle.woot.specs.Operations.{sender, origin, inserts, toggles_among, same_insert, same_toggle, same_operation}
use Rattle.woot.specs.Ranges
use Rattle.woot.specs.Ranges.{site_number, is_code_point, character_id, previous_id, next_id, site_in_range, insert_in_range, toggle_in_range, in_range}
use Rattle.woot.specs.State.{State}
use Rattle.woot.specs.Placing.{identifiers, held, integrate_insert}
use Rattle.woot.specs.Pending.{executable, crossed, unplaceable, pending_from, Drained}
use Rattle.woot.specs.Clock.{own_insert, heard, heard_all}
use Rattle.woot.specs.Form.{present_inserts, well_formed}
use Rattle.answers.specs.Answers.{Check, first, NoneHolds, decided}
use Rattle.woot.specs.Sending.{answer_of}
use Rattle.woot.specs.Calls.{Outcome, unchanged, after_drain, insert_carried, duplicate, conflicting, sender_full, document_full, receive_checks, carry_out, defer, accept, receive_when, receive, visibles, next_identifier, generated_insert, beyond_visible, identifier_taken, insert_checks, send_insert, local_insert_when, local_insert, generated_toggle, delete_checks, generated_delete, send_toggle, local_delete_when, local_delete, restore_checks, local_restore_when, local_restore}
use Rattle.woot.specs.Cursor.{left_of, receive_at_checks, receive_at}
use Rattle.woot.specs.Histories.{Call, inserting, deleting, restoring, receiving, receiving_at, with_answer, outcome}
use Rattle.lists.specs.Lists.{any, every}
use Rattle.lists.proofs.Tests.{clash, and_left_lem, and_intro, and-false, or_left, or_right, or-false-left, or-false-right, not-intro, fails}
use Rattle.lists.proofs.Members.{any_none, none_any, every_member}
use Rattle.convergence.specs.Invariants.{pending_ids, Made}
use Rattle.convergence.proofs.Forms.{Formed, formed, known-ids, known-length}
use Rattle.convergence.specs.Agreement.{Standing}
use Rattle.convergence.proofs.Identifiers.{eq-same, ne_same}
use Rattle.convergence.proofs.Ranges.{InRange, to-range, to-within, no_mark}
use Rattle.convergence.proofs.Places.{held-begin, held-end}
use Rattle.convergence.proofs.InsertionPoint.{Marked, mark, inner, right_of, left-marked, right-marked, marked-held, left-above, member_range}
use Rattle.convergence.proofs.Toggles.{delete_ranged, delete_ready, restore_ranged, restore_ready}
use Rattle.convergence.proofs.Clocks.{reaches, reaches_clock, heard_reaches, heard-keeps-all, heard-all-still}
use Rattle.convergence.proofs.Drains.{Draining, draining}
use Rattle.convergence.proofs.Draining.{in_every, integrated_every}
use Rattle.convergence.proofs.Soundness.{Unused, standing, any_left}
use Rattle.convergence.proofs.Pointing.{receive-at_else}
use Rattle.std.proofs.Common.{Ok, Err}
use Rattle.woot.specs.Sent.{Sending}

-- an answer by which nothing is changed
abbrev pub Turned : Answer → Type 0
Turned (Done n m) = ⊥
Turned Deferred = ⊥
Turned Duplicate = Unit
Turned (Refused r) = Unit

-- an insert that is carried out
pub record Addable (s : State) (i : Insert) : Type 0 where
  pub formed : Formed s
  pub ranged : insert_in_range i ≡ true
  pub fresh : any (same i.id) (identifiers s.characters ++ pending_ids s.pending) ≡ false
  pub space : length s.characters + length (inserts s.pending) < capacity
  pub ready : executable s.characters (insert i) ≡ true
  pub uncrossed : crossed s.characters (insert i) ≡ false
  pub placeable : unplaceable s.characters (insert i) ≡ false

-- a toggle that is carried out
pub record Raisable (s : State) (d : Toggle) : Type 0 where
  pub formed : Formed s
  pub ranged : toggle_in_range d ≡ true
  pub ready : held s.characters d.target ≡ true

-- an operation that is deferred
pub record Deferrable (s : State) (o : Operation) : Type 0 where
  pub formed : Formed s
  pub ranged : in_range o ≡ true
  pub unready : executable s.characters o ≡ false
  pub space : pending_from (sender o) s.pending < share
  pub unused : Unused s.characters s.pending o

-- an insert carried out, with what it releases, and with the site as it is afterwards
abbrev pub added : State → Site → Insert → Outcome Answer
added s t i =
    let d : Drained = insert_carried s i in
    record {
      answer = Done (suc (length d.integrated)) (length d.discarded);
      state = record { site = t; characters = d.characters; pending = d.pending };
      own = insert i ∷ [];
      drained = d.integrated;
      discarded = d.discarded;
    }

pub data Step (s : State) : Outcome Answer → Type 0 where
  turned : (a : Answer) → Turned a → Step s (unchanged s a)
  adds : (i : Insert) → Addable s i → Step s (added s (heard s.site i) i)
  raises : (d : Toggle) → Raisable s d → Step s (carry_out Done s (toggle d))
  defers : (o : Operation) → Deferrable s o → Step s (defer s o)

-- ---- the clock

-- the draining that follows an insert
pub after-insert : (s : State) (i : Insert) → Draining (integrate_insert s.characters i) s.pending (insert_carried s i)
unfolding insert_carried
after-insert s i = draining (integrate_insert s.characters i) s.pending

-- with an insert in its place, a clock that has heard it reaches all that is present
pub in_reached : (s : State) (i : Insert) → Addable s i → every (reaches (heard s.site i)) (identifiers (integrate_insert s.characters i) ++ pending_ids s.pending) ≡ true
in_reached s i a =
    in_every (reaches (heard s.site i)) s.characters s.pending i a.ready a.uncrossed a.placeable
    (heard_reaches s.site i)
    (heard-keeps-all s.site i (identifiers s.characters ++ pending_ids s.pending) a.formed.reached)

-- so that what is drained after it raises nothing
pub drained-still : (s : State) (i : Insert) → Addable s i → heard_all s.site (i ∷ inserts (insert_carried s i).integrated) ≡ heard s.site i
drained-still s i a =
    heard-all-still (heard s.site i) (inserts (insert_carried s i).integrated)
    (integrated_every (reaches (heard s.site i)) (after-insert s i) (in_reached s i a))

-- what is carried out, with the clock as it is then
drained_added : (s : State) (i : Insert) → Addable s i → Step s (added s (heard_all s.site (i ∷ inserts (insert_carried s i).integrated)) i)
drained_added s i a = subst (λ (t : Site). Step s (added s t i)) (sym (drained-still s i a)) (adds i a)

module _ {A : Type 0} where
  pub first-none : (cs : List (Check A)) → first cs ≡ none → NoneHolds cs
  first-none [] h = tt
  first-none (c ∷ cs) h = go c.holds refl (first-none cs)
    where
      go : (b : Bool) → c.holds ≡ b → (first cs ≡ none → NoneHolds cs) → (c.holds ≡ false) × NoneHolds cs
      go true e f = absurd (let q = rw e at h in let z : ◌≡◌ {A = ℕ} 0 1 = cc in omega arith)
      go false e f = (e, f (rw e at h))

  -- every answer of the list has a property
  abbrev pub All : (A → Type 0) → List (Check A) → Type 0
  All P [] = Unit
  All P (c ∷ cs) = P c.answer × All P cs

  pub first_some : (P : A → Type 0) (cs : List (Check A)) → All P cs → (a : A) → first cs ≡ some a → P a
  first_some P [] w a h = absurd (let z : ◌≡◌ {A = ℕ} 0 1 = cc in omega arith)
  first_some P (c ∷ cs) w a h = go c.holds refl (first_some P cs w.1 a)
    where
      go : (b : Bool) → c.holds ≡ b → (first cs ≡ some a → P a) → P a
      go true e f = subst P (let q = rw e at h in cc) w.0
      go false e f = f (rw e at h)

-- ---- known operations

member_map : {A B : Type 0} (f : A → B) (xs : List A) {y : B} → Memᴰ y (map f xs) → (x : A) × Memᴰ x xs × (y ≡ f x)
member_map {A = A} {B = B} f [] {y = y} x' = elim x' [ ]
member_map f (x ∷ xs) (Memᴰ.head e) = (x, Memᴰ.head refl, e)
member_map f (x ∷ xs) (Memᴰ.tail m) = let w = member_map f xs m in (w.0, Memᴰ.tail w.1, w.2)

inserts_member : (ps : List Operation) {i : Insert} → Memᴰ i (inserts ps) → Memᴰ (insert i) ps
inserts_member [] {i = i} m = elim m [ ]
inserts_member (insert j ∷ ps) (Memᴰ.head e) = Memᴰ.head (ap insert e)
inserts_member (insert j ∷ ps) (Memᴰ.tail m) = Memᴰ.tail (inserts_member ps m)
inserts_member (toggle d ∷ ps) m = Memᴰ.tail (inserts_member ps m)

pub any-inserts : (i : Insert) (ps : List Operation) → any (same_insert i) (inserts ps) ≡ any (same_operation (insert i)) ps
unfolding same_operation
any-inserts i [] = refl
any-inserts i (insert j ∷ ps) = ap (λ b. same_insert i j || b) (any-inserts i ps)
any-inserts i (toggle d ∷ ps) = any-inserts i ps

pub any-toggles : (d : Toggle) (ps : List Operation) → any (same_toggle d) (toggles_among ps) ≡ any (same_operation (toggle d)) ps
unfolding same_operation
any-toggles d [] = refl
any-toggles d (insert j ∷ ps) = any-toggles d ps
any-toggles d (toggle e ∷ ps) = ap (λ b. same_toggle d e || b) (any-toggles d ps)

-- an insert that is neither known nor in conflict has an identifier that is not used
pub fresh_insert : (s : State) (i : Insert) → duplicate s (insert i) ≡ false → conflicting s (insert i) ≡ false → any (same i.id) (identifiers s.characters ++ pending_ids s.pending) ≡ false
unfolding duplicate conflicting present_inserts same_operation
fresh_insert s i new sole =
    subst (λ (xs : List Identifier). any (same i.id) xs ≡ false) (known-ids s)
    (none_any (same i.id) (map (λ j. j.id) (present_inserts s)) (λ x m.
    let w = member_map (λ j. j.id) (present_inserts s) m in
    ap (same i.id) w.2 ∙ fails (same i.id w.0.id) (λ e. absurd (twice w.0 w.1 e))))
  where
    present : any (λ c. same_insert i (origin c)) s.characters ≡ false
    present = or-false-left (any (λ c. same_insert i (origin c)) s.characters) (any (same_operation (insert i)) s.pending) new

    deferred : any (same_operation (insert i)) s.pending ≡ false
    deferred = or-false-right (any (λ c. same_insert i (origin c)) s.characters) (any (same_operation (insert i)) s.pending) new

    unequal : (j : Insert) → Memᴰ j (present_inserts s) → same_insert i j ≡ false
    unequal j m =
        ⊎_elim (λ k. let w = member_map origin s.characters k in ap (same_insert i) w.2 ∙ any_none (λ c. same_insert i (origin c)) present w.1) (λ k. any_none (same_operation (insert i)) deferred (inserts_member s.pending k))
        (Memᴰ.append_cases (map origin s.characters) m)

    twice : (j : Insert) → Memᴰ j (present_inserts s) → same i.id j.id ≡ true → ⊥
    twice j m e = clash (not-false (same_insert i j) (and-false (same i.id j.id) (not (same_insert i j)) (any_none (λ j. same i.id j.id && not (same_insert i j)) sole m) e)) (unequal j m)

-- ---- receiving

pub space_insert : (s : State) (i : Insert) → document_full s (insert i) ≡ false → length s.characters + length (inserts s.pending) < capacity
unfolding document_full
space_insert s i h = omega (arith, leb-false capacity (length (present_inserts s)) h, known-length s)

pub unused : (s : State) (o : Operation) → duplicate s o ≡ false → conflicting s o ≡ false → document_full s o ≡ false → Unused s.characters s.pending o
unfolding duplicate
unused s (insert i) new sole space = (fresh_insert s i new sole, space_insert s i space)
unused s (toggle d) new sole space =
    any-toggles d s.pending
    ∙ or-false-right (any (λ c. same d.target c.id && leb d.toggles c.toggles) s.characters) (any (same_operation (toggle d)) s.pending) new

carried_step : (s : State) (o : Operation) → Formed s → in_range o ≡ true → Unused s.characters s.pending o → executable s.characters o ≡ true → crossed s.characters o ≡ false → unplaceable s.characters o ≡ false → Step s (carry_out Done s o)
unfolding carry_out after_drain in_range executable
carried_step s (insert i) f r u e x p =
    drained_added s i (record { formed = f; ranged = r; fresh = u.0; space = u.1; ready = e; uncrossed = x; placeable = p })
carried_step s (toggle d) f r u e x p = raises d (record { formed = f; ranged = r; ready = e })

accept-step : (s : State) (o : Operation) → NoneHolds (receive_checks (well_formed s) s o) → Step s (accept s o)
unfolding receive_checks accept sender_full
accept-step s o w = go (executable s.characters o) refl
  where
    form : Formed s
    form = formed s (not-false (well_formed s) w.1.0)

    free : Unused s.characters s.pending o
    free = unused s o w.1.1.0 w.1.1.1.0 w.1.1.1.1.1.1.1.0

    ranged : in_range o ≡ true
    ranged = not-false (in_range o) w.0

    share-left : executable s.characters o ≡ false → pending_from (sender o) s.pending < share
    share-left e = leb-false share (pending_from (sender o) s.pending) (and-false (not (executable s.characters o)) (leb share (pending_from (sender o) s.pending)) w.1.1.1.1.1.1.0 (not-intro e))

    go : (b : Bool) → executable s.characters o ≡ b → Step s (cond b (carry_out Done s o) (defer s o))
    go true e = carried_step s o form ranged free e w.1.1.1.1.0 w.1.1.1.1.1.0
    go false e = defers o (record { formed = form; ranged = ranged; unready = e; space = share-left e; unused = free })

pub receive-turned : (formed : Bool) (s : State) (o : Operation) → All Turned (receive_checks formed s o)
unfolding receive_checks
receive-turned formed s o = (tt, (tt, (tt, (tt, (tt, (tt, (tt, (tt, tt))))))))

pub receive-at-turned : (formed : Bool) (s : State) (o : Operation) (g : ℕ) → All Turned (receive_at_checks formed s o g)
unfolding receive_at_checks
receive-at-turned formed s o g = (tt, (tt, (tt, (tt, (tt, (tt, (tt, (tt, (tt, tt)))))))))

-- ---- typing

-- the answer of a refused call that sends
abbrev pub Refusing : Sending → Type 0
Refusing (Ok x) = ⊥
Refusing (Err r) = Unit

refusing-turned : (a : Sending) → Refusing a → Turned (answer_of a)
unfolding answer_of
refusing-turned (Ok x) w = elim w [ ]
refusing-turned (Err r) w = tt

pub insert-turned : (formed : Bool) (s : State) (g n : ℕ) → All Refusing (insert_checks formed s g n)
unfolding insert_checks
insert-turned formed s g n = (tt, (tt, (tt, (tt, (tt, (tt, (tt, tt)))))))

pub delete_turned : (formed : Bool) (s : State) (p : ℕ) → All Refusing (delete_checks formed s p)
unfolding delete_checks
delete_turned formed s p = (tt, (tt, tt))

pub restore_turned : (formed : Bool) (s : State) (x : Identifier) → All Refusing (restore_checks formed s x)
unfolding restore_checks
restore_turned formed s x = (tt, (tt, (tt, (tt, tt))))

pub any-map : {A B : Type 0} (p : B → Bool) (f : A → B) (xs : List A) → any p (map f xs) ≡ any (λ x. p (f x)) xs
any-map p f [] = refl
any-map p f (x ∷ xs) = ap (λ b. p (f x) || b) (any-map p f xs)

-- an identifier that is used by no character is other than one that may stand beside an insertion point
beside : {cs : List Character} {m y : Identifier} (x : Identifier) → same x m ≡ false → any (same x) (identifiers cs) ≡ false → Marked cs m y → same x y ≡ false
beside x apart unused (mark e) = ap (same x) e ∙ apart
beside x apart unused (inner n) = any_none (same x) unused n

-- what typing makes stands between two characters in order
pub generated_uncrossed : (s : State) (g n : ℕ) → Formed s → beyond_visible s g ≡ false → crossed s.characters (insert (generated_insert s g n)) ≡ false
unfolding generated_insert beyond_visible crossed executable
generated_uncrossed s g n f h =
    let std = standing f.sound in
    let visible : g ≤ length (visibles s.characters) = ltb-false (length (visibles s.characters)) g h in
    rw (marked-held (left-marked std g visible) (held-begin s.characters), marked-held (right-marked std g visible) (held-end s.characters), left-above std g visible)

-- the next identifier is a character's
pub next-character : (s : State) → Formed s → leb last_clock s.site.clock ≡ false → character_id (next_identifier s.site) ≡ true
unfolding next_identifier character_id site_in_range
next-character s form early =
    let low = leb-false last_clock s.site.clock early in
    and_intro (and_left_lem (site_number s.site.number) (Ranges.within 0 last_clock s.site.clock) form.site) (to-within 1 last_clock (s.site.clock + 1) (omega arith) (omega arith))

-- it is in range, and has what it needs
pub generated_made : (s : State) (g n : ℕ) → Formed s → is_code_point n ≡ true → beyond_visible s g ≡ false → leb last_clock s.site.clock ≡ false → identifier_taken s ≡ false → Made s (generated_insert s g n)
unfolding generated_insert identifier_taken beyond_visible executable crossed previous_id next_id
generated_made s g n form coded within-visible early free =
    record {
      ranged = to-range (generated_insert s g n) ranges;
      fresh = fresh;
      ready = and_intro left right;
      uncrossed = generated_uncrossed s g n form within-visible;
    }
  where
    std : Standing s.characters
    std = standing form.sound

    visible : g ≤ length (visibles s.characters)
    visible = ltb-false (length (visibles s.characters)) g within-visible

    fresh : any (same (next_identifier s.site)) (identifiers s.characters ++ pending_ids s.pending) ≡ false
    fresh = subst (λ (xs : List Identifier). any (same (next_identifier s.site)) xs ≡ false) (known-ids s) (any-map (same (next_identifier s.site)) (λ j. j.id) (present_inserts s) ∙ free)

    unused-here : any (same (next_identifier s.site)) (identifiers s.characters) ≡ false
    unused-here = any_left (same (next_identifier s.site)) (identifiers s.characters) (pending_ids s.pending) fresh

    id : character_id (next_identifier s.site) ≡ true
    id = next-character s form early

    left : held s.characters (left_of s.characters g) ≡ true
    left = marked-held (left-marked std g visible) (held-begin s.characters)

    right : held s.characters (right_of s.characters g) ≡ true
    right = marked-held (right-marked std g visible) (held-end s.characters)

    may_stand : (m : Identifier) {y : Identifier} → Marked s.characters m y → same y m || character_id y ≡ true
    may_stand m {y} (mark e) = or_left (same y m) (character_id y) (eq-same e)
    may_stand m {y} (inner k) = or_right (same y m) (character_id y) (member_range s.characters std.ranges k)

    ranges : InRange (generated_insert s g n)
    ranges =
        record {
          id = id;
          code = coded;
          previous = may_stand begin (left-marked std g visible);
          next = may_stand end (right-marked std g visible);
          not-previous = beside (next_identifier s.site) (ne_same (next_identifier s.site) begin (no_mark (next_identifier s.site) 0 id)) unused-here (left-marked std g visible);
          not-next = beside (next_identifier s.site) (ne_same (next_identifier s.site) end (no_mark (next_identifier s.site) 1 id)) unused-here (right-marked std g visible);
        }

-- ---- Req 04 of document 02: the next identifier is nobody's

next_unreached : (t : Site) (x : Identifier) → reaches t x ≡ true → same (next_identifier t) x ≡ false
unfolding next_identifier
next_unreached t x h =
    ne_same (next_identifier t) x (λ e.
    let below : x.clock ≤ t.clock = reaches_clock t x h (sym (ap (λ (y : Identifier). y.site) e)) in
    omega (arith, below, ap (λ (y : Identifier). y.clock) e))

pub formed_untaken : (s : State) → Formed s → identifier_taken s ≡ false
unfolding identifier_taken
formed_untaken s f =
    sym (any-map (same (next_identifier s.site)) (λ j. j.id) (present_inserts s))
    ∙ ap (any (same (next_identifier s.site))) (known-ids s)
    ∙ none_any (same (next_identifier s.site)) (identifiers s.characters ++ pending_ids s.pending)
    (λ x m. next_unreached s.site x (every_member (reaches s.site) f.reached m))

-- the clock that has heard what is typed here is one higher
pub typed-heard : (s : State) (g n : ℕ) → heard s.site (generated_insert s g n) ≡ record { number = s.site.number; clock = s.site.clock + 1 }
unfolding heard own_insert generated_insert next_identifier
typed-heard s g n =
    let m : max s.site.clock (s.site.clock + 1) ≡ s.site.clock + 1 = omega arith in
    rw (eq-eqb s.site.number s.site.number refl, m)

-- where every condition fails, it is carried out
pub generated_addable : (known : Bool) (s : State) (g n : ℕ) → Formed s → NoneHolds (insert_checks known s g n) → Addable s (generated_insert s g n)
unfolding insert_checks
generated_addable known s g n form w =
    let m = generated_made s g n form (not-false (is_code_point n) w.0) w.1.1.0 w.1.1.1.0 w.1.1.1.1.0 in
    record {
      formed = form;
      ranged = m.ranged;
      fresh = m.fresh;
      space = space_insert s (generated_insert s g n) w.1.1.1.1.1.1.0;
      ready = m.ready;
      uncrossed = m.uncrossed;
      placeable = w.1.1.1.1.1.0;
    }

generated-step : (s : State) (g n : ℕ) → NoneHolds (insert_checks (well_formed s) s g n) → Addable s (generated_insert s g n)
unfolding insert_checks
generated-step s g n w = generated_addable (well_formed s) s g n (formed s (not-false (well_formed s) w.1.0)) w

-- ---- every call

insert-step : (s : State) (g n : ℕ) (m : Option Sending) → first (insert_checks (well_formed s) s g n) ≡ m → Step s (with_answer answer_of (decided (unchanged s) m (send_insert s (generated_insert s g n))))
unfolding decided unchanged send_insert carry_out insert_carried answer_of after_drain
insert-step s g n none e = drained_added s (generated_insert s g n) (generated-step s g n (first-none (insert_checks (well_formed s) s g n) e))
insert-step s g n (some a) e = turned (answer_of a) (refusing-turned a (first_some Refusing (insert_checks (well_formed s) s g n) (insert-turned (well_formed s) s g n) a e))

delete_step : (s : State) (p : ℕ) (m : Option Sending) → first (delete_checks (well_formed s) s p) ≡ m → Step s (with_answer answer_of (decided (unchanged s) m (send_toggle s (generated_delete s p))))
unfolding decided unchanged send_toggle answer_of carry_out delete_checks
delete_step s p none e =
    let w = first-none (delete_checks (well_formed s) s p) e in
    let form = formed s (not-false (well_formed s) w.0) in
    raises (generated_delete s p) (record { formed = form; ranged = delete_ranged s form p w.1.0; ready = delete_ready s form p w.1.0 })
delete_step s p (some a) e = turned (answer_of a) (refusing-turned a (first_some Refusing (delete_checks (well_formed s) s p) (delete_turned (well_formed s) s p) a e))

restore_step : (s : State) (x : Identifier) (m : Option Sending) → first (restore_checks (well_formed s) s x) ≡ m → Step s (with_answer answer_of (decided (unchanged s) m (send_toggle s (generated_toggle s x))))
unfolding decided unchanged send_toggle answer_of carry_out restore_checks
restore_step s x none e =
    let w = first-none (restore_checks (well_formed s) s x) e in
    let form = formed s (not-false (well_formed s) w.1.0) in
    raises (generated_toggle s x) (record { formed = form; ranged = restore_ranged s form x w.1.1.0 w.1.1.1.0; ready = restore_ready s form x w.1.1.0 })
restore_step s x (some a) e = turned (answer_of a) (refusing-turned a (first_some Refusing (restore_checks (well_formed s) s x) (restore_turned (well_formed s) s x) a e))

receive-step : (s : State) (o : Operation) (m : Option Answer) → first (receive_checks (well_formed s) s o) ≡ m → Step s (decided (unchanged s) m (accept s o))
unfolding decided
receive-step s o none e = accept-step s o (first-none (receive_checks (well_formed s) s o) e)
receive-step s o (some a) e = turned a (first_some Turned (receive_checks (well_formed s) s o) (receive-turned (well_formed s) s o) a e)

pub step : (s : State) (c : Call) → Step s (outcome s c)
unfolding outcome local_insert local_insert_when local_delete local_delete_when local_restore local_restore_when receive receive_when receive_at
step s (inserting g n) = insert-step s g n (first (insert_checks (well_formed s) s g n)) refl
step s (deleting p) = delete_step s p (first (delete_checks (well_formed s) s p)) refl
step s (restoring x) = restore_step s x (first (restore_checks (well_formed s) s x)) refl
step s (receiving o) = receive-step s o (first (receive_checks (well_formed s) s o)) refl
step s (receiving_at o g) =
    ⊎_elim (λ e. rw e (receive-step s o (first (receive_checks (well_formed s) s o)) refl)) (λ e. rw e (turned (Refused Position) tt))
    (receive-at_else (well_formed s) s o g)
