-- Receiving with a cursor in the steps that the code takes: the decision is made of that without a cursor, and where it
-- changes the replica the shift is counted in what came back.
use Prim.Native.Nat.{ℕ, ◌≤◌, min}
use native.Mathlib.Omega.{arith}
use mathlib.Core.Path.{◌≡◌, refl, ap, sym, ◌∙◌, subst}
use mathlib.Core.Bool.{Bool, true, false, not, cond, false≢true, true≢false}
use mathlib.Core.Logic.{⊎_elim}
use mathlib.Core.Option.{Option, none, some}
use mathlib.Core.List.{List, Memᴰ}
use lib.IntN.{ℤ, pos, sub_ℕ}
use lib.ListN.{length, take}
use lib.Seq.{take-take}
use borrow.Author.Tests.{ltb-false, not-false}
use Rattle.woot.specs.declared.Identifier.{Identifier}
use Rattle.woot.specs.declared.Operation.{Operation}
use Rattle.woot.specs.declared.Operation.TheVariants.{Insert as insert, Toggle as toggle}
use Rattle.woot.specs.declared.Character.{Character}
use Rattle.answers.specs.declared.Refusal.TheVariants.{Range, Form, Position}
use Rattle.woot.specs.declared.Replica.{Replica}
use Rattle.woot.specs.declared.ReceiptAt.{ReceiptAt}
use Rattle.woot.specs.declared.Receipt.{Receipt}
use Rattle.answers.specs.declared.Answer.{Answer}
use Rattle.answers.specs.declared.Answer.TheVariants.{Done, Deferred, Duplicate, Refused}
use Rattle.woot.specs.Identifiers.{begin}
use Rattle.woot.specs.Operations.{is_visible}
use Rattle.woot.specs.Ranges.{in_range}
use Rattle.woot.specs.State.{State}
use Rattle.woot.specs.Form.{well_formed}
use Rattle.woot.specs.Table.{keys}
use Rattle.woot.specs.Memory as memory
use Rattle.woot.specs.Memory.{identifier, toggle_counts}
use Rattle.woot.specs.Pending.{executable}
use Rattle.answers.specs.Answers.{earlier, changes, first, decided}
use Rattle.woot.specs.Calls.{Outcome, unchanged, duplicate, new_checks, receive_checks, receive_when, carry_out, defer, accept, visibles, beyond_visible}
use Rattle.woot.specs.Cursor.{left_of, visible_through, cursor_after, receive_at_checks, receive_at_when, receive_at, new_gap, shift_of}
use Rattle.woot.specs.Histories.{receiving_at, outcome}
use Rattle.woot.specs.Replicas.{after_answer, receipt, receipt_at, received, received_at}
use Rattle.lists.proofs.Tests.{either, clash}
use Rattle.lists.proofs.Members.{keep-length}
use Rattle.convergence.proofs.Steps.{All, first-none, first_some, Turned, receive-at-turned}
use Rattle.convergence.proofs.Cursors.{difference-self, turned-still}
use Rattle.convergence.proofs.Kept.{form_kept}
use Rattle.convergence.proofs.Pointing.{receive-at-same}
use Rattle.convergence.proofs.Through.{shown-visibles, visible_member, to-shown, left-shown}
use Rattle.index.specs.Keys.{Small, AllSmall}
use Rattle.memory.specs.Columns as columns
use Rattle.memory.specs.Lent.{viewed}
use Rattle.memory.proofs.Characters.{identifier-key}
use Rattle.memory.proofs.Fullness.{FullArrays, full-view}
use Rattle.memory.proofs.Views.{meaning-view, form_view}
use Rattle.well_formed.specs.Examined.{Examined}
use Rattle.well_formed.proofs.Examining as examining
use Rattle.reception.specs.declared.Decision.{Decision}
use Rattle.reception.specs.declared.Decision.TheVariants.{Answered, Defer, Place, Toggle as toggleAt}
use Rattle.reception.specs.Decisions.{outcome_of, Executed, Feasible, Judged}
use Rattle.execution.specs.Outcomes.{Left, left_by, answer_by}
use Rattle.replica.proofs.Runs.{formed-within, form_meant, form_stored, meaning-stored}
use Rattle.replica.proofs.Returning.{received_so}
use Rattle.cursor.specs.declared.Anchor.{Anchor}
use Rattle.cursor.specs.declared.Judgement.{Judgement}
use Rattle.cursor.specs.Steps.{anchor_of, answer_at, overruled, JudgedAt}
use Rattle.replica.proofs.Returning.{alike}

-- ---- the answer

-- what is done where no condition holds, and each refusal after known, gives way to 4
GivesWay : Answer → Type 0
GivesWay a = answer_at true a ≡ Refused Position

accept-gives-way : (s : State) (o : Operation) → GivesWay (accept s o).answer
unfolding GivesWay accept carry_out defer answer_at
accept-gives-way s o = go (executable s.characters o) o
  where
    go : (b : Bool) (p : Operation) → answer_at true (cond b (carry_out Done s p) (defer s p)).answer ≡ Refused Position
    go true (insert i) = refl
    go true (toggle t) = refl
    go false p = refl

new_give_way : (s : State) (o : Operation) → All GivesWay (new_checks s o)
unfolding GivesWay answer_at earlier
new_give_way s o = (refl, (refl, (refl, (refl, (refl, tt)))))

later-gives-way : (s : State) (o : Operation) (m : Option Answer) → first (new_checks s o) ≡ m → answer_at true (decided (unchanged s) m (accept s o)).answer ≡ Refused Position
unfolding decided unchanged GivesWay
later-gives-way s o none e = accept-gives-way s o
later-gives-way s o (some a) e = first_some GivesWay (new_checks s o) (new_give_way s o) a e

answer-within : (a : Answer) → answer_at false a ≡ a
unfolding answer_at
answer-within (Done n m) = refl
answer-within Deferred = refl
answer-within Duplicate = refl
answer-within (Refused q) = refl

-- the gap is looked at where the replica is in form; out of form the answer is 2 or 3, which come before 4
answered_is : (formed b : Bool) (s : State) (o : Operation) (g : ℕ) → (formed ≡ true → b ≡ beyond_visible s g)
    → answer_at b (receive_when formed s o).answer ≡ (receive_at_when formed s o g).answer
unfolding receive_when receive_at_when receive_checks receive_at_checks decided unchanged answer_at earlier
answered_is true b s o g e = rw (e refl) (go (not (in_range o)) (duplicate s o) (beyond_visible s g))
  where
    answer_of : Option Answer → Answer
    answer_of m = (decided (unchanged s) m (accept s o)).answer

    go : (a c d : Bool) →
        answer_at d (answer_of (cond a (some (Refused Range)) (cond c (some Duplicate) (first (new_checks s o)))))
        ≡ answer_of (cond a (some (Refused Range)) (cond c (some Duplicate) (cond d (some (Refused Position)) (first (new_checks s o)))))
    go true c true = refl
    go true c false = refl
    go false true true = refl
    go false true false = refl
    go false false true = later-gives-way s o (first (new_checks s o)) refl
    go false false false = answer-within (answer_of (first (new_checks s o)))
answered_is false b s o g e = go (not (in_range o)) b
  where
    answer_of : Option Answer → Answer
    answer_of m = (decided (unchanged s) m (accept s o)).answer

    go : (a d : Bool) → answer_at d (answer_of (cond a (some (Refused Range)) (some (Refused Form)))) ≡ answer_of (cond a (some (Refused Range)) (some (Refused Form)))
    go true true = refl
    go true false = refl
    go false true = refl
    go false false = refl

-- ---- the decision

accept-changes : (s : State) (o : Operation) → changes (accept s o).answer ≡ true
unfolding accept carry_out defer changes
accept-changes s o = go (executable s.characters o) o
  where
    go : (b : Bool) (p : Operation) → changes (cond b (carry_out Done s p) (defer s p)).answer ≡ true
    go true (insert i) = refl
    go true (toggle t) = refl
    go false p = refl

-- an answer by which nothing is changed leaves the state
left_alone : (formed : Bool) (s : State) (o : Operation) (g : ℕ) {a : Answer} → (receive_at_when formed s o g).answer ≡ a → changes a ≡ false
    → receive_at_when formed s o g ≡ unchanged s a
unfolding receive_at_when decided unchanged
left_alone formed s o g {a} = go (first (receive_at_checks formed s o g))
  where
    go : (m : Option Answer) → (decided (unchanged s) m (accept s o)).answer ≡ a → changes a ≡ false → decided (unchanged s) m (accept s o) ≡ unchanged s a
    go none e f = clash (accept-changes s o) (ap changes e ∙ f)
    go (some q) e f = ap (unchanged s) e

still-at : (b : Bool) (a : Answer) → changes a ≡ false → changes (answer_at b a) ≡ false
unfolding changes answer_at
still-at b (Done n m) h = absurd (true≢false h)
still-at b Deferred h = absurd (true≢false h)
still-at true Duplicate h = refl
still-at false Duplicate h = refl
still-at true (Refused q) h = refl
still-at false (Refused q) h = refl

module _ (r : columns.Replica) (o : Operation) (g : ℕ) (b : Bool) (seen : columns.replica_well_formed r ≡ true → b ≡ beyond_visible (columns.meaning r) g) where
  abbrev Does : Decision → Type 0
  Does d = (receive_at_when (columns.replica_well_formed r) (columns.meaning r) o g ≡ outcome_of (columns.meaning r) o d) × Feasible r o d

  told : {a : Answer} → (receive_when (columns.replica_well_formed r) (columns.meaning r) o).answer ≡ a
      → (receive_at_when (columns.replica_well_formed r) (columns.meaning r) o g).answer ≡ answer_at b a
  told e = sym (answered_is (columns.replica_well_formed r) b (columns.meaning r) o g seen) ∙ ap (answer_at b) e

  -- what would change the replica gives way to 4
  unless : (d : Decision) → Judged r o d → columns.replica_well_formed r ≡ true → GivesWay (outcome_of (columns.meaning r) o d).answer → Does (cond b (Answered (Refused Position)) d)
  unfolding outcome_of Feasible changes GivesWay
  unless d h x way = ⊎_elim beyond within (either b)
    where
      beyond : b ≡ true → Does (cond b (Answered (Refused Position)) d)
      beyond e =
          rw e (
            left_alone (columns.replica_well_formed r) (columns.meaning r) o g
                (told (ap (λ (w : Outcome Answer). w.answer) h.outcome) ∙ ap (λ (c : Bool). answer_at c (outcome_of (columns.meaning r) o d).answer) e ∙ way)
                refl,
            refl,
          )

      within : b ≡ false → Does (cond b (Answered (Refused Position)) d)
      within e = rw e (receive-at-same (columns.replica_well_formed r) (columns.meaning r) o g (sym (seen x) ∙ e) ∙ h.outcome, h.feasible)

  -- each of them does
  defer-gives-way : GivesWay (outcome_of (columns.meaning r) o Defer).answer
  unfolding GivesWay outcome_of defer answer_at
  defer-gives-way = refl

  carry-gives-way : (p : Operation) → GivesWay (carry_out Done (columns.meaning r) p).answer
  unfolding GivesWay carry_out answer_at
  carry-gives-way (insert i) = refl
  carry-gives-way (toggle t) = refl

  examined_by : (d : Decision) → Executed r o d → Examined r
  unfolding Executed
  examined_by d h = go o d h
    where
      go : (p : Operation) (q : Decision) → Executed r p q → Examined r
      go p (Answered a) h = absurd h
      go p Defer h = absurd h
      go (insert i) (Place k) h = h.0
      go (toggle t) (Place k) h = absurd h
      go (insert i) (toggleAt k) h = absurd h
      go (toggle t) (toggleAt k) h = h.0

  does : (d : Decision) → Judged r o d → Does (overruled b d)
  unfolding overruled outcome_of Feasible unchanged
  does (Answered a) h =
      let still = still-at b a h.feasible in
      (left_alone (columns.replica_well_formed r) (columns.meaning r) o g (told (ap (λ (w : Outcome Answer). w.answer) h.outcome)) still, still)
  does Defer h = unless Defer h h.feasible.0.form defer-gives-way
  does (Place k) h = unless (Place k) h (examined_by (Place k) h.feasible).form (carry-gives-way o)
  does (toggleAt k) h = unless (toggleAt k) h (examined_by (toggleAt k) h.feasible).form (carry-gives-way o)

-- what the code decides, of what was decided without a cursor and of what was taken down
pub judged-at : (r : columns.Replica) (o : Operation) (g : ℕ) (d e : Decision) (x : Anchor) → Judged r o d
    → (columns.replica_well_formed r ≡ true → x ≡ anchor_of (columns.meaning r).characters g) → e ≡ overruled x.beyond d
    → JudgedAt r o g (record { decision = e; left = x.left })
unfolding anchor_of beyond_visible
judged-at r o g d e x h kept made =
    let w = does r o g x.beyond (λ f. ap (λ (y : Anchor). y.beyond) (kept f)) d h in
    record {
      outcome = w.0 ∙ ap (outcome_of (columns.meaning r) o) (sym made);
      feasible = subst (Feasible r o) (sym made) w.1;
      left = λ f. ap (λ (y : Anchor). y.left) (kept f);
    }

-- the keys of a replica in form, at the front of the array that holds them
keys-lent : (r : columns.Replica) (ids : List ℕ) → Examined r → r.document.ids ≡ take 1024 ids → keys (columns.meaning r).characters ≡ take r.document.length ids
keys-lent r ids x lent =
    sym (examining.ids_used r x) ∙ ap (take r.document.length) lent ∙ take-take r.document.length 1024 ids (examining.few r x).characters

-- what was taken down of its arrays
pub anchor_told : (r : columns.Replica) (ids : List ℕ) (g m : ℕ) (x : Anchor) → Examined r → r.document.ids ≡ take 1024 ids → m ≡ min r.document.length 1024
    → ((cs : List Character) → keys cs ≡ take m ids → toggle_counts cs ≡ take m r.document.toggles → x ≡ anchor_of cs g)
    → x ≡ anchor_of (columns.meaning r).characters g
anchor_told r ids g m x seen lent e f =
    let same : m ≡ r.document.length = omega (arith, e, (examining.few r seen).characters) in
    f (columns.meaning r).characters (keys-lent r ids seen lent ∙ ap (λ (k : ℕ). take k ids) (sym same))
    (sym (examining.toggles_used r seen) ∙ ap (λ (k : ℕ). take k r.document.toggles) (sym same))

-- ---- where the replica is changed

within_of : (formed : Bool) (s : State) (o : Operation) (g : ℕ) → changes (receive_at_when formed s o g).answer ≡ true → (formed ≡ true) × (beyond_visible s g ≡ false)
unfolding receive_at_when receive_at_checks decided unchanged
within_of formed s o g = go (first (receive_at_checks formed s o g)) refl
  where
    go : (m : Option Answer) → first (receive_at_checks formed s o g) ≡ m → changes (decided (unchanged s) m (accept s o)).answer ≡ true → (formed ≡ true) × (beyond_visible s g ≡ false)
    go none f e = let w = first-none (receive_at_checks formed s o g) f in (not-false formed w.1.0, w.1.1.1.0)
    go (some a) f e = clash e (turned-still a (first_some Turned (receive_at_checks formed s o g) (receive-at-turned formed s o g) a f))

-- what came back is stored, or is the very replica
pub after_changed : (r : Replica) (s : State) (a : Answer) → changes a ≡ true → after_answer r s a ≡ memory.stored s
unfolding after_answer changes
after_changed r s (Done n m) e = refl
after_changed r s Deferred e = refl
after_changed r s Duplicate e = absurd (false≢true e)
after_changed r s (Refused q) e = absurd (false≢true e)

after-turned : (r : Replica) (s : State) (a : Answer) → changes a ≡ false → after_answer r s a ≡ r
unfolding after_answer changes
after-turned r s (Done n m) e = absurd (true≢false e)
after-turned r s Deferred e = absurd (true≢false e)
after-turned r s Duplicate e = refl
after-turned r s (Refused q) e = refl

module _ (r : Replica) (o : Operation) (g : ℕ) where
  pub turned-is : changes (received_at r o g).answer ≡ false → record { answer = (received_at r o g).answer; replica = r; shift = pos 0 } ≡ received_at r o g
  unfolding received_at receipt_at shift_of new_gap
  turned-is e =
      let w = receive_at_when (memory.replica_well_formed r) (memory.meaning r) o g in
      rw (after-turned r w.state w.answer e, e, difference-self g)

  module _ (e : changes (received_at r o g).answer ≡ true) where
    pub changed_formed : memory.replica_well_formed r ≡ true
    unfolding received_at receipt_at
    changed_formed = (within_of (memory.replica_well_formed r) (memory.meaning r) o g e).0

    pub changed_within : beyond_visible (memory.meaning r) g ≡ false
    unfolding received_at receipt_at
    changed_within = (within_of (memory.replica_well_formed r) (memory.meaning r) o g e).1

    -- by the rules
    pub ruled : received_at r o g ≡ receipt_at r g (receive_at (memory.meaning r) o g)
    unfolding received_at receive_at
    ruled = ap (λ (b : Bool). receipt_at r g (receive_at_when b (memory.meaning r) o g)) (changed_formed ∙ sym (form_meant r changed_formed))

    pub left-formed : well_formed (receive_at (memory.meaning r) o g).state ≡ true
    unfolding outcome
    left-formed = form_kept (memory.meaning r) (receiving_at o g) (form_meant r changed_formed)

    pub left-stored : (received_at r o g).replica ≡ memory.stored (receive_at (memory.meaning r) o g).state
    unfolding receipt_at
    left-stored =
        ap (λ (x : ReceiptAt). x.replica) ruled
        ∙ after_changed r (receive_at (memory.meaning r) o g).state (receive_at (memory.meaning r) o g).answer (subst (λ (x : ReceiptAt). changes x.answer ≡ true) ruled e)

    pub left-means : memory.meaning (received_at r o g).replica ≡ (receive_at (memory.meaning r) o g).state
    left-means = ap memory.meaning left-stored ∙ meaning-stored (receive_at (memory.meaning r) o g).state (formed-within (receive_at (memory.meaning r) o g).state left-formed)

    pub left_in_form : memory.replica_well_formed (received_at r o g).replica ≡ true
    left_in_form =
        ap memory.replica_well_formed left-stored
        ∙ form_stored (receive_at (memory.meaning r) o g).state (formed-within (receive_at (memory.meaning r) o g).state left-formed)
        ∙ left-formed

    -- the shift is counted in it
    pub shift_is : sub_ℕ (visible_through (memory.meaning (received_at r o g).replica).characters (left_of (memory.meaning r).characters g)) g ≡ (received_at r o g).shift
    unfolding shift_of new_gap cursor_after receipt_at
    shift_is =
        let there : changes (receive_at (memory.meaning r) o g).answer ≡ true = subst (λ (x : ReceiptAt). changes x.answer ≡ true) ruled e in
        rw left-means
        (sym (ap (λ (x : ReceiptAt). x.shift) ruled
        ∙ ap (λ (b : Bool). sub_ℕ (cond b (visible_through (receive_at (memory.meaning r) o g).state.characters (left_of (memory.meaning r).characters g)) g) g) there))

-- ---- what is put back

-- what stands on the left of a gap has the bits of its type
left-small : (cs : List Character) (g : ℕ) → AllSmall cs → Small (left_of cs g)
left-small cs g small = ⊎_elim mark held (to-shown cs (left_of cs g) (left-shown cs g))
  where
    mark : left_of cs g ≡ begin → Small (left_of cs g)
    mark e = rw e (omega arith)

    held : Memᴰ (left_of cs g) (visibles cs) → Small (left_of cs g)
    held m = let w = visible_member cs m in subst Small w.3 (small w.0 w.1).id

carry-changes : (s : State) (o : Operation) → changes (carry_out Done s o).answer ≡ true
unfolding carry_out changes
carry-changes s (insert i) = refl
carry-changes s (toggle t) = refl

-- a replica whose columns are what the decision leaves
module _ (r b : Replica) (also : FullArrays r.document) (full : FullArrays b.document) (o : Operation) (g n m : ℕ) where
  abbrev LeftBy : Decision → Type 0
  LeftBy d = ◌≡◌ {A = Left} (record { replica = viewed b; integrated = n; discarded = m }) (left_by (viewed r) o d)

  abbrev ruling : Outcome Answer
  ruling = receive_at_when (memory.replica_well_formed r) (memory.meaning r) o g

  abbrev Back : Answer → Type 0
  Back a = ◌≡◌ {A = Receipt} (record { answer = a; replica = b }) (receipt r ruling)

  module _ (a : Answer) where
    turned-back : (q : Answer) → ruling ≡ unchanged (columns.meaning (viewed r)) q → changes q ≡ false → LeftBy (Answered q) → a ≡ q → Back a
    unfolding left_by receipt unchanged
    turned-back q out still e made =
        (λ k. record { answer = made k; replica = (alike b full r also (ap (λ (l : Left). l.replica) e) ∙ sym (after-turned r (columns.meaning (viewed r)) q still)) k })
        ∙ sym (ap (receipt r) out)

    changed_back : (d : Decision) → changes (outcome_of (columns.meaning (viewed r)) o d).answer ≡ true
        → ruling ≡ outcome_of (columns.meaning (viewed r)) o d → Feasible (viewed r) o d → LeftBy d → a ≡ answer_by d n m → Back a
    unfolding received
    changed_back d c out able e made =
        let moves : changes ruling.answer ≡ true = ap (λ (w : Outcome Answer). changes w.answer) out ∙ c in
        let same = receive-at-same (memory.replica_well_formed r) (memory.meaning r) o g (within_of (memory.replica_well_formed r) (memory.meaning r) o g moves).1 in
        let judged = rw (form_view r, meaning-view r) at (sym same ∙ out) in
        received_so r b also full o d n m a made (record { outcome = judged; feasible = able }) e ∙ sym (ap (receipt r) same)

    put_back : (d : Decision) → ruling ≡ outcome_of (columns.meaning (viewed r)) o d → Feasible (viewed r) o d → LeftBy d → a ≡ answer_by d n m → Back a
    unfolding outcome_of Feasible answer_by defer changes
    put_back (Answered q) out able e made = turned-back q out able e made
    put_back Defer out able e made = changed_back Defer refl out able e made
    put_back (Place k) out able e made = changed_back (Place k) (carry-changes (columns.meaning (viewed r)) o) out able e made
    put_back (toggleAt k) out able e made = changed_back (toggleAt k) (carry-changes (columns.meaning (viewed r)) o) out able e made

  module _ (j : Judgement) (h : JudgedAt (viewed r) o g j) (e : LeftBy j.decision) (a : Answer) (made : a ≡ answer_by j.decision n m) where
    back : Back a
    back = put_back a j.decision (rw (form_view r, meaning-view r) h.outcome) h.feasible e made

    answer-is : a ≡ (received_at r o g).answer
    unfolding received_at receipt_at receipt
    answer-is = ap (λ (x : Receipt). x.answer) back

    replica-is : b ≡ (received_at r o g).replica
    unfolding received_at receipt_at receipt
    replica-is = ap (λ (x : Receipt). x.replica) back

    telling : {c : Bool} → changes a ≡ c → changes (received_at r o g).answer ≡ c
    telling f = sym (ap changes answer-is) ∙ f

    module _ (c : changes a ≡ true) where
      before_examined : Examined (viewed r)
      before_examined = examining.examined (viewed r) (full-view r.document also) (sym (form_view r) ∙ changed_formed r o g (telling c))

      after_examined : Examined (viewed b)
      after_examined =
          examining.examined (viewed b) (full-view b.document full)
          (sym (form_view b) ∙ ap memory.replica_well_formed replica-is ∙ left_in_form r o g (telling c))

      pub changed_few : (b.document.length ≤ 1024) × (g ≤ 1024)
      unfolding beyond_visible
      changed_few =
          let cs = (columns.meaning (viewed r)).characters in
          let within : beyond_visible (columns.meaning (viewed r)) g ≡ false = rw (← meaning-view r) (changed_within r o g (telling c)) in (
            (examining.few (viewed b) after_examined).characters,
            omega (arith, ltb-false (length (visibles cs)) g within, shown-visibles cs, keep-length is_visible cs, examining.characters-counted (viewed r) before_examined, (examining.few (viewed r) before_examined).characters),
          )

      left-told : identifier j.left ≡ left_of (memory.meaning r).characters g
      left-told =
          let cs = (columns.meaning (viewed r)).characters in
          rw (meaning-view r)
          (ap identifier (h.left before_examined.form) ∙ identifier-key (left_of cs g) (left-small cs g (examining.small (viewed r) before_examined)))

    module _ (z : ℤ) (still : changes a ≡ false → z ≡ pos 0)
        (counted : changes a ≡ true → (cs : List Character) → keys cs ≡ take b.document.length b.document.characters
        → toggle_counts cs ≡ take b.document.length b.document.toggles → AllSmall cs → z ≡ sub_ℕ (visible_through cs (identifier j.left)) g) where
      shifted : changes a ≡ true → z ≡ (received_at r o g).shift
      shifted c =
          let x = after_examined c in
          counted c (columns.meaning (viewed b)).characters (keys-lent (viewed b) b.document.characters x refl) (sym (examining.toggles_used (viewed b) x)) (examining.small (viewed b) x)
          ∙ ap (λ (k : Identifier). sub_ℕ (visible_through (columns.meaning (viewed b)).characters k) g) (left-told c)
          ∙ ap (λ (s : State). sub_ℕ (visible_through s.characters (left_of (memory.meaning r).characters g)) g) (sym (meaning-view b) ∙ ap memory.meaning replica-is)
          ∙ shift_is r o g (telling c)

      shift_so : z ≡ (received_at r o g).shift
      shift_so =
          ⊎_elim shifted (λ f. still f ∙ ap (λ (x : ReceiptAt). x.shift) (turned-is r o g (telling f))) (either (changes a))

      pub receipt-at_so : ◌≡◌ {A = ReceiptAt} (record { answer = a; replica = b; shift = z }) (received_at r o g)
      receipt-at_so = λ k. record { answer = answer-is k; replica = replica-is k; shift = shift_so k }
