-- A call on a replica in memory: where the rules change the state it returns the new one as it is stored, and where they
-- do not the very replica.
use Prim.Native.Nat.{ℕ}
use mathlib.Core.Path.{◌≡◌, refl, sym, ap, ◌∙◌, subst}
use mathlib.Core.Bool.{Bool, true, false, cond}
use mathlib.Core.List.{List, [], ◌∷◌}
use mathlib.Core.Option.{Option, none, some}
use Rattle.woot.specs.declared.Identifier.{Identifier}
use Rattle.woot.specs.declared.Operation.{Operation}
use Rattle.woot.specs.declared.Replica.{Replica}
use Rattle.answers.specs.declared.Answer.{Answer}
use Rattle.answers.specs.declared.Answer.TheVariants.{Done, Deferred, Duplicate, Refused}
use Rattle.woot.specs.Ranges.{in_range}
use Rattle.woot.specs.State.{State}
use Rattle.woot.specs.Memory.{meaning, stored, replica_well_formed}
use Rattle.bulk.specs.Loading.{use_when}
use Rattle.answers.specs.Answers.{done, reply, changes, Check, first, decided, NoneHolds}
use Rattle.woot.specs.Sending.{answer_of}
use Rattle.bulk.specs.Pasting.{code_points_of, typings, unpasted, paste_checks, paste_when}
use Rattle.decoding.specs.Theorems.{Encodes}
use Rattle.convergence.proofs.Steps.{All, first-none, first_some}
use Rattle.convergence.proofs.Pasting.{paste_does}
use Rattle.convergence.proofs.Refusals.{refused-unchanged, known-unchanged}
use Rattle.woot.specs.Calls.{Outcome, unchanged, receive, local_insert, local_delete, local_restore}
use Rattle.woot.specs.Cursor.{receive_at}
use Rattle.woot.specs.Histories.{inserting, deleting, restoring, receiving, receiving_at, outcome, run, Call as RuleCall}
use Rattle.woot.specs.Replicas.{after_answer, after_sent, receipt, receipt_at, generated, received, received_at, inserted, deleted, restored}
use Rattle.replica.specs.Theorems.{called, answer_to, ran}
use Rattle.replica.proofs.Runs.{formed-within}
use Rattle.admission.specs.Calls.{used_after, admitted_as, admitted_by}
use Rattle.pasting.specs.Replicas.{after_typing, pasted_with, pasted_by}
use Rattle.pasting.proofs.Replicas.{pasted-is_typing}
use Rattle.c_calls.proofs.Blocks.{read_as_lem}
use Rattle.lent.specs.Lent.{returned}
use Rattle.lent.proofs.Sites.{lent_follows}
use Rattle.codec.specs.Calls.{laid_out, said_by, read_operation}
use Rattle.codec.proofs.Judging.{read-layout, read-range, read-operation}
use Rattle.transcript.specs.Calls.{received_as, received_line}
use Rattle.consistency.specs.Copies.{MemoryCall, on_replica, on_record, on_block, on_line, admit, save, memory_call, in_memory, after_record, after_admitting, after_saving, when_made, on_memory, step_on}
use Rattle.consistency.proofs.Holding.{Means, stored-means, Holds, memory, bytes, stored-held, Steps, changed_formed}
use Rattle.consistency.proofs.Saving.{Saving, fits, refuses, saving}
use Rattle.std.proofs.Common.{Ok, Err}
use Rattle.woot.specs.Sent.{Sending}

-- an answer that refuses
abbrev Refusing : Answer → Type 0
Refusing (Done n m) = ⊥
Refusing Deferred = ⊥
Refusing Duplicate = ⊥
Refusing (Refused q) = Unit

-- ---- the calls on what means a state

module _ (r : Replica) (s : State) (m : Means r s) where
  pub received_meant : (o : Operation) → received r o ≡ receipt r (receive s o)
  unfolding received receive
  received_meant o = rw (m.form, m.meant)

  pub received-at_meant : (o : Operation) (g : ℕ) → received_at r o g ≡ receipt_at r g (receive_at s o g)
  unfolding received_at receive_at
  received-at_meant o g = rw (m.form, m.meant)

  pub inserted_meant : (g n : ℕ) → inserted r g n ≡ generated r (local_insert s g n)
  unfolding inserted local_insert
  inserted_meant g n = rw (m.form, m.meant)

  pub deleted_meant : (p : ℕ) → deleted r p ≡ generated r (local_delete s p)
  unfolding deleted local_delete
  deleted_meant p = rw (m.form, m.meant)

  pub restored_meant : (x : Identifier) → restored r x ≡ generated r (local_restore s x)
  unfolding restored local_restore
  restored_meant x = rw (m.form, m.meant)

-- the replica depends on the answer alone, whatever was sent
sent-answer : (r : Replica) (s : State) (a : Sending) → after_sent r s a ≡ after_answer r s (answer_of a)
unfolding after_sent after_answer answer_of
sent-answer r s (Ok x) = refl
sent-answer r s (Err q) = refl

module _ (r : Replica) (s : State) (m : Means r s) where
  pub called_meant : (c : RuleCall) →
      (called r c ≡ after_answer r (outcome s c).state (outcome s c).answer)
      × (answer_to r c ≡ (outcome s c).answer)
  unfolding called answer_to outcome receipt receipt_at generated
  called_meant (inserting g n) =
      let e = inserted_meant r s m g n in (
        ap (λ x. x.replica) e ∙ sent-answer r (local_insert s g n).state (local_insert s g n).answer,
        ap (λ x. answer_of x.answer) e,
      )
  called_meant (deleting p) =
      let e = deleted_meant r s m p in (
        ap (λ x. x.replica) e ∙ sent-answer r (local_delete s p).state (local_delete s p).answer,
        ap (λ x. answer_of x.answer) e,
      )
  called_meant (restoring x) =
      let e = restored_meant r s m x in (
        ap (λ y. y.replica) e ∙ sent-answer r (local_restore s x).state (local_restore s x).answer,
        ap (λ y. answer_of y.answer) e,
      )
  called_meant (receiving o) =
      let e = received_meant r s m o in
      (ap (λ x. x.replica) e, ap (λ x. x.answer) e)
  called_meant (receiving_at o g) =
      let e = received-at_meant r s m o g in
      (ap (λ x. x.replica) e, ap (λ x. x.answer) e)

  -- what comes back means what the rule leaves
  pub called-means : (c : RuleCall) → Means (called r c) (outcome s c).state
  unfolding after_answer changes unchanged
  called-means c = rw (called_meant c).0 (go (outcome s c).answer refl)
    where
      new : changes (outcome s c).answer ≡ true → Means (stored (outcome s c).state) (outcome s c).state
      new h = stored-means (outcome s c).state (formed-within (outcome s c).state (changed_formed s c h))

      go : (a : Answer) → (outcome s c).answer ≡ a → Means (after_answer r (outcome s c).state a) (outcome s c).state
      go (Done i j) e = new (ap changes e)
      go Deferred e = new (ap changes e)
      go Duplicate e = subst (Means r) (sym (ap (λ (w : Outcome Answer). w.state) (known-unchanged s c e))) m
      go (Refused q) e = subst (Means r) (sym (ap (λ (w : Outcome Answer). w.state) (refused-unchanged s c q e))) m

run_meant : (r : Replica) (s : State) → Means r s → (cs : List RuleCall) → Means (ran r cs) (run s cs)
run_meant r s m [] = m
run_meant r s m (c ∷ cs) = run_meant (called r c) (outcome s c).state (called-means r s m c) cs

-- a pasting that is done is its typing calls, and one that is not changes nothing
module _ (r : Replica) (s : State) (m : Means r s) (g : ℕ) (block : List ℕ) where
  abbrev checks : List (Check Answer)
  checks = paste_checks (replica_well_formed r) (meaning r) g block

  abbrev calls : List RuleCall
  calls = typings s g (code_points_of block)

  refusing : All Refusing checks
  unfolding paste_checks
  refusing = (tt, (tt, (tt, (tt, (tt, (tt, tt))))))

  encodes : NoneHolds checks → Encodes block (code_points_of block)
  unfolding paste_checks
  encodes none-holds = read_as_lem block none-holds.0

  pasted-done : NoneHolds checks → (reply (pasted_by r g block).answer).word ≡ done
  unfolding pasted_by pasted_with
  pasted-done passed = (paste_does (replica_well_formed r) (meaning r) g block).1 passed

  typed-step : NoneHolds checks → Steps s (in_memory r) (memory_call (on_block g block))
  unfolding step_on on_memory when_made
  typed-step passed =
      rw (told, pasted-is_typing r g block (code_points_of block) (encodes passed) told, m.meant)
      (memory (ran r calls) (run s calls) (run_meant r s m calls))
    where
      told : (reply (pasted_by r g block).answer).word ≡ done
      told = pasted-done passed

  unpasted-step : (a : Answer) → Refusing a → first checks ≡ some a → Steps s (in_memory r) (memory_call (on_block g block))
  unfolding step_on on_memory when_made pasted_by pasted_with paste_when decided unpasted reply after_typing
  unpasted-step (Done _ _) t f = elim t [ ]
  unpasted-step Deferred t f = elim t [ ]
  unpasted-step Duplicate t f = elim t [ ]
  unpasted-step (Refused q) t f = rw f (memory r s m)

  block_step : Steps s (in_memory r) (memory_call (on_block g block))
  block_step = go (first checks) refl
    where
      go : (m : Option Answer) → first checks ≡ m → Steps s (in_memory r) (memory_call (on_block g block))
      go none e = typed-step (first-none checks e)
      go (some a) e = unpasted-step a (first_some Refusing checks refusing a e) e

-- loading for use gives the very replica, or leaves it
admitted_kept : (r : Replica) → after_admitting r ≡ r
unfolding after_admitting admitted_by admitted_as used_after changes
admitted_kept r = go (use_when (replica_well_formed r) (meaning r)).answer
  where
    go : (a : Answer) → cond (changes a) (used_after r a) r ≡ r
    go (Done n m) = refl
    go Deferred = refl
    go Duplicate = refl
    go (Refused q) = refl

module _ (r : Replica) (s : State) (m : Means r s) where
  answered_step : (c : RuleCall) (a : Answer) → (outcome s c).answer ≡ a →
      Holds (run s (when_made (reply a).word (c ∷ []))) (in_memory (after_answer r (outcome s c).state a))
  unfolding after_answer changes when_made reply
  answered_step c (Done n m) e =
      let f = changed_formed s c (ap changes e) in stored-held (outcome s c).state (formed-within (outcome s c).state f)
  answered_step c Deferred e =
      let f = changed_formed s c (ap changes e) in stored-held (outcome s c).state (formed-within (outcome s c).state f)
  answered_step c Duplicate e = memory r s m
  answered_step c (Refused q) e = memory r s m

  replica-step : (c : RuleCall) → Steps s (in_memory r) (memory_call (on_replica c))
  unfolding step_on on_memory
  replica-step c =
      let d = called_meant r s m c in
      rw (d.0, d.1) (answered_step c (outcome s c).answer refl)

  -- the lent record and the document together are what the call returns
  record_step : (g n : ℕ) → Steps s (in_memory r) (memory_call (on_record g n))
  unfolding step_on on_memory after_record returned answer_to
  record_step g n =
      rw (lent_follows r.site r.document g n, returned) (replica-step (inserting g n))

  -- a line that is not read is refused
  line_step : (l : List ℕ) → Steps s (in_memory r) (memory_call (on_line l))
  unfolding step_on on_memory received_line received_as read_operation when_made reply called answer_to
  line_step l = go (laid_out l) refl (in_range (said_by l)) refl
    where
      go : (a : Bool) → laid_out l ≡ a → (b : Bool) → in_range (said_by l) ≡ b → Steps s (in_memory r) (memory_call (on_line l))
      go false e b f = rw (e, read-layout (said_by l)) (memory r s m)
      go true e false f = rw (e, read-range (said_by l) f) (memory r s m)
      go true e true f = rw (e, read-operation (said_by l) f) (replica-step (receiving (said_by l)))

  admit-step : Steps s (in_memory r) (memory_call admit)
  unfolding step_on on_memory
  admit-step = rw (admitted_kept r) (memory r s m)

  save-step : (out : List ℕ) → Steps s (in_memory r) (memory_call (save out))
  unfolding step_on on_memory after_saving
  save-step out = go (saving r s m out)
    where
      go : Saving r s out → Steps s (in_memory r) (memory_call (save out))
      go (fits f e t) = rw (e, t) (bytes s f)
      go (refuses e) = rw e (memory r s m)

  pub memory_step : (c : MemoryCall) → Steps s (in_memory r) (memory_call c)
  memory_step (on_replica c) = replica-step c
  memory_step (on_record g n) = record_step g n
  memory_step (on_block g block) = block_step r s m g block
  memory_step (on_line l) = line_step l
  memory_step admit = admit-step
  memory_step (save out) = save-step out
