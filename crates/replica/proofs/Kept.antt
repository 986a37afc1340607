-- The form is kept by what runs: what a call stores is a state that the rules left in form, and every other call returns
-- the very replica that was passed.
use Prim.Native.Nat.{ℕ}
use mathlib.Core.Path.{◌≡◌, refl, sym, ◌∙◌, subst}
use mathlib.Core.Bool.{Bool, true, false≢true}
use mathlib.Core.Logic.{◌⊎◌, inl, inr, ⊎_elim}
use Rattle.woot.specs.declared.Replica.{Replica}
use Rattle.answers.specs.declared.Answer.{Answer}
use Rattle.answers.specs.declared.Answer.TheVariants.{Done, Deferred, Duplicate, Refused}
use Rattle.woot.specs.State.{State, initial}
use Rattle.woot.specs.Memory.{meaning, stored, replica_well_formed}
use Rattle.woot.specs.Form.{well_formed}
use Rattle.answers.specs.Answers.{done, waits, reply, changes}
use Rattle.woot.specs.Sending.{answer_of}
use Rattle.woot.specs.Calls.{receive_checks, receive_when, receive, insert_checks, local_insert_when, local_insert, delete_checks, local_delete_when, local_delete, restore_checks, local_restore_when, local_restore}
use Rattle.woot.specs.Cursor.{receive_at_checks, receive_at_when, receive_at}
use Rattle.woot.specs.Histories.{Call, inserting, deleting, restoring, receiving, receiving_at, outcome}
use borrow.Author.Tests.{not-false}
use Rattle.answers.specs.declared.Refusal.TheVariants.{Taken}
use Rattle.convergence.proofs.Refusals.{insert_refuses}
use Rattle.convergence.proofs.Hearing.{insert_untaken}
use Rattle.convergence.proofs.Forms.{formed}
use Rattle.convergence.proofs.Forms.{empty-formed}
use Rattle.convergence.proofs.Kept.{form_kept}
use Rattle.convergence.proofs.Replies.{receive_does, receive-waits, receive-at_does, receive-at-waits, insert_does, delete_does, restore_does}
use Rattle.woot.specs.Replicas.{after_answer, after_sent, receipt, receipt_at, generated, received, received_at, inserted, deleted, restored}
use Rattle.replica.specs.Theorems.{called, answer_to, ReplicasFormed, AcceptedFormed, EmptyReplicaFormed, InsertNeverTaken}
use Rattle.replica.proofs.Runs.{formed-within, form_meant, form_stored, initial-within}
use Rattle.std.proofs.Common.{Ok, Err}
use Rattle.woot.specs.Sent.{Sending}

-- what is stored of a state in form is in form
stored-formed : (s : State) → well_formed s ≡ true → replica_well_formed (stored s) ≡ true
stored-formed s h = form_stored s (formed-within s h) ∙ h

answer-formed : (r : Replica) (s : State) (a : Answer) → replica_well_formed r ≡ true → well_formed s ≡ true → replica_well_formed (after_answer r s a) ≡ true
unfolding after_answer
answer-formed r s (Done n m) f h = stored-formed s h
answer-formed r s Deferred f h = stored-formed s h
answer-formed r s Duplicate f h = f
answer-formed r s (Refused q) f h = f

sent-formed : (r : Replica) (s : State) (a : Sending) → replica_well_formed r ≡ true → well_formed s ≡ true → replica_well_formed (after_sent r s a) ≡ true
unfolding after_sent
sent-formed r s (Ok x) f h = stored-formed s h
sent-formed r s (Err q) f h = f

-- the form of a replica in form is that of what it says
same_form : (r : Replica) → replica_well_formed r ≡ true → well_formed (meaning r) ≡ replica_well_formed r
same_form r f = form_meant r f ∙ sym f

pub replicas_formed : ReplicasFormed
unfolding called received received_at inserted deleted restored receipt receipt_at generated outcome local_insert local_delete local_restore receive receive_at
replicas_formed r (inserting g n) f =
    sent-formed r _ (inserted r g n).answer f
    (subst (λ (b : Bool). well_formed (local_insert_when b (meaning r) g n).state ≡ true) (same_form r f) (form_kept (meaning r) (inserting g n) (form_meant r f)))
replicas_formed r (deleting p) f =
    sent-formed r _ (deleted r p).answer f
    (subst (λ (b : Bool). well_formed (local_delete_when b (meaning r) p).state ≡ true) (same_form r f) (form_kept (meaning r) (deleting p) (form_meant r f)))
replicas_formed r (restoring x) f =
    sent-formed r _ (restored r x).answer f
    (subst (λ (b : Bool). well_formed (local_restore_when b (meaning r) x).state ≡ true) (same_form r f) (form_kept (meaning r) (restoring x) (form_meant r f)))
replicas_formed r (receiving o) f =
    answer-formed r _ (received r o).answer f
    (subst (λ (b : Bool). well_formed (receive_when b (meaning r) o).state ≡ true) (same_form r f) (form_kept (meaning r) (receiving o) (form_meant r f)))
replicas_formed r (receiving_at o g) f =
    answer-formed r _ (received_at r o g).answer f
    (subst (λ (b : Bool). well_formed (receive_at_when b (meaning r) o g).state ≡ true) (same_form r f) (form_kept (meaning r) (receiving_at o g) (form_meant r f)))

-- ---- whatever was handed

-- an answer that changes the replica is done or waits
changing : (a : Answer) → changes a ≡ true → ((reply a).word ≡ done) ⊎ ((reply a).word ≡ waits)
unfolding changes reply
changing (Done n m) e = inl refl
changing Deferred e = inr refl
changing Duplicate e = absurd (false≢true e)
changing (Refused q) e = absurd (false≢true e)

-- of a call that sends it is done
sent_changing : (a : Sending) → changes (answer_of a) ≡ true → (reply (answer_of a)).word ≡ done
unfolding changes reply answer_of
sent_changing (Ok x) e = refl
sent_changing (Err q) e = absurd (false≢true e)

-- then condition 3 did not hold
accepted_form : (r : Replica) (c : Call) → changes (answer_to r c) ≡ true → replica_well_formed r ≡ true
unfolding answer_to received received_at inserted deleted restored receipt receipt_at generated receive_checks receive_at_checks insert_checks delete_checks restore_checks
accepted_form r (inserting g n) e = not-false _ ((insert_does (replica_well_formed r) (meaning r) g n).0 (sent_changing _ e)).1.0
accepted_form r (deleting p) e = not-false _ ((delete_does (replica_well_formed r) (meaning r) p).0 (sent_changing _ e)).0
accepted_form r (restoring x) e = not-false _ ((restore_does (replica_well_formed r) (meaning r) x).0 (sent_changing _ e)).1.0
accepted_form r (receiving o) e =
    ⊎_elim (λ h. not-false _ ((receive_does (replica_well_formed r) (meaning r) o).0 h).0.1.0)
    (λ h. not-false _ ((receive-waits (replica_well_formed r) (meaning r) o).0 h).0.1.0)
    (changing _ e)
accepted_form r (receiving_at o g) e =
    ⊎_elim (λ h. not-false _ ((receive-at_does (replica_well_formed r) (meaning r) o g).0 h).0.1.0)
    (λ h. not-false _ ((receive-at-waits (replica_well_formed r) (meaning r) o g).0 h).0.1.0)
    (changing _ e)

pub accepted-formed : AcceptedFormed
accepted-formed r c e = replicas_formed r c (accepted_form r c e)

pub empty-replica-formed : EmptyReplicaFormed
empty-replica-formed n = form_stored (initial n) (initial-within n) ∙ empty-formed n

-- ---- refusal 6

pub insert-never-taken : InsertNeverTaken
unfolding inserted generated
insert-never-taken r g n e =
    insert_untaken (replica_well_formed r) (meaning r) g n (λ f. formed (meaning r) (form_meant r f)) ((insert_refuses (replica_well_formed r) (meaning r) g n Taken).0 e)
