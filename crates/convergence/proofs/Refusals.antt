-- A refusal is answered exactly when it is the first in its list of checks to hold, and what is done where none holds
-- answers no refusal.
use Prim.Native.Nat.{ℕ}
use mathlib.Core.Path.{◌≡◌, refl, ap, sym, ◌∙◌, subst}
use mathlib.Core.Bool.{Bool, true, false, cond}
use mathlib.Core.Option.{Option, none, some}
use mathlib.Core.Logic.{◌↔◌}
use mathlib.Core.List.{List, [], ◌∷◌}
use native.Mathlib.Omega.{arith}
use Rattle.woot.specs.declared.Operation.{Operation}
use Rattle.woot.specs.declared.Operation.TheVariants.{Insert as insert, Toggle as toggle}
use Rattle.answers.specs.declared.Refusal.{Refusal}
use Rattle.answers.specs.declared.Answer.{Answer}
use Rattle.answers.specs.declared.Answer.TheVariants.{Done, Deferred, Duplicate, Refused}
use Rattle.woot.specs.State.{State}
use Rattle.woot.specs.Pending.{executable}
use Rattle.woot.specs.Form.{well_formed}
use Rattle.answers.specs.Answers.{Check, first, decided, Reported, here, later, number}
use Rattle.woot.specs.Sending.{answer_of}
use Rattle.woot.specs.Calls.{Outcome, unchanged, carry_out, defer, accept, receive_checks, receive_when, receive, insert_checks, generated_insert, send_insert, local_insert_when, local_insert, delete_checks, generated_delete, send_toggle, local_delete_when, local_delete, restore_checks, generated_toggle, local_restore_when, local_restore}
use Rattle.woot.specs.Cursor.{receive_at_checks, receive_at_when, receive_at}
use Rattle.woot.specs.Histories.{inserting, deleting, restoring, receiving, receiving_at, with_answer, outcome}
use Rattle.lists.proofs.Tests.{some-eq, no-some}
use Rattle.convergence.proofs.Steps.{All}
use Rattle.convergence.specs.Theorems.{ReceiveRefuses, ReceiveKnows, InsertRefuses, DeleteRefuses, RestoreRefuses, RefusedUnchanged, KnownUnchanged}
use Rattle.convergence.specs.Cursors.{ReceiveAtRefuses, ReceiveAtKnows}
use Rattle.std.proofs.Common.{Ok, Err}
use Rattle.woot.specs.Sent.{Sending, sends}

module _ {A : Type 0} where
  pub first_reported : (cs : List (Check A)) (a : A) → first cs ≡ some a → Reported a cs
  first_reported [] a h = no-some h
  first_reported (c ∷ cs) a h = go c.holds refl (first_reported cs a)
    where
      go : (b : Bool) → c.holds ≡ b → (first cs ≡ some a → Reported a cs) → Reported a (c ∷ cs)
      go true e rest = here e (some-eq (rw e at h))
      go false e rest = later e (rest (rw e at h))

  reported_in : (a : A) (cs : List (Check A)) → Reported a cs → first cs ≡ some a
  reported_in a cs (here {c = c} {cs = ds} e f) = rw (e, f)
  reported_in a cs (later {c = c} {cs = ds} e r) = rw e (reported_in a ds r)

  pub reported_first : (cs : List (Check A)) (a : A) → Reported a cs → first cs ≡ some a
  reported_first cs a r = reported_in a cs r

  -- an answer that what is done never gives is the first of the checks: `view` reads off the answer that is turned
  pub decided_exactly : {B : Type 0} (turned : A → B) (view : B → A) → ((x : A) → view (turned x) ≡ x) → (cs : List (Check A)) (b : B) (a : A) → (view b ≡ a → ⊥)
      → (view (decided turned (first cs) b) ≡ a) ↔ Reported a cs
  unfolding decided
  decided_exactly turned view reads cs b a never = (λ h. first_reported cs a (go (first cs) h), λ k. rw (reported_first cs a k) (reads a))
    where
      go : (m : Option A) → view (decided turned m b) ≡ a → m ≡ some a
      go none h = absurd (never h)
      go (some x) h = ap some (sym (reads x) ∙ h)

  -- so of what a call answers
  pub answered_exactly : (s : State) (cs : List (Check A)) (r : Outcome A) (a : A) → (r.answer ≡ a → ⊥) → ((decided (unchanged s) (first cs) r).answer ≡ a) ↔ Reported a cs
  unfolding unchanged
  answered_exactly s = decided_exactly (unchanged s) (λ r. r.answer) (λ x. refl)

  -- and with it nothing is changed
  pub decided-unchanged : (s : State) (m : Option A) (r : Outcome A) (a : A) → (r.answer ≡ a → ⊥) → (decided (unchanged s) m r).answer ≡ a → decided (unchanged s) m r ≡ unchanged s a
  unfolding decided unchanged
  decided-unchanged s none r a never h = absurd (never h)
  decided-unchanged s (some x) r a never h = ap (unchanged s) h

module _ {A : Type 0} {a : A} where
  -- a check with another answer does not hold
  pub skipped : {c : Check A} {cs : List (Check A)} → (c.answer ≡ a → ⊥) → Reported a (c ∷ cs) → (c.holds ≡ false) × Reported a cs
  skipped other (here h e) = absurd (other e)
  skipped other (later h r) = (h, r)

  -- a check with the only such answer holds
  pub held-there : {c : Check A} {cs : List (Check A)} → (Reported a cs → ⊥) → Reported a (c ∷ cs) → c.holds ≡ true
  held-there only (here h e) = h
  held-there only (later h r) = absurd (only r)

  pub never : Reported a [] → ⊥
  never r = elim r [ ]

  -- what no check of the list answers is not reported
  pub unreported : (cs : List (Check A)) → All (λ b. b ≡ a → ⊥) cs → Reported a cs → ⊥
  unreported [] w r = never r
  unreported (c ∷ cs) w (here h e) = w.0 e
  unreported (c ∷ cs) w (later h r) = unreported cs w.1 r

-- refusals with other numbers differ, as answers of either kind
pub other : {r q : Refusal} → (number r ≡ number q → ⊥) → Refused r ≡ Refused q → ⊥
other {r} {q} f e = f (ap number {x = r} {y = q} (let k = e in cc))

pub other-sent : {r q : Refusal} → (number r ≡ number q → ⊥) → ◌≡◌ {A = Sending} (Err r) (Err q) → ⊥
other-sent {r} {q} f e = f (ap number {x = r} {y = q} (let k = e in cc))

-- what is done where no condition holds answers done or waits
pub Accepted : Answer → Type 0
Accepted (Done n m) = Unit
Accepted Deferred = Unit
Accepted Duplicate = ⊥
Accepted (Refused r) = ⊥

accept-accepted : (s : State) (o : Operation) → Accepted (accept s o).answer
unfolding Accepted accept carry_out defer
accept-accepted s o = go (executable s.characters o) o
  where
    go : (b : Bool) (o : Operation) → Accepted (cond b (carry_out Done s o) (defer s o)).answer
    go true (insert i) = tt
    go true (toggle d) = tt
    go false o = tt

pub accept-never-refused : (s : State) (o : Operation) (r : Refusal) → (accept s o).answer ≡ Refused r → ⊥
unfolding Accepted
accept-never-refused s o r e = subst Accepted e (accept-accepted s o)

pub accept-never-known : (s : State) (o : Operation) → (accept s o).answer ≡ Duplicate → ⊥
unfolding Accepted
accept-never-known s o e = subst Accepted e (accept-accepted s o)

-- a call that sends answers no refusal where it is done
sent-never-refused : {o : Operation} {n m : ℕ} (r : Refusal) → sends o n m ≡ Err r → ⊥
sent-never-refused r e = let z : ◌≡◌ {A = ℕ} 0 1 = cc in omega arith

pub receive_refuses : ReceiveRefuses
unfolding receive_when
receive_refuses formed s o r = answered_exactly s (receive_checks formed s o) (accept s o) (Refused r) (accept-never-refused s o r)

pub receive-knows : ReceiveKnows
unfolding receive_when
receive-knows formed s o = answered_exactly s (receive_checks formed s o) (accept s o) Duplicate (accept-never-known s o)

pub receive-at_refuses : ReceiveAtRefuses
unfolding receive_at_when
receive-at_refuses formed s o g r = answered_exactly s (receive_at_checks formed s o g) (accept s o) (Refused r) (accept-never-refused s o r)

pub receive-at-knows : ReceiveAtKnows
unfolding receive_at_when
receive-at-knows formed s o g = answered_exactly s (receive_at_checks formed s o g) (accept s o) Duplicate (accept-never-known s o)

pub insert_refuses : InsertRefuses
unfolding local_insert_when send_insert carry_out
insert_refuses formed s g n r = answered_exactly s (insert_checks formed s g n) (send_insert s (generated_insert s g n)) (Err r) (sent-never-refused r)

pub delete_refuses : DeleteRefuses
unfolding local_delete_when send_toggle carry_out
delete_refuses formed s p r = answered_exactly s (delete_checks formed s p) (send_toggle s (generated_delete s p)) (Err r) (sent-never-refused r)

pub restore_refuses : RestoreRefuses
unfolding local_restore_when send_toggle carry_out
restore_refuses formed s x r = answered_exactly s (restore_checks formed s x) (send_toggle s (generated_toggle s x)) (Err r) (sent-never-refused r)

-- an answer without its operation is a refusal only of that refusal, and never known
pub answer-refused : (a : Sending) (r : Refusal) → answer_of a ≡ Refused r → a ≡ Err r
unfolding answer_of
answer-refused (Ok x) r e = absurd (let z : ◌≡◌ {A = ℕ} 0 1 = cc in omega arith)
answer-refused (Err q) r e = cc

answer-known : (a : Sending) → answer_of a ≡ Duplicate → ⊥
unfolding answer_of
answer-known (Ok x) e = let z : ◌≡◌ {A = ℕ} 0 1 = cc in omega arith
answer-known (Err q) e = let z : ◌≡◌ {A = ℕ} 0 1 = cc in omega arith

pub refused-unchanged : RefusedUnchanged
unfolding outcome local_insert local_insert_when send_insert carry_out local_delete local_delete_when local_restore local_restore_when send_toggle receive receive_when receive_at receive_at_when answer_of unchanged
refused-unchanged s (inserting g n) r e =
    ap (with_answer answer_of) (decided-unchanged s (first (insert_checks (well_formed s) s g n)) (send_insert s (generated_insert s g n)) (Err r) (sent-never-refused r) (answer-refused _ r e))
refused-unchanged s (deleting p) r e =
    ap (with_answer answer_of) (decided-unchanged s (first (delete_checks (well_formed s) s p)) (send_toggle s (generated_delete s p)) (Err r) (sent-never-refused r) (answer-refused _ r e))
refused-unchanged s (restoring x) r e =
    ap (with_answer answer_of) (decided-unchanged s (first (restore_checks (well_formed s) s x)) (send_toggle s (generated_toggle s x)) (Err r) (sent-never-refused r) (answer-refused _ r e))
refused-unchanged s (receiving o) r e =
    decided-unchanged s (first (receive_checks (well_formed s) s o)) (accept s o) (Refused r) (accept-never-refused s o r) e
refused-unchanged s (receiving_at o g) r e =
    decided-unchanged s (first (receive_at_checks (well_formed s) s o g)) (accept s o) (Refused r) (accept-never-refused s o r) e

pub known-unchanged : KnownUnchanged
unfolding outcome receive receive_when receive_at receive_at_when
known-unchanged s (inserting g n) e = absurd (answer-known _ e)
known-unchanged s (deleting p) e = absurd (answer-known _ e)
known-unchanged s (restoring x) e = absurd (answer-known _ e)
known-unchanged s (receiving o) e =
    decided-unchanged s (first (receive_checks (well_formed s) s o)) (accept s o) Duplicate (accept-never-known s o) e
known-unchanged s (receiving_at o g) e =
    decided-unchanged s (first (receive_at_checks (well_formed s) s o g)) (accept s o) Duplicate (accept-never-known s o) e
