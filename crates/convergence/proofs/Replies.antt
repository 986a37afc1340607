-- What is answered tells which conditions hold: a word or a number stands for one way through the checks, since no check
-- answers done or waits, and what is done where none holds answers nothing else.
use Prim.Native.Nat.{ℕ, ◌≤◌}
use native.Mathlib.Omega.{arith}
use mathlib.Core.Path.{◌≡◌, refl, ap, sym, ◌∙◌}
use mathlib.Core.Bool.{Bool, true, false, cond, false≢true, true≢false}
use mathlib.Core.Option.{Option, none, some}
use mathlib.Core.Logic.{◌↔◌}
use mathlib.Core.List.{List, [], ◌∷◌}
use lib.ListN.{get_or}
use Rattle.woot.specs.declared.Operation.{Operation}
use Rattle.woot.specs.declared.Operation.TheVariants.{Insert as insert, Toggle as toggle}
use Rattle.answers.specs.declared.Refusal.{Refusal}
use Rattle.answers.specs.declared.Refusal.TheVariants.{Layout, Range, HeapFull, Mislisted, Misarranged, NotUtf8, Form, Unrepresentable, Unreachable}
use Rattle.answers.specs.declared.Refusal.TheVariants.{Position, NotHidden, LastToggle, Clock, Taken, Conflict, Crossed, Unplaceable, SenderFull}
use Rattle.answers.specs.declared.Refusal.TheVariants.{DocumentFull, Output}
use Rattle.answers.specs.declared.Answer.{Answer}
use Rattle.answers.specs.declared.Answer.TheVariants.{Done, Deferred, Duplicate, Refused}
use Rattle.woot.specs.State.{State}
use Rattle.woot.specs.Pending.{executable}
use Rattle.answers.specs.Answers.{number, highest_refusal, Word, done, waits, known, refused, reply, Check, first, NoneHolds, decided}
use Rattle.woot.specs.Sending.{answer_of, sent_operation}
use Rattle.woot.specs.Calls.{Outcome, unchanged, carry_out, defer, accept, receive_checks, receive_when, generated_insert, insert_checks, send_insert}
use Rattle.woot.specs.Calls.{local_insert_when, generated_delete, delete_checks, send_toggle, local_delete_when, generated_toggle, restore_checks}
use Rattle.woot.specs.Calls.{local_restore_when}
use Rattle.woot.specs.Cursor.{receive_at_checks, receive_at_when}
use Rattle.lists.proofs.Tests.{some-eq, no-some}
use Rattle.convergence.specs.Theorems.{NumbersDiffer, ReceiveNumbers, InsertNumbers, DeleteNumbers, RestoreNumbers, ReceiveDoes, ReceiveWaits}
use Rattle.convergence.specs.Theorems.{InsertDoes, DeleteDoes, RestoreDoes, InsertSends, DeleteSends, RestoreSends}
use Rattle.convergence.specs.Cursors.{ReceiveAtNumbers, ReceiveAtDoes, ReceiveAtWaits}
use Rattle.convergence.proofs.Refusals.{receive_refuses, receive-at_refuses, insert_refuses, delete_refuses, restore_refuses, answer-refused}
use Rattle.convergence.proofs.Steps.{first-none, All, first_some, Turned, receive-turned, receive-at-turned, Refusing, insert-turned}
use Rattle.convergence.proofs.Steps.{delete_turned, restore_turned}
use Rattle.std.proofs.Common.{Ok, Err}
use Rattle.woot.specs.Sent.{Sending, sends}

-- ---- by number

-- the refusal of a number
refusal_of : ℕ → Refusal
refusal_of n =
    get_or
    (Layout ∷ Layout ∷ Range ∷ Form ∷ Position ∷ Clock ∷ Taken ∷ Conflict ∷ Crossed ∷ Unplaceable ∷ SenderFull ∷ DocumentFull ∷ Output
    ∷ NotHidden ∷ LastToggle ∷ Unrepresentable ∷ Unreachable ∷ HeapFull ∷ Mislisted ∷ Misarranged ∷ NotUtf8 ∷ []) n Layout

refusal-of : (r : Refusal) → refusal_of (number r) ≡ r
unfolding refusal_of
refusal-of Layout = refl
refusal-of Range = refl
refusal-of HeapFull = refl
refusal-of Mislisted = refl
refusal-of Misarranged = refl
refusal-of NotUtf8 = refl
refusal-of Form = refl
refusal-of Unrepresentable = refl
refusal-of Unreachable = refl
refusal-of Position = refl
refusal-of NotHidden = refl
refusal-of LastToggle = refl
refusal-of Clock = refl
refusal-of Taken = refl
refusal-of Conflict = refl
refusal-of Crossed = refl
refusal-of Unplaceable = refl
refusal-of SenderFull = refl
refusal-of DocumentFull = refl
refusal-of Output = refl

pub numbers_differ : NumbersDiffer
numbers_differ r q e = sym (refusal-of r) ∙ ap refusal_of e ∙ refusal-of q

pub positive : (r : Refusal) → 0 ≡ number r → ⊥
positive Layout e = omega arith
positive Range e = omega arith
positive HeapFull e = omega arith
positive Mislisted e = omega arith
positive Misarranged e = omega arith
positive NotUtf8 e = omega arith
positive Form e = omega arith
positive Unrepresentable e = omega arith
positive Unreachable e = omega arith
positive Position e = omega arith
positive NotHidden e = omega arith
positive LastToggle e = omega arith
positive Clock e = omega arith
positive Taken e = omega arith
positive Conflict e = omega arith
positive Crossed e = omega arith
positive Unplaceable e = omega arith
positive SenderFull e = omega arith
positive DocumentFull e = omega arith
positive Output e = omega arith

-- the highest
pub number-few : (q : Refusal) → number q ≤ highest_refusal
number-few Layout = omega arith
number-few Range = omega arith
number-few HeapFull = omega arith
number-few Mislisted = omega arith
number-few Misarranged = omega arith
number-few NotUtf8 = omega arith
number-few Form = omega arith
number-few Unrepresentable = omega arith
number-few Unreachable = omega arith
number-few Position = omega arith
number-few NotHidden = omega arith
number-few LastToggle = omega arith
number-few Clock = omega arith
number-few Taken = omega arith
number-few Conflict = omega arith
number-few Crossed = omega arith
number-few Unplaceable = omega arith
number-few SenderFull = omega arith
number-few DocumentFull = omega arith
number-few Output = omega arith

-- what is done is no refusal, and what is turned away is not done
pub never-refused : {n m : ℕ} (r : Refusal) → Done n m ≡ Refused r → ⊥
never-refused r e = let z : ◌≡◌ {A = ℕ} 0 1 = cc in omega arith

pub turned_undone : (a : Answer) → Turned a → (reply a).word ≡ done → ⊥
unfolding reply
turned_undone Duplicate t e = let z : ◌≡◌ {A = ℕ} 0 1 = cc in omega arith
turned_undone (Done _ _) t e = elim t [ ]
turned_undone Deferred t e = elim t [ ]
turned_undone (Refused r) t e = let z : ◌≡◌ {A = ℕ} 0 1 = cc in omega arith

-- an answer with the number of a refusal is that refusal
pub answer-number : (a : Answer) (r : Refusal) → ((reply a).refusal ≡ number r) ↔ (a ≡ Refused r)
unfolding reply
answer-number a r = (to a, λ e. rw e)
  where
    to : (b : Answer) → (reply b).refusal ≡ number r → b ≡ Refused r
    to (Done n m) e = absurd (positive r e)
    to Deferred e = absurd (positive r e)
    to Duplicate e = absurd (positive r e)
    to (Refused q) e = ap Refused (numbers_differ q r e)

-- so has a sending call's
sent-number : (a : Sending) (r : Refusal) → ((reply (answer_of a)).refusal ≡ number r) ↔ (a ≡ Err r)
unfolding answer_of
sent-number a r = (λ e. answer-refused a r ((answer-number (answer_of a) r).0 e), λ e. (answer-number (answer_of a) r).1 (ap answer_of e))

-- by what is answered exactly under a condition, so is its number
answer_numbers : {C : Type 0} (a : Answer) (r : Refusal) → ((a ≡ Refused r) ↔ C) → ((reply a).refusal ≡ number r) ↔ C
answer_numbers a r b = let n = answer-number a r in (λ h. b.0 (n.0 h), λ h. n.1 (b.1 h))

pub receive_numbers : ReceiveNumbers
receive_numbers formed s o r = answer_numbers (receive_when formed s o).answer r (receive_refuses formed s o r)

pub receive-at_numbers : ReceiveAtNumbers
receive-at_numbers formed s o g r = answer_numbers (receive_at_when formed s o g).answer r (receive-at_refuses formed s o g r)

-- and so of a sending call
sent_numbers : {C : Type 0} (a : Sending) (r : Refusal) → ((a ≡ Err r) ↔ C) → ((reply (answer_of a)).refusal ≡ number r) ↔ C
sent_numbers a r b = let n = sent-number a r in (λ h. b.0 (n.0 h), λ h. n.1 (b.1 h))

pub insert-numbers : InsertNumbers
insert-numbers formed s g n r = sent_numbers (local_insert_when formed s g n).answer r (insert_refuses formed s g n r)

pub delete-numbers : DeleteNumbers
delete-numbers formed s p r = sent_numbers (local_delete_when formed s p).answer r (delete_refuses formed s p r)

pub restore_numbers : RestoreNumbers
restore_numbers formed s x r = sent_numbers (local_restore_when formed s x).answer r (restore_refuses formed s x r)

-- ---- by word

pub none_first : {A : Type 0} (cs : List (Check A)) → NoneHolds cs → first cs ≡ none
none_first [] w = refl
none_first (c ∷ cs) w = rw w.0 (none_first cs w.1)

-- a word, or a value, that no check answers is that of what is done where none holds
module _ {A B : Type 0} (word : A → B) (w : B) (s : State) (cs : List (Check A)) (r : Outcome A) (never : All (λ a. word a ≡ w → ⊥) cs) where
  pub done_exactly : (word (decided (unchanged s) (first cs) r).answer ≡ w) ↔ (NoneHolds cs × (word r.answer ≡ w))
  unfolding decided unchanged
  done_exactly = (go (first cs) refl, λ h. rw (none_first cs h.0) h.1)
    where
      go : (m : Option A) → first cs ≡ m → word (decided (unchanged s) m r).answer ≡ w → NoneHolds cs × (word r.answer ≡ w)
      go none e h = (first-none cs e, h)
      go (some a) e h = absurd (first_some (λ a. word a ≡ w → ⊥) cs never a e h)

abbrev word_of : Answer → Word
word_of a = (reply a).word

-- what is done where no condition holds: done where everything needed is held, else waits
accept-word : (s : State) (o : Operation) → word_of (accept s o).answer ≡ cond (executable s.characters o) done waits
unfolding accept carry_out defer reply
accept-word s o = go (executable s.characters o) o
  where
    go : (b : Bool) (p : Operation) → word_of (cond b (carry_out Done s p) (defer s p)).answer ≡ cond b done waits
    go true (insert i) = refl
    go true (toggle d) = refl
    go false p = refl

done-waits : done ≡ waits → ⊥
done-waits e = let z : ◌≡◌ {A = ℕ} 0 1 = cc in omega arith

cond-done : (b : Bool) → (cond b done waits ≡ done) ↔ (b ≡ true)
cond-done true = (λ e. refl, λ e. refl)
cond-done false = (λ e. absurd (done-waits (sym e)), λ e. absurd (false≢true e))

cond-waits : (b : Bool) → (cond b done waits ≡ waits) ↔ (b ≡ false)
cond-waits true = (λ e. absurd (done-waits e), λ e. absurd (true≢false e))
cond-waits false = (λ e. refl, λ e. refl)

-- no check of receiving answers done or waits
turned-word : (a : Answer) (w : Word) → (w ≡ known → ⊥) → (w ≡ refused → ⊥) → Turned a → word_of a ≡ w → ⊥
unfolding reply
turned-word (Done n m) w f g t e = t
turned-word Deferred w f g t e = t
turned-word Duplicate w f g t e = f (sym e)
turned-word (Refused r) w f g t e = g (sym e)

all-turned : (w : Word) → (w ≡ known → ⊥) → (w ≡ refused → ⊥) → (cs : List (Check Answer)) → All Turned cs → All (λ a. word_of a ≡ w → ⊥) cs
all-turned w f g [] t = tt
all-turned w f g (c ∷ cs) t = (turned-word c.answer w f g t.0, all-turned w f g cs t.1)

-- what is received where none of the checks holds
module _ (s : State) (o : Operation) (checks : List (Check Answer)) (turned : All Turned checks) where
  abbrev receiving : Outcome Answer
  receiving = decided (unchanged s) (first checks) (accept s o)

  received_does : (word_of receiving.answer ≡ done) ↔ (NoneHolds checks × (executable s.characters o ≡ true))
  received_does =
      let never = all-turned done (λ e. let z : ◌≡◌ {A = ℕ} 0 1 = cc in omega arith) (λ e. let z : ◌≡◌ {A = ℕ} 0 1 = cc in omega arith) checks turned in
      let w = done_exactly word_of done s checks (accept s o) never in
      let b = rw (← accept-word s o) at (cond-done (executable s.characters o)) in
      (λ h. ((w.0 h).0, b.0 (w.0 h).1), λ h. w.1 (h.0, b.1 h.1))

  received-waits : (word_of receiving.answer ≡ waits) ↔ (NoneHolds checks × (executable s.characters o ≡ false))
  received-waits =
      let never = all-turned waits (λ e. let z : ◌≡◌ {A = ℕ} 0 1 = cc in omega arith) (λ e. let z : ◌≡◌ {A = ℕ} 0 1 = cc in omega arith) checks turned in
      let w = done_exactly word_of waits s checks (accept s o) never in
      let b = rw (← accept-word s o) at (cond-waits (executable s.characters o)) in
      (λ h. ((w.0 h).0, b.0 (w.0 h).1), λ h. w.1 (h.0, b.1 h.1))

pub receive_does : ReceiveDoes
unfolding receive_when
receive_does formed s o = received_does s o (receive_checks formed s o) (receive-turned formed s o)

pub receive-waits : ReceiveWaits
unfolding receive_when
receive-waits formed s o = received-waits s o (receive_checks formed s o) (receive-turned formed s o)

pub receive-at_does : ReceiveAtDoes
unfolding receive_at_when
receive-at_does formed s o g = received_does s o (receive_at_checks formed s o g) (receive-at-turned formed s o g)

pub receive-at-waits : ReceiveAtWaits
unfolding receive_at_when
receive-at-waits formed s o g = received-waits s o (receive_at_checks formed s o g) (receive-at-turned formed s o g)

-- ---- the calls that send

abbrev word_sent : Sending → Word
word_sent a = word_of (answer_of a)

-- what no refusal has no check answers
module _ {B : Type 0} (view : Sending → B) (v : B) (never : (r : Refusal) → view (Err r) ≡ v → ⊥) where
  all-refusing : (cs : List (Check Sending)) → All Refusing cs → All (λ a. view a ≡ v → ⊥) cs
  all-refusing [] t = tt
  all-refusing (c ∷ cs) t = (refusing c.answer t.0, all-refusing cs t.1)
    where
      refusing : (a : Sending) → Refusing a → view a ≡ v → ⊥
      refusing (Ok x) t e = t
      refusing (Err r) t e = never r e

not_done : (r : Refusal) → word_sent (Err r) ≡ done → ⊥
unfolding answer_of reply
not_done r e = let z : ◌≡◌ {A = ℕ} 0 1 = cc in omega arith

not-sent : (o : Operation) (r : Refusal) → sent_operation (Err r) ≡ some o → ⊥
unfolding sent_operation
not-sent o r e = no-some e

-- what is sent is done, and is what was made
sent-done : (s : State) (o : Operation) → word_sent (carry_out (sends o) s o).answer ≡ done
unfolding carry_out answer_of reply
sent-done s (insert i) = refl
sent-done s (toggle d) = refl

sent-itself : (s : State) (o : Operation) → sent_operation (carry_out (sends o) s o).answer ≡ some o
unfolding carry_out sent_operation
sent-itself s (insert i) = refl
sent-itself s (toggle d) = refl

-- a call that sends o where none of its conditions holds
module _ (s : State) (checks : List (Check Sending)) (refusing : All Refusing checks) (o : Operation) where
  abbrev sending : Outcome Sending
  sending = decided (unchanged s) (first checks) (carry_out (sends o) s o)

  sent_does : (word_sent sending.answer ≡ done) ↔ NoneHolds checks
  sent_does =
      let w = done_exactly word_sent done s checks (carry_out (sends o) s o) (all-refusing word_sent done not_done checks refusing) in
      (λ h. (w.0 h).0, λ h. w.1 (h, sent-done s o))

  sent-sends : (p : Operation) → (sent_operation sending.answer ≡ some p) ↔ (NoneHolds checks × (o ≡ p))
  sent-sends p =
      let w = done_exactly sent_operation (some p) s checks (carry_out (sends o) s o) (all-refusing sent_operation (some p) (not-sent p) checks refusing) in
      (λ h. ((w.0 h).0, some-eq (sym (sent-itself s o) ∙ (w.0 h).1)), λ h. w.1 (h.0, sent-itself s o ∙ ap some h.1))

pub insert_does : InsertDoes
unfolding local_insert_when send_insert
insert_does formed s g n = sent_does s (insert_checks formed s g n) (insert-turned formed s g n) (insert (generated_insert s g n))

pub delete_does : DeleteDoes
unfolding local_delete_when send_toggle
delete_does formed s p = sent_does s (delete_checks formed s p) (delete_turned formed s p) (toggle (generated_delete s p))

pub restore_does : RestoreDoes
unfolding local_restore_when send_toggle
restore_does formed s x = sent_does s (restore_checks formed s x) (restore_turned formed s x) (toggle (generated_toggle s x))

pub insert-sends : InsertSends
unfolding local_insert_when send_insert
insert-sends formed s g n = sent-sends s (insert_checks formed s g n) (insert-turned formed s g n) (insert (generated_insert s g n))

pub delete_sends : DeleteSends
unfolding local_delete_when send_toggle
delete_sends formed s p = sent-sends s (delete_checks formed s p) (delete_turned formed s p) (toggle (generated_delete s p))

pub restore_sends : RestoreSends
unfolding local_restore_when send_toggle
restore_sends formed s x = sent-sends s (restore_checks formed s x) (restore_turned formed s x) (toggle (generated_toggle s x))
