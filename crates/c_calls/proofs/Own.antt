-- The line of an edit made here is read back as its operation, and receiving that does as the edit did.
use Prim.Native.Nat.{ℕ, ◌≤◌}
use native.Mathlib.Omega.{arith}
use mathlib.Core.Path.{◌≡◌, refl, sym, ap, ◌∙◌}
use mathlib.Core.Bool.{Bool, true, false, ◌&&◌, not, false≢true}
use mathlib.Core.Option.{Option, none, some}
use mathlib.Core.List.{List, [], append-nil}
use lib.Dec.{ltb}
use lib.ListN.{length, take}
use borrow.Author.Tests.{ltb-false, le-ltb, not-false, eq-eqb}
use Rattle.lists.proofs.Tests.{and_left_lem, and_right, or-false-left, or-false-right}
use Rattle.woot.specs.declared.Identifier.{Identifier}
use Rattle.woot.specs.declared.Operation.{Operation}
use Rattle.woot.specs.declared.Operation.TheVariants.{Insert as insert, Toggle as toggle}
use Rattle.answers.specs.declared.Answer.{Answer}
use Rattle.answers.specs.declared.Answer.TheVariants.{Done, Deferred, Duplicate, Refused}
use Rattle.woot.specs.Ranges.{is_code_point, character_id, in_range}
use Rattle.woot.specs.State.{State}
use Rattle.woot.specs.Form.{well_formed}
use Rattle.answers.specs.Answers.{done, reply, changes, NoneHolds, ◌⇒◌, first, decided}
use Rattle.woot.specs.Sending.{answer_of, sent_operation}
use Rattle.woot.specs.Calls.{Outcome, beyond_visible, carry_out, local_insert, send_insert, generated_insert, local_delete, send_toggle, generated_delete, local_restore, generated_toggle}
use Rattle.woot.specs.Cursor.{receive_at, shift_at}
use Rattle.woot.specs.Histories.{Call as RuleCall, inserting, deleting, restoring, receiving_at, with_answer, outcome}
use Rattle.convergence.specs.Cursors.{DoesAs}
use Rattle.convergence.proofs.Own.{own-received}
use Rattle.convergence.proofs.Sending.{sent_in_range}
use Rattle.lines.specs.Lines.{rest}
use Rattle.cursor.specs.Bits.{shift_bits}
use Rattle.codec.specs.Operations.{operation_line}
use Rattle.codec.specs.Calls.{laid_out, said_by}
use Rattle.codec.proofs.Trips.{written-reads-back, was_read}
use Rattle.saved.specs.Format.{saved_laid_out, saved_in_range, saved_bytes}
use Rattle.saved.specs.Calls.{loaded_state}
use Rattle.effects.specs.Results.{result, silent}
use Rattle.effects.specs.Effects.{Effect, quiet, turned, writing_noted, after_receiving_at}
use Rattle.c_calls.specs.Calls.{CCall, wimtaze_empty, wimtaze_receive, wimtaze_receive_at, wimtaze_type, wimtaze_erase, wimtaze_restore, wimtaze_paste, wimtaze_text, wimtaze_counts, wimtaze_upgrade, wimtaze_downgrade, input_checks, one_line, named, handed_checks, earlier_checks, replica_and_line, product_of, short, delivered, effect_of}
use Rattle.c_calls.specs.Calls.{wimtaze_build, wimtaze_load, wimtaze_list, wimtaze_answer}
use Rattle.c_calls.specs.Calls.{wimtaze_archive, wimtaze_unarchive}
use Rattle.c_calls.specs.Steps.{receiving_line_at}
use Rattle.c_calls.specs.Theorems.{bytes_written, line_written, sends, received_at_by, SavesAs, OwnLineReceived}
use Rattle.c_calls.proofs.Listing.{Went, away, lacking, through, went, type_taken, erase-taken, restore_taken}
use Rattle.c_calls.proofs.Fitting.{front}
use Rattle.c_calls.proofs.Bodies.{receive-at-body}
use Rattle.woot.specs.Sent.{Sending, sends as sends_on}

-- a line that was written is one line, in range, and says its operation
pub line-back : (o : Operation) → in_range o ≡ true → (one_line (operation_line o) ≡ true) × (said_by (operation_line o) ≡ o)
unfolding one_line
line-back o r =
    let back = rw append-nil at (written-reads-back o r []) in
    let was = was_read (operation_line o) o back.0 in
    (rw (back.1, was.0), was.1)

-- what a call that sends answers, once it is carried out
pub insert-sent : (s : State) (g n : ℕ) → local_insert s g n ≡ send_insert s (generated_insert s g n) →
    (i : ℕ) × (j : ℕ) × ((local_insert s g n).answer ≡ sends_on (insert (generated_insert s g n)) i j)
unfolding send_insert carry_out
insert-sent s g n e = (_, _, ap (λ (v : Outcome Sending). v.answer) e)

delete_sent : (s : State) (p : ℕ) → local_delete s p ≡ send_toggle s (generated_delete s p) →
    (local_delete s p).answer ≡ sends_on (toggle (generated_delete s p)) 1 0
unfolding send_toggle carry_out
delete_sent s p e = ap (λ (v : Outcome Sending). v.answer) e

restore_sent : (s : State) (x : Identifier) → local_restore s x ≡ send_toggle s (generated_toggle s x) →
    (local_restore s x).answer ≡ sends_on (toggle (generated_toggle s x)) 1 0
unfolding send_toggle carry_out
restore_sent s x e = ap (λ (v : Outcome Sending). v.answer) e

pub sent-told : {a : Sending} {o : Operation} {i j : ℕ} → a ≡ sends_on o i j → sent_operation a ≡ some o
unfolding sent_operation
sent-told e = rw e

-- its outcome as a call of the rules
insert_made : (s : State) (g n : ℕ) → outcome s (inserting g n) ≡ with_answer answer_of (local_insert s g n)
unfolding outcome
insert_made s g n = refl

delete_made : (s : State) (p : ℕ) → outcome s (deleting p) ≡ with_answer answer_of (local_delete s p)
unfolding outcome
delete_made s p = refl

restore_made : (s : State) (x : Identifier) → outcome s (restoring x) ≡ with_answer answer_of (local_restore s x)
unfolding outcome
restore_made s x = refl

at-outcome : (s : State) (o : Operation) (g : ℕ) → outcome s (receiving_at o g) ≡ receive_at s o g
unfolding outcome
at-outcome s o g = refl

module _ (bytes : List ℕ) (gap : ℕ) where
  abbrev said : State
  said = loaded_state bytes

  -- what was handed passes every condition on it
  pub record Passed : Type 0 where
    pub laid : saved_laid_out bytes ≡ true
    pub ranged : saved_in_range bytes ≡ true
    pub formed : well_formed said ≡ true

  passed_so : (a b : Bool) → not (saved_laid_out bytes && a) ≡ false → not (saved_in_range bytes && b) ≡ false → well_formed said ≡ true → Passed
  passed_so a b l r f =
      record {
        laid = and_left_lem (saved_laid_out bytes) a (not-false _ l);
        ranged = and_left_lem (saved_in_range bytes) b (not-false _ r);
        formed = f;
      }

  -- receiving the line of an operation that does as a call of the rules did
  received-own : Passed → (o : Operation) (r : RuleCall) (n m : ℕ) → in_range o ≡ true → outcome said (receiving_at o gap) ≡ outcome said r →
      (outcome said r).answer ≡ Done n m → (again : List ℕ) → length (saved_bytes (outcome said r).state) ≤ length again →
      ((received_at_by bytes (operation_line o) gap again).result.reply ≡ reply (Done n m))
      × (bytes_written (received_at_by bytes (operation_line o) gap again) ≡ saved_bytes (outcome said r).state)
  unfolding receiving_line_at input_checks decided after_receiving_at changes result
  received-own p o r n m inr does ans again room =
      let l = line-back o inr in
      let same = sym (at-outcome said o gap) ∙ does in
      let new = saved_bytes (outcome said r).state in
      rw (receive-at-body bytes again (operation_line o) gap, l.0, l.1, p.laid, p.ranged, p.formed, inr, same, ans, le-ltb (length again) (length new) room)
      (refl, front again new room)

  module _ (out line again : List ℕ) where
    sent-own : Passed → (w : Outcome Sending) (o : Operation) (r : RuleCall) (n m : ℕ) → w.answer ≡ sends_on o n m →
        outcome said r ≡ with_answer answer_of w → DoesAs said r o → in_range o ≡ true → beyond_visible said gap ≡ false →
        short (replica_and_line w o) out line ≡ false → length (saved_bytes w.state) ≤ length again →
        SavesAs (delivered (replica_and_line w o) out line) (received_at_by bytes (line_written (delivered (replica_and_line w o) out line)) gap again)
    unfolding result answer_of
    sent-own p w o r n m ans made does inr within h room =
        let state = ap (λ (v : Outcome Answer). v.state) made in
        let answer : (outcome said r).answer ≡ Done n m = ap (λ (v : Outcome Answer). v.answer) made ∙ ap answer_of ans in
        let short-out : Bool = ltb (length out) (length (saved_bytes w.state)) in
        let short-line : Bool = ltb (length line) (length (operation_line o)) in
        let sheet = ltb-false (length out) (length (saved_bytes w.state)) (or-false-left short-out short-line h) in
        let told = front line (operation_line o) (ltb-false (length line) (length (operation_line o)) (or-false-right short-out short-line h)) in
        let back = received-own p o r n m inr (does.1 gap within) answer again (omega (arith, ap (λ (t : State). length (saved_bytes t)) state, room)) in
        record {
          same-reply = ap (λ (l : List ℕ). (received_at_by bytes l gap again).result.reply) told ∙ back.0 ∙ ap reply (sym (ap answer_of ans));
          same_bytes =
              ap (λ (l : List ℕ). bytes_written (received_at_by bytes l gap again)) told ∙ back.1
              ∙ ap saved_bytes state
              ∙ sym (front out (saved_bytes w.state) sheet);
        }

    -- the facts of each call that sends
    type_own : (g n : ℕ) → NoneHolds (earlier_checks (wimtaze_type g n) bytes) → beyond_visible said gap ≡ false →
        short (product_of (wimtaze_type g n) bytes) out line ≡ false → (product_of (wimtaze_type g n) bytes).result.written ≤ length again →
        SavesAs (delivered (product_of (wimtaze_type g n) bytes) out line) (received_at_by bytes (line_written (delivered (product_of (wimtaze_type g n) bytes) out line)) gap again)
    unfolding product_of result handed_checks input_checks
    type_own g n w within h room =
        let t = type_taken bytes g n w in
        let i = generated_insert said g n in
        let k = insert-sent said g n t.1 in
        let e = sent-told k.2 in
        sent-own (passed_so true (is_code_point n) w.0 w.1.0 t.0) (local_insert said g n) (insert i) (inserting g n) k.0 k.1 k.2 (insert_made said g n)
        (own-received.0 said g n (insert i) e) (sent_in_range.0 said g n (insert i) e) within h room

    erase-own : (p : ℕ) → NoneHolds (earlier_checks (wimtaze_erase p) bytes) → beyond_visible said gap ≡ false →
        short (product_of (wimtaze_erase p) bytes) out line ≡ false → (product_of (wimtaze_erase p) bytes).result.written ≤ length again →
        SavesAs (delivered (product_of (wimtaze_erase p) bytes) out line) (received_at_by bytes (line_written (delivered (product_of (wimtaze_erase p) bytes) out line)) gap again)
    unfolding product_of result handed_checks input_checks
    erase-own p w within h room =
        let t = erase-taken bytes p w in
        let d = generated_delete said p in
        let k = delete_sent said p t.1 in
        let e = sent-told k in
        sent-own (passed_so true true w.0 w.1.0 t.0) (local_delete said p) (toggle d) (deleting p) 1 0 k (delete_made said p)
        (own-received.1 said p (toggle d) e) (sent_in_range.1 said p (toggle d) e) within h room

    restore_own : (n t : ℕ) → NoneHolds (earlier_checks (wimtaze_restore n t) bytes) → beyond_visible said gap ≡ false →
        short (product_of (wimtaze_restore n t) bytes) out line ≡ false → (product_of (wimtaze_restore n t) bytes).result.written ≤ length again →
        SavesAs (delivered (product_of (wimtaze_restore n t) bytes) out line) (received_at_by bytes (line_written (delivered (product_of (wimtaze_restore n t) bytes) out line)) gap again)
    unfolding product_of result handed_checks input_checks
    restore_own n t w within h room =
        let x = named n t in
        let q = restore_taken bytes n t w in
        let d = generated_toggle said x in
        let k = restore_sent said x q.1 in
        let e = sent-told k in
        sent-own (passed_so true (character_id x) w.0 w.1.0 q.0) (local_restore said x) (toggle d) (restoring x) 1 0 k (restore_made said x)
        (own-received.2 said x (toggle d) e) (sent_in_range.2 said x (toggle d) e) within h room

    product-own : (c : CCall) → sends c ≡ true → NoneHolds (earlier_checks c bytes) → beyond_visible said gap ≡ false →
        short (product_of c bytes) out line ≡ false → (product_of c bytes).result.written ≤ length again →
        SavesAs (delivered (product_of c bytes) out line) (received_at_by bytes (line_written (delivered (product_of c bytes) out line)) gap again)
    product-own (wimtaze_empty n) k = absurd (false≢true k)
    product-own (wimtaze_build n heap) k = absurd (false≢true k)
    product-own wimtaze_load k = absurd (false≢true k)
    product-own (wimtaze_receive l) k = absurd (false≢true k)
    product-own (wimtaze_receive_at l g) k = absurd (false≢true k)
    product-own (wimtaze_type g n) k = type_own g n
    product-own (wimtaze_erase p) k = erase-own p
    product-own (wimtaze_restore n t) k = restore_own n t
    product-own (wimtaze_paste g block) k = absurd (false≢true k)
    product-own wimtaze_text k = absurd (false≢true k)
    product-own wimtaze_counts k = absurd (false≢true k)
    product-own wimtaze_list k = absurd (false≢true k)
    product-own (wimtaze_answer list) k = absurd (false≢true k)
    product-own wimtaze_upgrade k = absurd (false≢true k)
    product-own wimtaze_downgrade k = absurd (false≢true k)
    product-own wimtaze_archive k = absurd (false≢true k)
    product-own wimtaze_unarchive k = absurd (false≢true k)

    went-own : (c : CCall) → sends c ≡ true → {e : Effect} → Went c bytes out line e → e.result.reply.word ≡ done → beyond_visible said gap ≡ false →
        e.result.written ≤ length again → SavesAs e (received_at_by bytes (line_written e) gap again)
    unfolding quiet silent result reply
    went-own c k (away (Done n m) t r) e within room = absurd t.turned
    went-own c k (away Deferred t r) e within room = absurd t.turned
    went-own c k (away Duplicate t r) e within room = absurd (let z : ◌≡◌ {A = ℕ} 0 1 = cc in omega arith)
    went-own c k (away (Refused q) t r) e within room = absurd (let z : ◌≡◌ {A = ℕ} 0 1 = cc in omega arith)
    went-own c k (lacking w h) e within room = absurd (let z : ◌≡◌ {A = ℕ} 0 1 = cc in omega arith)
    went-own c k (through w h) e within room = product-own c k w within h room

pub own_line_received : OwnLineReceived
own_line_received c bytes out line gap again k e within room = went-own bytes gap out line again c k (went c bytes out line) e within room
