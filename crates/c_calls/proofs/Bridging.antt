-- The rule on the state that the bytes say is the call on the replica that was read: where the state is in form the
-- replica means it, and where it is not, refusal 3 is all that either answers.
use Rattle.std.proofs.Common.{Ok, Err}
use Prim.Native.Nat.{ℕ, ◌≤◌}
use native.Mathlib.Omega.{arith}
use mathlib.Core.Path.{◌≡◌, refl, sym, ap, ◌∙◌}
use mathlib.Core.Bool.{Bool, true, false, not, cond}
use mathlib.Core.List.{List, [], ◌∷◌, map}
use borrow.Author.Tests.{not-false}
use lib.ListN.{length, length-map}
use mathlib.Core.Option.{Option, none, some}
use Rattle.lists.specs.Lists.{every, missing}
use Rattle.decoding.specs.Decoding.{decoded}
use Rattle.woot.specs.declared.Identifier.{Identifier}
use Rattle.woot.specs.declared.Operation.{Operation}
use Rattle.woot.specs.declared.Operation.TheVariants.{Insert as insert}
use Rattle.woot.specs.declared.Character.{Character}
use Rattle.woot.specs.declared.Replica.{Replica}
use Rattle.answers.specs.declared.Refusal.{Refusal}
use Rattle.answers.specs.declared.Refusal.TheVariants.{NotUtf8, Form}
use Rattle.answers.specs.declared.Answer.{Answer}
use Rattle.answers.specs.declared.Answer.TheVariants.{Done, Deferred, Duplicate, Refused}
use Rattle.woot.specs.declared.ReceiptAt.{ReceiptAt}
use Rattle.woot.specs.declared.Generated.{Generated}
use Rattle.woot.specs.Operations.{character, inserts}
use Rattle.woot.specs.Ranges.{is_code_point, character_id, in_range}
use Rattle.woot.specs.Table.{key, keys}
use Rattle.woot.specs.State.{State}
use Rattle.woot.specs.Memory.{character_slots, character_numbers, previous_keys, next_keys, code_points_of, stored, meaning, replica_well_formed}
use Rattle.woot.specs.Form.{well_formed}
use Rattle.woot.specs.Writing.{Written}
use Rattle.answers.specs.Answers.{reply, changes, Check, ◌⇒◌, first, decided, NoneHolds}
use Rattle.woot.specs.Writing.{written_number, written_length}
use Rattle.woot.specs.Calls.{Outcome, unchanged, insert_checks, local_insert_when, local_insert, delete_checks, local_delete_when, local_delete, restore_checks, local_restore_when, local_restore}
use Rattle.woot.specs.Cursor.{receive_at_checks, receive_at_when, receive_at, shift_of, shift_at}
use Rattle.woot.specs.Histories.{inserting, deleting, restoring, receiving_at, outcome}
use Rattle.bulk.specs.Pasting.{PasteOutcome, unpasted, paste_checks, paste_when, paste}
use Rattle.woot.specs.Text.{text}
use Rattle.woot.specs.Replicas.{after_answer, after_sent, receipt_at, generated, received_at, inserted, deleted, restored}
use Rattle.cursor.specs.Bits.{shift_bits}
use Rattle.replica.specs.Texts.{text_of}
use Rattle.replica.proofs.Runs.{Within, formed-within, meaning-stored, form_stored, form_meant}
use Rattle.codec.specs.Operations.{operation_line}
use Rattle.saved.specs.declared.Version.{Version}
use Rattle.saved.specs.Format.{saved_bytes}
use Rattle.saved.specs.Calls.{loaded_state, bytes_of}
use Rattle.saved.specs.Conversion.{conversion, conversion_refusals, conversion_checks, converted, converted_out}
use Rattle.saved.specs.Archive.{archiving, archiving_refusals, archiving_checks, archive_written, archive_out, unarchiving}
use Rattle.saved.specs.Archive.{unarchiving_refusals, unarchiving_checks, unarchive_written, unarchive_out}
use Rattle.convergence.proofs.Kept.{form_kept}
use Rattle.convergence.proofs.Steps.{first-none}
use Rattle.convergence.proofs.Pasting.{paste_form_kept}
use Rattle.effects.specs.Effects.{Effect, quiet, turned, writing, writing_both, sending, after_sending, writing_noted, after_receiving_at, sending_all, after_pasting}
use Rattle.effects.specs.Results.{silent, result}
use Rattle.c_calls.specs.Calls.{input_checks}
use Rattle.c_calls.specs.Steps.{counting, converting, archiving_here, unarchiving_here}
use Rattle.c_calls.proofs.Refusals.{Reads, form_left}
use Rattle.c_calls.proofs.Blocks.{own-few, own-inserts}
use Rattle.effects.proofs.Outputs.{checked-written}
use Rattle.effects.specs.Steps.{after_noting, after_writing, sent_left, generated_left, text_left, receipt_at_left}
use Rattle.effects.proofs.Columns.{inserts-back, lines_left_lem}
use Rattle.effects.specs.Steps.{lines_left}
use Rattle.typing.specs.Columns.{characters_by, typed_columns}
use Rattle.pasting.specs.declared.Pasted.{Pasted}
use Rattle.pasting.specs.Replicas.{after_typing, pasted_with, pasted_by}
use Rattle.effects.proofs.Saving.{columns-length}
use Rattle.effects.specs.Counts.{counts_of}
use Rattle.effects.specs.Counting.{counts_left}
use Rattle.woot.specs.Sent.{Sending}

-- the form first, and then the rest
abbrev pub formed-first : State → List ℕ → List ℕ → Effect → Effect
formed-first s out line e = decided (turned out line) (first ((not (well_formed s) ⇒ Form) ∷ [])) e

-- the refusals over what was handed, by what is left of them
pub goes_on_lem : (out line : List ℕ) {o p : Option Refusal} (e : Effect) → o ≡ p → decided (turned out line) o e ≡ decided (turned out line) p e
goes_on_lem out line e h = ap (λ (x : Option Refusal). decided (turned out line) x e) h

-- the bytes of a state as it is stored
pub stored_bytes : (s : State) → Within s → bytes_of (stored s) ≡ saved_bytes s
stored_bytes s w = ap saved_bytes (meaning-stored s w)

-- ---- what a rule leaves in form, saved

receipt-at-saved : (r : Replica) (g : ℕ) (w : Outcome Answer) (out : List ℕ) → well_formed w.state ≡ true → receipt_at_left (receipt_at r g w) out ≡ after_receiving_at w (shift_of (meaning r) w g) out
unfolding receipt_at_left receipt_at after_receiving_at changes after_answer
receipt-at-saved r g w out f = go w.answer
  where
    same : bytes_of (stored w.state) ≡ saved_bytes w.state
    same = stored_bytes w.state (formed-within w.state f)

    note : ℕ
    note = shift_bits (shift_of (meaning r) w g)

    go : (a : Answer)
        → cond (changes a) (writing_noted a note (bytes_of (after_answer r w.state a)) out) (quiet out [] a)
        ≡ cond (changes a) (writing_noted a note (saved_bytes w.state) out) (quiet out [] a)
    go (Done n m) = ap (λ (bytes : List ℕ). writing_noted (Done n m) note bytes out) same
    go Deferred = ap (λ (bytes : List ℕ). writing_noted Deferred note bytes out) same
    go Duplicate = refl
    go (Refused q) = refl

sent-saved : (r : Replica) (w : Outcome Sending) (out line : List ℕ) → well_formed w.state ≡ true → generated_left (generated r w) out line ≡ after_sending w out line
unfolding generated_left generated after_sending sent_left sending after_sent
sent-saved r w out line f = go w.answer
  where
    go : (a : Sending) → sent_left a (after_sent r w.state a) out line ≡ sending w.state a out line
    go (Ok x) = ap (λ (bytes : List ℕ). writing_both (Done x.integrated x.discarded) bytes (operation_line x.operation) out line) (stored_bytes w.state (formed-within w.state f))
    go (Err q) = refl

-- ---- the form

module _ (s : State) (out line : List ℕ) (e : Effect) where
  formed-on : well_formed s ≡ true → formed-first s out line e ≡ e
  unfolding decided
  formed-on h = rw h

  formed-off : well_formed s ≡ false → formed-first s out line e ≡ turned out line Form
  unfolding decided
  formed-off h = rw h

module _ (r : Replica) (s : State) (read : Reads r s) (h : well_formed s ≡ true) where
  received-read : (o : Operation) (g : ℕ) → received_at r o g ≡ receipt_at r g (receive_at s o g)
  unfolding received_at receive_at
  received-read o g = rw (read.form, read.means h)

  inserted-read : (g n : ℕ) → inserted r g n ≡ generated r (local_insert s g n)
  unfolding inserted local_insert
  inserted-read g n = rw (read.form, read.means h)

  deleted-read : (p : ℕ) → deleted r p ≡ generated r (local_delete s p)
  unfolding deleted local_delete
  deleted-read p = rw (read.form, read.means h)

  restored-read : (x : Identifier) → restored r x ≡ generated r (local_restore s x)
  unfolding restored local_restore
  restored-read x = rw (read.form, read.means h)

-- a replica out of form is refused with 3
module _ (r : Replica) (f : replica_well_formed r ≡ false) where
  received-off : (o : Operation) (g : ℕ) (out : List ℕ) → in_range o ≡ true → receipt_at_left (received_at r o g) out ≡ turned out [] Form
  unfolding received_at receipt_at receive_at_when receive_at_checks decided unchanged receipt_at_left changes turned
  received-off o g out ranged = rw (ranged, f)

  inserted-off : (g n : ℕ) → is_code_point n ≡ true → inserted r g n ≡ record { answer = Err Form; replica = r }
  unfolding inserted generated local_insert_when insert_checks decided unchanged after_sent
  inserted-off g n ranged = rw (ranged, f)

  deleted-off : (p : ℕ) → deleted r p ≡ record { answer = Err Form; replica = r }
  unfolding deleted generated local_delete_when delete_checks decided unchanged after_sent
  deleted-off p = rw f

  restored-off : (x : Identifier) → character_id x ≡ true → restored r x ≡ record { answer = Err Form; replica = r }
  unfolding restored generated local_restore_when restore_checks decided unchanged after_sent
  restored-off x ranged = rw (ranged, f)

unformed : (r : Replica) (out : List ℕ) → replica_well_formed r ≡ false → text_left r out ≡ turned out [] Form
unfolding text_left decided
unformed r out f = rw f

-- ---- the calls

module _ (r : Replica) (s : State) (read : Reads r s) (out : List ℕ) where
  pub receive_bridge : (o : Operation) (g : ℕ) → in_range o ≡ true → formed-first s out [] (after_receiving_at (receive_at s o g) (shift_at s o g) out) ≡ receipt_at_left (received_at r o g) out
  unfolding shift_at outcome
  receive_bridge o g ranged = go (well_formed s) refl
    where
      go : (b : Bool) → well_formed s ≡ b → formed-first s out [] (after_receiving_at (receive_at s o g) (shift_at s o g) out) ≡ receipt_at_left (received_at r o g) out
      go true e =
          formed-on s out [] _ e
          ∙ ap (λ (t : State). after_receiving_at (receive_at s o g) (shift_of t (receive_at s o g) g) out) (sym (read.means e))
          ∙ sym (receipt-at-saved r g (receive_at s o g) out (form_kept s (receiving_at o g) e))
          ∙ ap (λ (x : ReceiptAt). receipt_at_left x out) (sym (received-read r s read e o g))
      go false e = formed-off s out [] _ e ∙ sym (received-off r (read.form ∙ e) o g out ranged)

  pub text_bridge : formed-first s out [] (writing (Done 0 0) (text s.characters) out) ≡ text_left r out
  unfolding text_left text_of
  text_bridge = go (well_formed s) refl
    where
      go : (b : Bool) → well_formed s ≡ b → formed-first s out [] (writing (Done 0 0) (text s.characters) out) ≡ text_left r out
      go true e = rw (read.form, read.means e)
      go false e = formed-off s out [] _ e ∙ sym (unformed r out (read.form ∙ e))

  module _ (line : List ℕ) where
    -- a call that sends goes on as its rule does, and is refused with 3 where the form lacks
    bridge : (w : Outcome Sending) (x : Generated) → (well_formed s ≡ true → well_formed w.state ≡ true) → (well_formed s ≡ true → x ≡ generated r w)
        → (well_formed s ≡ false → x ≡ record { answer = Err Form; replica = r })
        → formed-first s out line (after_sending w out line) ≡ generated_left x out line
    unfolding generated_left sent_left
    bridge w x kept on off = go (well_formed s) refl
      where
        go : (b : Bool) → well_formed s ≡ b → formed-first s out line (after_sending w out line) ≡ generated_left x out line
        go true e = formed-on s out line _ e ∙ sym (sent-saved r w out line (kept e)) ∙ ap (λ (y : Generated). generated_left y out line) (sym (on e))
        go false e = formed-off s out line _ e ∙ ap (λ (y : Generated). generated_left y out line) (sym (off e))

    pub type_bridge : (g n : ℕ) → is_code_point n ≡ true → formed-first s out line (after_sending (local_insert s g n) out line) ≡ generated_left (inserted r g n) out line
    unfolding outcome
    type_bridge g n ranged =
        bridge (local_insert s g n) (inserted r g n) (form_kept s (inserting g n)) (λ e. inserted-read r s read e g n) (λ e. inserted-off r (read.form ∙ e) g n ranged)

    pub erase_bridge : (p : ℕ) → formed-first s out line (after_sending (local_delete s p) out line) ≡ generated_left (deleted r p) out line
    unfolding outcome
    erase_bridge p = bridge (local_delete s p) (deleted r p) (form_kept s (deleting p)) (λ e. deleted-read r s read e p) (λ e. deleted-off r (read.form ∙ e) p)

    pub restore_bridge : (x : Identifier) → character_id x ≡ true → formed-first s out line (after_sending (local_restore s x) out line) ≡ generated_left (restored r x) out line
    unfolding outcome
    restore_bridge x ranged =
        bridge (local_restore s x) (restored r x) (form_kept s (restoring x)) (λ e. restored-read r s read e x) (λ e. restored-off r (read.form ∙ e) x ranged)

-- ---- pasting

-- what pasting would leave on the replica that was read: its own form decides
pub paste_bridge : (r : Replica) (s : State) → Reads r s → (g : ℕ) (block out line : List ℕ) →
    after_pasting (paste s g block) out line ≡ after_pasting (paste_when (replica_well_formed r) (meaning r) g block) out line
unfolding paste paste_when paste_checks decided unpasted after_pasting sending_all
paste_bridge r s read g block out line = go (well_formed s) refl
  where
    -- out of form the block alone decides between 20 and 3
    off : (t u : State) (b : Bool) → missing (decoded block) ≡ b → after_pasting (paste_when false t g block) out line ≡ after_pasting (paste_when false u g block) out line
    off t u true e = rw e
    off t u false e = rw e

    go : (b : Bool) → well_formed s ≡ b →
        after_pasting (paste_when (well_formed s) s g block) out line ≡ after_pasting (paste_when (replica_well_formed r) (meaning r) g block) out line
    go true e = rw (read.form, read.means e)
    go false e = rw (read.form, e) (off s (meaning r) (missing (decoded block)) refl)

-- what was typed, where pasting is done and where it is refused: inserts in range, no more than the slots, and a state in
-- form where there are some
pub record Typed (w : PasteOutcome) : Type 0 where
  pub ranged : every in_range w.own ≡ true
  pub all : map insert (inserts w.own) ≡ w.own
  pub few : length w.own ≤ character_slots
  pub formed : (w.own ≡ [] → ⊥) → well_formed w.state ≡ true

module _ (s : State) (g : ℕ) (block : List ℕ) where
  unpasted-typed : (a : Answer) → Typed (unpasted s a)
  unfolding unpasted
  unpasted-typed a = record { ranged = refl; all = refl; few = omega arith; formed = λ k. absurd (k refl) }

  paste-typed : Typed (paste s g block)
  unfolding paste paste_when paste_checks decided
  paste-typed = go (first rs) refl
    where
      rs : List (Check Answer)
      rs = paste_checks (well_formed s) s g block

      form : NoneHolds rs → well_formed s ≡ true
      form w = not-false (well_formed s) w.1.0

      go : (m : Option Answer) → first rs ≡ m → Typed (paste s g block)
      go none h =
          let w = first-none rs h in
          let i = own-inserts s g block w in
          record { ranged = i.0; all = i.1; few = own-few s g block w; formed = λ k. paste_form_kept s g block (form w) }
      go (some a) h = rw h (unpasted-typed a)

  pub pasted-typed : (formed : Bool) → (formed ≡ true → well_formed s ≡ true) → Typed (paste_when formed s g block)
  unfolding paste paste_when paste_checks decided
  pasted-typed true f = rw (f refl) at paste-typed
  pasted-typed false f = go (missing (decoded block)) refl
    where
      go : (b : Bool) → missing (decoded block) ≡ b → Typed (paste_when false s g block)
      go true e = rw e (unpasted-typed (Refused NotUtf8))
      go false e = rw e (unpasted-typed (Refused Form))

module _ (r : Replica) (g : ℕ) (block : List ℕ) {x : Pasted} (e : x ≡ pasted_by r g block) where
  abbrev pasting : PasteOutcome
  pasting = paste_when (replica_well_formed r) (meaning r) g block

  typed : Typed pasting
  typed = pasted-typed (meaning r) g block (replica_well_formed r) (form_meant r)

  -- the replica that came back holds the new state where something was typed
  stored-then : (os : List Operation) (t : State) → (os ≡ [] → ⊥) → after_typing r t os ≡ stored t
  unfolding after_typing
  stored-then [] t k = absurd (k refl)
  stored-then (o ∷ os) t k = refl

  -- what sending the lines asks
  pub lines_sendable : (length x.typed ≡ character_numbers) × (x.count ≤ character_slots) × ((x.count ≡ 0 → ⊥) → replica_well_formed x.replica ≡ true)
  unfolding pasted_by pasted_with typed_columns
  lines_sendable =
      let cs = characters_by pasting.own in
      let many = length-map (inserts pasting.own) character in
      let row : (f : Character → ℕ) → length (map f cs) ≤ 1024 =
      λ f. omega (arith, length-map cs f, many, length-map (inserts pasting.own) insert, ap length typed.all, typed.few) in
      rw e (
        columns-length 1024 (keys cs) (previous_keys cs) (next_keys cs) (code_points_of cs) (row (λ c. key c.id)) (row (λ c. key c.previous)) (row (λ c. key c.next)) (row (λ c. c.code_point)),
        typed.few,
        λ k. let n : pasting.own ≡ [] → ⊥ = λ z. k (ap length z) in
            ap replica_well_formed (stored-then pasting.own pasting.state n)
            ∙ form_stored pasting.state (formed-within pasting.state (typed.formed n))
            ∙ typed.formed n,
      )

  -- and what it leaves
  pub lines_bridge : (out line : List ℕ) → after_pasting pasting out line ≡ lines_left x.answer x.replica x.typed x.count out line
  unfolding after_pasting pasted_by pasted_with
  lines_bridge out line =
      rw e
      (lines_left_lem pasting.state pasting.answer (after_typing r pasting.state pasting.own) (typed_columns pasting.own) pasting.own out line
      (λ n.
      ap bytes_of (stored-then pasting.own pasting.state n)
      ∙ stored_bytes pasting.state (formed-within pasting.state (typed.formed n)))
      (inserts-back pasting.own typed.ranged typed.all typed.few))

-- ---- between the forms

pub conversion_bridge : (v w : Version) (bytes out : List ℕ)
    → converting v w bytes out ≡ record { result = after_writing (Done 0 0) (converted v w bytes out); output = converted_out v w bytes out; line = [] }
unfolding converting converted converted_out conversion_checks
conversion_bridge v w bytes out = checked-written (conversion_refusals v w bytes) (conversion v w bytes) out

-- a writer's answer is told by its number and its length
pub answer-told : (w : Written) →
    ((after_writing (Done 0 0) w).reply.refusal ≡ written_number w) × ((after_writing (Done 0 0) w).written ≡ written_length w)
unfolding after_writing after_noting silent result reply written_number written_length
answer-told (Ok n) = (refl, refl)
answer-told (Err q) = (refl, refl)

pub converting_tells : (v w : Version) (bytes out : List ℕ) →
    ((converting v w bytes out).result.reply.refusal ≡ written_number (converted v w bytes out))
    × ((converting v w bytes out).result.written ≡ written_length (converted v w bytes out))
    × ((converting v w bytes out).output ≡ converted_out v w bytes out)
converting_tells v w bytes out =
    let t = answer-told (converted v w bytes out) in
    rw (conversion_bridge v w bytes out) (t.0, t.1, refl)

-- ---- archives

module _ (bytes out : List ℕ) where
  pub archive_bridge : archiving_here bytes out
      ≡ record {
        result = after_writing (Done 0 0) (archive_written bytes out);
        output = archive_out bytes out;
        line = [];
      }
  unfolding archiving_here archive_written archive_out archiving_checks
  archive_bridge = checked-written (archiving_refusals bytes) (archiving bytes) out

  pub unarchive_bridge : unarchiving_here bytes out
      ≡ record {
        result = after_writing (Done 0 0) (unarchive_written bytes out);
        output = unarchive_out bytes out;
        line = [];
      }
  unfolding unarchiving_here unarchive_written unarchive_out unarchiving_checks
  unarchive_bridge = checked-written (unarchiving_refusals bytes) (unarchiving bytes) out

-- ---- the counts, which write nothing

counts_bridge : (r : Replica) (s : State) → Reads r s → decided (λ q. silent (Refused q)) (first ((not (well_formed s) ⇒ Form) ∷ [])) (counts_of s) ≡ counts_left r
unfolding counts_left decided
counts_bridge r s read = go (well_formed s) refl
  where
    go : (b : Bool) → well_formed s ≡ b
        → decided (λ q. silent (Refused q)) (first ((not (well_formed s) ⇒ Form) ∷ [])) (counts_of s) ≡ counts_left r
    go true e = rw (read.form, read.means e)
    go false e = rw (read.form, e)

module _ (bytes : List ℕ) where
  pub counts_refused : {q : Refusal} → first (input_checks bytes true true) ≡ some q → counting bytes ≡ silent (Refused q)
  unfolding counting decided
  counts_refused h = rw h

  pub counts_passed : {r : Replica} → first (input_checks bytes true true) ≡ form_left bytes → Reads r (loaded_state bytes) → counting bytes ≡ counts_left r
  unfolding counting
  counts_passed h read =
      ap (λ (o : Option Refusal). decided (λ q. silent (Refused q)) o (counts_of (loaded_state bytes))) h
      ∙ counts_bridge _ (loaded_state bytes) read
