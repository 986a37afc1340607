-- A call that answers 9 on a copy hands its rule a state that meets 9; and the copy holds a state that the rules leave
-- from a beginning, where none does.
use Prim.Native.Nat.{ℕ, ◌≤◌, ◌<◌}
use native.Mathlib.Omega.{arith}
use mathlib.Core.Path.{◌≡◌, refl, sym, ap, ◌∙◌}
use mathlib.Core.Bool.{Bool, true, false, false≢true, not}
use mathlib.Core.Logic.{◌⊎◌, inl, inr}
use mathlib.Core.List.{List, [], ◌∷◌, ◌++◌}
use lib.ListN.{length, drop}
use borrow.Author.Tests.{not-false}
use Rattle.lists.proofs.Tests.{and_left_lem, and_right, side}
use Rattle.woot.specs.declared.Operation.{Operation}
use Rattle.woot.specs.declared.Replica.{Replica}
use Rattle.answers.specs.declared.Refusal.{Refusal}
use Rattle.answers.specs.declared.Refusal.TheVariants.{Unplaceable}
use Rattle.answers.specs.declared.Answer.{Answer}
use Rattle.answers.specs.declared.Answer.TheVariants.{Refused}
use Rattle.woot.specs.Ranges.{is_code_point, in_range}
use Rattle.woot.specs.State.{State}
use Rattle.woot.specs.Form.{well_formed}
use Rattle.answers.specs.Answers.{reply, Check, decided, Reported, here, later}
use Rattle.woot.specs.Sending.{answer_of}
use Rattle.woot.specs.Calls.{receive_checks, receive, insert_checks, local_insert}
use Rattle.woot.specs.Cursor.{receive_at_checks, receive_at}
use Rattle.bulk.specs.Pasting.{paste_checks, paste}
use Rattle.bulk.specs.Loading.{loadable, use_checks, unused, use_when}
use Rattle.woot.specs.Memory.{meaning, replica_well_formed}
use Rattle.woot.specs.Histories.{run, outcome, inserting, receiving, receiving_at, Call as RuleCall}
use Rattle.bulk.specs.Beginnings.{Begun, start_of}
use Rattle.convergence.proofs.Grown.{never-unplaceable}
use Rattle.convergence.proofs.Pasting.{paste_refuses, paste-never-unplaceable}
use Rattle.convergence.proofs.Refusals.{skipped, other, receive_refuses, receive-at_refuses, insert_refuses}
use Rattle.convergence.proofs.Replies.{answer-number}
use Rattle.replica.specs.Theorems.{answer_to}
use Rattle.admission.specs.Calls.{admitted_as, admitted_by}
use Rattle.pasting.specs.Replicas.{pasted_with, pasted_by}
use Rattle.lent.specs.Lent.{returned}
use Rattle.codec.specs.Calls.{laid_out, said_by, read_operation}
use Rattle.codec.proofs.Judging.{read-layout, read-range, read-operation}
use Rattle.transcript.specs.Calls.{received_as, received_line}
use Rattle.saved.specs.Format.{saved_laid_out, saved_in_range, saved_bytes}
use Rattle.saved.specs.Calls.{loaded_state, bytes_of, load_number, load_checks, unread, loaded}
use Rattle.saved.proofs.Refusals.{save_numbers}
use Rattle.saved.proofs.Trips.{saved_loads, saved-reads-back}
use Rattle.c_calls.specs.Calls.{CCall, wimtaze_empty, wimtaze_build, wimtaze_load, wimtaze_receive}
use Rattle.c_calls.specs.Calls.{wimtaze_receive_at, wimtaze_type, wimtaze_erase, wimtaze_restore}
use Rattle.c_calls.specs.Calls.{wimtaze_paste, wimtaze_text, wimtaze_counts, wimtaze_list, wimtaze_answer}
use Rattle.c_calls.specs.Calls.{wimtaze_upgrade, wimtaze_archive, wimtaze_unarchive}
use Rattle.c_calls.specs.Calls.{wimtaze_downgrade, input_checks, one_line, handed_checks, rule_checks, call_checks}
use Rattle.c_calls.proofs.Fitting.{returned-reads-back}
use Rattle.c_calls.proofs.Listing.{calls_refuse}
use Rattle.c_calls.proofs.Taken.{unmet, unanswered}
use Rattle.consistency.specs.Copies.{Copy, Call, MemoryCall, on_replica, on_record, on_block, on_line, admit, save}
use Rattle.consistency.specs.Copies.{memory_call, BytesCall, load, for_c, bytes_call, refusal_in_memory}
use Rattle.consistency.specs.Copies.{refusal_on_bytes, refusal_on, begun, beginning_of, ran, rules_by}
use Rattle.consistency.specs.Theorems.{LoadedNeverNine}
use Rattle.consistency.proofs.Holding.{Means, Holds, memory, bytes, nothing}
use Rattle.consistency.proofs.Memory.{called_meant}
use Rattle.consistency.proofs.Bytes.{no_bytes}
use Rattle.consistency.proofs.Claims.{follow_holds, holds-begun}

-- no rule meets 9 on the state
pub record Free (s : State) : Type 0 where
  pub calls : (c : RuleCall) → (outcome s c).answer ≡ Refused Unplaceable → ⊥
  pub blocks : (g : ℕ) (block : List ℕ) → (paste s g block).answer ≡ Refused Unplaceable → ⊥

begun-free : (b : Begun) (cs : List RuleCall) → Free (run (start_of b) cs)
begun-free b cs = record { calls = never-unplaceable b cs; blocks = paste-never-unplaceable b cs }

nine : (a : Answer) → (reply a).refusal ≡ 9 → a ≡ Refused Unplaceable
nine a h = (answer-number a Unplaceable).0 h

-- ---- in memory

module _ (r : Replica) (s : State) (m : Means r s) (free : Free s) where
  replica_nine : (c : RuleCall) → (reply (answer_to r c)).refusal ≡ 9 → ⊥
  replica_nine c h = free.calls c (sym (called_meant r s m c).1 ∙ nine (answer_to r c) h)

  record_nine : (g n : ℕ) → refusal_in_memory r (on_record g n) ≡ 9 → ⊥
  unfolding refusal_in_memory returned answer_to
  record_nine g n h = replica_nine (inserting g n) h

  block_nine : (g : ℕ) (block : List ℕ) → refusal_in_memory r (on_block g block) ≡ 9 → ⊥
  unfolding refusal_in_memory pasted_by pasted_with paste
  block_nine g block h = free.blocks g block (rw (m.form, m.meant) at (nine (pasted_by r g block).answer h))

  line_nine : (l : List ℕ) → refusal_in_memory r (on_line l) ≡ 9 → ⊥
  unfolding refusal_in_memory received_line received_as read_operation reply answer_to
  line_nine l = go (laid_out l) refl (in_range (said_by l)) refl
    where
      go : (a : Bool) → laid_out l ≡ a → (b : Bool) → in_range (said_by l) ≡ b →
          refusal_in_memory r (on_line l) ≡ 9 → ⊥
      go false e b f h =
          let z : ◌≡◌ {A = ℕ} 1 9 =
          rw (refusal_in_memory, received_line, read_operation, e, read-layout (said_by l)) at h
          in
          omega arith
      go true e false f h =
          let z : ◌≡◌ {A = ℕ} 2 9 =
          rw (refusal_in_memory, received_line, read_operation, e, read-range (said_by l) f) at h
          in
          omega arith
      go true e true f h =
          replica_nine (receiving (said_by l))
          (rw (refusal_in_memory, received_line, read_operation, e, read-operation (said_by l) f) at h)

  admit_nine : refusal_in_memory r admit ≡ 9 → ⊥
  unfolding refusal_in_memory admitted_by admitted_as use_when use_checks unused decided reply
  admit_nine = go (replica_well_formed r) (loadable (meaning r).characters) refl refl
    where
      go : (f l : Bool) → replica_well_formed r ≡ f → loadable (meaning r).characters ≡ l →
          refusal_in_memory r admit ≡ 9 → ⊥
      go true true a b h = let z : ◌≡◌ {A = ℕ} 0 9 = rw (refusal_in_memory, a, b) at h in omega arith
      go true false a b h = let z : ◌≡◌ {A = ℕ} 16 9 = rw (refusal_in_memory, a, b) at h in omega arith
      go false l a b h = let z : ◌≡◌ {A = ℕ} 3 9 = rw (refusal_in_memory, a) at h in omega arith

  save_nine : (out : List ℕ) → refusal_in_memory r (save out) ≡ 9 → ⊥
  unfolding refusal_in_memory
  save_nine out h = go (replica_well_formed r) refl (side (length (bytes_of r)) (length out))
    where
      go : (f : Bool) → replica_well_formed r ≡ f →
          (length (bytes_of r) ≤ length out) ⊎ (length out < length (bytes_of r)) → ⊥
      go false e k = let z : ◌≡◌ {A = ℕ} 3 9 = sym ((save_numbers r out).0.1 e) ∙ h in omega arith
      go true e (inr low) = let z : ◌≡◌ {A = ℕ} 12 9 = sym ((save_numbers r out).1.1 (e, low)) ∙ h in omega arith
      go true e (inl room) = let z : ◌≡◌ {A = ℕ} 0 9 = sym ((save_numbers r out).2.1 (e, room)) ∙ h in omega arith

  memory_nine : (c : MemoryCall) → refusal_in_memory r c ≡ 9 → ⊥
  unfolding refusal_in_memory
  memory_nine (on_replica c) h = replica_nine c h
  memory_nine (on_record g n) h = record_nine g n h
  memory_nine (on_block g block) h = block_nine g block h
  memory_nine (on_line l) h = line_nine l h
  memory_nine admit h = admit_nine h
  memory_nine (save out) h = save_nine out h

-- ---- on bytes

-- what is reported and not by the last is reported before it
without-last : (q : Refusal) (cs : List (Check Answer)) (last : Check Answer) → (last.answer ≡ Refused q → ⊥) →
    Reported (Refused q) (cs ++ last ∷ []) → Reported (Refused q) cs
without-last q [] last apart (later h r) = elim r [ ]
without-last q [] last apart (here h e) = absurd (apart e)
without-last q (c ∷ cs) last apart (here h e) = here h e
without-last q (c ∷ cs) last apart (later h r) = later h (without-last q cs last apart r)

-- no rule meets 9 on what the bytes say, if they have the layout
abbrev Bare : List ℕ → Type 0
Bare b = saved_laid_out b ≡ true → Free (loaded_state b)

module _ (b : List ℕ) (free : Bare b) (out line : List ℕ) where
  abbrev said : State
  said = loaded_state b

  abbrev Nine : CCall → Type 0
  Nine c = Reported (Refused Unplaceable) (call_checks c b out line)

  receive_nine : (l : List ℕ) → Nine (wimtaze_receive l) → ⊥
  unfolding call_checks handed_checks rule_checks input_checks receive_checks outcome receive
  receive_nine l r =
      let o : Operation = said_by l in
      let a = skipped (other (λ z. omega arith)) r in
      let d = skipped (other (λ z. omega arith)) a.1 in
      let e = skipped (other (λ z. omega arith)) d.1 in
      let ranged = and_right (saved_in_range b) (in_range o) (not-false _ d.0) in
      let f = not-false (well_formed said) e.0 in
      let left = without-last Unplaceable (drop 2 (receive_checks true said o)) _ (other (λ z. omega arith)) e.1 in
      (free (and_left_lem (saved_laid_out b) (one_line l) (not-false _ a.0))).calls (receiving o)
      (rw f ((receive_refuses true said o Unplaceable).1 (later (ap not ranged) (later refl left))))

  receive-at_nine : (l : List ℕ) (g : ℕ) → Nine (wimtaze_receive_at l g) → ⊥
  unfolding call_checks handed_checks rule_checks input_checks receive_at_checks outcome receive_at
  receive-at_nine l g r =
      let o : Operation = said_by l in
      let a = skipped (other (λ z. omega arith)) r in
      let d = skipped (other (λ z. omega arith)) a.1 in
      let e = skipped (other (λ z. omega arith)) d.1 in
      let ranged = and_right (saved_in_range b) (in_range o) (not-false _ d.0) in
      let f = not-false (well_formed said) e.0 in
      let cs : List (Check Answer) = drop 2 (receive_at_checks true said o g) in
      let left = without-last Unplaceable cs _ (other (λ z. omega arith)) e.1 in
      (free (and_left_lem (saved_laid_out b) (one_line l) (not-false _ a.0))).calls (receiving_at o g)
      (rw f ((receive-at_refuses true said o g Unplaceable).1 (later (ap not ranged) (later refl left))))

  type_nine : (g n : ℕ) → Nine (wimtaze_type g n) → ⊥
  unfolding call_checks handed_checks rule_checks input_checks insert_checks outcome local_insert answer_of
  type_nine g n r =
      let a = skipped (other (λ z. omega arith)) r in
      let d = skipped (other (λ z. omega arith)) a.1 in
      let e = skipped (other (λ z. omega arith)) d.1 in
      let ranged = and_right (saved_in_range b) (is_code_point n) (not-false _ d.0) in
      let f = not-false (well_formed said) e.0 in
      let left = unanswered Unplaceable (drop 2 (insert_checks true said g n)) _ (other (λ z. omega arith)) e.1 in
      (free (and_left_lem (saved_laid_out b) true (not-false _ a.0))).calls (inserting g n)
      (rw f (ap answer_of ((insert_refuses true said g n Unplaceable).1 (later (ap not ranged) (later refl left)))))

  paste_nine : (g : ℕ) (block : List ℕ) → Nine (wimtaze_paste g block) → ⊥
  unfolding call_checks handed_checks rule_checks paste_checks paste
  paste_nine g block r =
      let a = skipped (other (λ z. omega arith)) r in
      let d = skipped (other (λ z. omega arith)) a.1 in
      let u = skipped (other (λ z. omega arith)) d.1 in
      let e = skipped (other (λ z. omega arith)) u.1 in
      let f = not-false (well_formed said) e.0 in
      let cs : List (Check Answer) = drop 2 (paste_checks true said g block) in
      let left = without-last Unplaceable cs _ (other (λ z. omega arith)) e.1 in
      (free (and_left_lem (saved_laid_out b) true (not-false _ a.0))).blocks g block
      (rw f ((paste_refuses true said g block Unplaceable).1 (later u.0 (later refl left))))

  c_nine : (c : CCall) → Nine c → ⊥
  c_nine (wimtaze_empty n) = unmet Unplaceable (wimtaze_empty n) b out line refl
  c_nine (wimtaze_build n heap) = unmet Unplaceable (wimtaze_build n heap) b out line refl
  c_nine wimtaze_load = unmet Unplaceable wimtaze_load b out line refl
  c_nine (wimtaze_receive l) = receive_nine l
  c_nine (wimtaze_receive_at l g) = receive-at_nine l g
  c_nine (wimtaze_type g n) = type_nine g n
  c_nine (wimtaze_erase p) = unmet Unplaceable (wimtaze_erase p) b out line refl
  c_nine (wimtaze_restore n t) = unmet Unplaceable (wimtaze_restore n t) b out line refl
  c_nine (wimtaze_paste g block) = paste_nine g block
  c_nine wimtaze_text = unmet Unplaceable wimtaze_text b out line refl
  c_nine wimtaze_counts = unmet Unplaceable wimtaze_counts b out line refl
  c_nine wimtaze_list = unmet Unplaceable wimtaze_list b out line refl
  c_nine (wimtaze_answer l) = unmet Unplaceable (wimtaze_answer l) b out line refl
  c_nine wimtaze_upgrade = unmet Unplaceable wimtaze_upgrade b out line refl
  c_nine wimtaze_downgrade = unmet Unplaceable wimtaze_downgrade b out line refl
  c_nine wimtaze_archive = unmet Unplaceable wimtaze_archive b out line refl
  c_nine wimtaze_unarchive = unmet Unplaceable wimtaze_unarchive b out line refl

  for_c_nine : (c : CCall) → refusal_on_bytes b (for_c c out line) ≡ 9 → ⊥
  unfolding refusal_on_bytes
  for_c_nine c h =
      c_nine c
      ((calls_refuse c b out line Unplaceable).0 (sym (returned-reads-back c b out line).refusal-read ∙ h))

saved_nine : (s : State) → well_formed s ≡ true → Free s → (c : BytesCall) → refusal_on_bytes (saved_bytes s) c ≡ 9 → ⊥
unfolding refusal_on_bytes load_number
saved_nine s f free load h =
    let z : ◌≡◌ {A = ℕ} 0 9 = sym (ap load_number (saved-reads-back s f).0) ∙ h in omega arith
saved_nine s f free (for_c c out line) h = for_c_nine (saved_bytes s) (λ l. rw (saved_loads s f) free) out line c h

nothing_nine : (c : BytesCall) → refusal_on_bytes [] c ≡ 9 → ⊥
unfolding refusal_on_bytes loaded load_checks unread decided load_number
nothing_nine load h = let z : ◌≡◌ {A = ℕ} 1 9 = rw no_bytes at h in omega arith
nothing_nine (for_c c out line) h =
    for_c_nine [] (λ l. absurd (false≢true (sym no_bytes ∙ l))) out line c h

-- ---- on a copy

held_nine : {s : State} {p : Copy} → Holds s p → Free s → (c : Call) → refusal_on p c ≡ 9 → ⊥
unfolding refusal_on
held_nine (memory r s m) free (memory_call c) h = memory_nine r s m free c h
held_nine (memory r s m) free (bytes_call c) h = let z : ◌≡◌ {A = ℕ} 0 9 = h in omega arith
held_nine (bytes s f) free (memory_call c) h = let z : ◌≡◌ {A = ℕ} 0 9 = h in omega arith
held_nine (bytes s f) free (bytes_call c) h = saved_nine s f free c h
held_nine nothing free (memory_call c) h = let z : ◌≡◌ {A = ℕ} 0 9 = h in omega arith
held_nine nothing free (bytes_call c) h = nothing_nine c h

pub loaded-never_nine : LoadedNeverNine
loaded-never_nine a cs c h =
    held_nine (follow_holds (holds-begun a) cs) (begun-free (beginning_of a) (rules_by (begun a) cs)) c h
