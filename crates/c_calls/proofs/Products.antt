-- What each call makes where no condition holds is within its bounds and no longer than the header's sizes, and it is a
-- saved replica in form where the call saves one.
use Prim.Native.Nat.{ℕ, ◌≤◌}
use native.Mathlib.Omega.{arith}
use mathlib.Core.Path.{◌≡◌, refl, ap, ◌∙◌}
use mathlib.Core.Bool.{true, false, false≢true, not}
use mathlib.Core.List.{List, [], ◌∷◌}
use lib.IntN.{ℤ, pos, negsuc}
use lib.ListN.{length, length-map}
use borrow.Author.Tests.{not-false}
use Rattle.woot.specs.declared.Operation.{Operation}
use Rattle.woot.specs.declared.Character.{Character}
use Rattle.answers.specs.declared.Answer.{Answer}
use Rattle.answers.specs.declared.Answer.TheVariants.{Done, Deferred, Duplicate, Refused}
use Rattle.woot.specs.Ranges.{site_number}
use Rattle.woot.specs.Operations.{is_visible}
use Rattle.woot.specs.State.{State, initial}
use Rattle.woot.specs.Form.{well_formed}
use Rattle.answers.specs.Answers.{number, highest_refusal, reply, NoneHolds}
use Rattle.woot.specs.Sending.{answer_of}
use Rattle.woot.specs.Calls.{Outcome, visibles, receive, carry_out, local_insert, send_insert, send_toggle, local_delete, local_restore}
use Rattle.woot.specs.Cursor.{receive_at, shift_at}
use Rattle.bulk.specs.Pasting.{pasted, paste}
use Rattle.woot.specs.Histories.{inserting, deleting, restoring, receiving, receiving_at, outcome}
use Rattle.lists.specs.Lists.{keep}
use Rattle.lists.proofs.Members.{keep-length}
use Rattle.convergence.proofs.Forms.{empty-formed, known-length}
use Rattle.convergence.proofs.Replies.{number-few}
use Rattle.convergence.proofs.Shares.{pending-fit}
use Rattle.convergence.proofs.Kept.{form_kept}
use Rattle.convergence.proofs.Pasting.{paste_form_kept, paste_counts_bounded}
use Rattle.bulk.specs.Building.{build}
use Rattle.bulk.specs.Archiving.{state_from, archive_checks, unarchive_checks}
use Rattle.convergence.proofs.Building.{built-formed, build-bounded}
use Rattle.heap.specs.Format.{heap_said}
use Rattle.listing.specs.Format.{list_said}
use Rattle.listing.proofs.Sizes.{list-fits}
use Rattle.cursor.specs.Bits.{shift_bits}
use Rattle.codec.specs.Operations.{operation_line}
use Rattle.codec.specs.Calls.{said_by}
use Rattle.saved.specs.declared.Version.TheVariants.{First, Second}
use Rattle.saved.specs.Format.{representable, saved_state, saved_bytes}
use Rattle.saved.specs.Calls.{loaded_as, loaded_state}
use Rattle.saved.specs.Theorems.{saved_most}
use Rattle.saved.specs.Conversion.{conversion, conversion_refusals}
use Rattle.saved.specs.Archive.{archive_said, archiving, archiving_refusals, unarchiving, unarchiving_refusals}
use Rattle.saved.proofs.Sizes.{saved-length, first-length, archive_length}
use Rattle.effects.specs.Results.{Result, result}
use Rattle.effects.specs.Counts.{counts_of}
use Rattle.effects.proofs.Totals.{known-few}
use Rattle.c_calls.specs.Calls.{CCall, wimtaze_empty, wimtaze_receive, wimtaze_receive_at, wimtaze_type, wimtaze_erase, wimtaze_restore, wimtaze_text, wimtaze_counts, wimtaze_upgrade, wimtaze_downgrade, input_checks, named, handed_checks, earlier_checks, Product, bytes_alone, replica_and_line, product_of}
use Rattle.c_calls.specs.Calls.{wimtaze_paste, wimtaze_build, wimtaze_load, wimtaze_list}
use Rattle.c_calls.specs.Calls.{wimtaze_answer, wimtaze_archive, wimtaze_unarchive}
use Rattle.c_calls.specs.Theorems.{bounds_of, room_of, saves, Fits, CountsWithin}
use Rattle.c_calls.proofs.Sizes.{text-length}
use Rattle.c_calls.proofs.Counts.{Fine, Sends, receive_fine, receive-at_fine, insert-sends, delete_sends, restore_sends}
use Rattle.c_calls.proofs.Listing.{receive-taken, receive-at-taken, type_taken, erase-taken, restore_taken, paste-passed, paste-taken}
use Rattle.c_calls.proofs.Listing.{build-passed, build-taken}
use Rattle.c_calls.proofs.Blocks.{lines-short}
use Rattle.c_calls.proofs.Answers.{answer-short}
use Rattle.woot.specs.Sent.{Sending, sends}

-- the first output is the bytes of a state in form, all of them
pub record Saved (p : Product) : Type 0 where
  pub state : State
  pub formed : well_formed state ≡ true
  pub bytes : p.output ≡ saved_bytes state
  pub length-told : p.result.written ≡ length p.output

pub record Sound (c : CCall) (p : Product) : Type 0 where
  pub fits : Fits (bounds_of c) p.result
  pub output-few : length p.output ≤ (room_of c).output
  pub line-few : length p.line ≤ (room_of c).line
  pub saved : saves c ≡ true → Saved p

reply-few : (a : Answer) → Fine a
    → ((reply a).refusal ≤ highest_refusal) × ((reply a).integrated ≤ 513) × ((reply a).discarded ≤ 512)
unfolding reply
reply-few (Done n m) f = (omega arith, f.0, f.1)
reply-few Deferred f = (omega arith, omega arith, omega arith)
reply-few Duplicate f = (omega arith, omega arith, omega arith)
reply-few (Refused q) f = (number-few q, omega arith, omega arith)

bits_few : (z : ℤ) → shift_bits z ≤ 65535
unfolding shift_bits
bits_few (pos n) = omega arith
bits_few (negsuc n) = omega arith

visibles-few : (cs : List Character) → length (visibles cs) ≤ length cs
unfolding visibles
visibles-few cs = omega (arith, length-map (keep is_visible cs) (λ c. c.id), keep-length is_visible cs)

pub counts_within : (s : State) → well_formed s ≡ true → CountsWithin (counts_of s)
unfolding counts_of result reply
counts_within s h =
    record {
      visible-fits = visibles-few s.characters;
      full-fits = omega (arith, known-length s, known-few s h);
    }

-- a call that sends answers with its counts, and its line is the one of what it sends
sent-sound : (c : CCall) (w : Outcome Sending) (o : Operation) (n m : ℕ) → w.answer ≡ sends o n m → well_formed w.state ≡ true →
    n ≤ (bounds_of c).integrated → m ≤ (bounds_of c).discarded → length (operation_line o) ≤ (bounds_of c).line →
    (bounds_of c).line ≤ (room_of c).line → saved_most ≤ (bounds_of c).written → saved_most ≤ (room_of c).output → Sound c (replica_and_line w o)
unfolding result reply answer_of
sent-sound c w o n m e k hn hm hl line-room most most-room =
    let long = saved-length w.state k in
    record {
      fits =
          record {
            refusal-fits = rw e (omega arith);
            integrated-fits = rw e hn;
            discarded-fits = rw e hm;
            written-fits = omega (arith, long, most);
            line-fits = hl;
          };
      output-few = omega (arith, long, most-room);
      line-few = omega (arith, hl, line-room);
      saved = λ h. record { state = w.state; formed = k; bytes = refl; length-told = refl };
    }

-- bytes alone
plain-sound : (c : CCall) (bytes : List ℕ) → length bytes ≤ (bounds_of c).written → length bytes ≤ (room_of c).output →
    (saves c ≡ true → (t : State) × (well_formed t ≡ true) × (bytes ≡ saved_bytes t)) → Sound c (bytes_alone bytes)
unfolding result reply
plain-sound c bytes few room kept =
    record {
      fits =
          record {
            refusal-fits = omega arith;
            integrated-fits = omega arith;
            discarded-fits = omega arith;
            written-fits = few;
            line-fits = omega arith;
          };
      output-few = room;
      line-few = omega arith;
      saved = λ h. let t = kept h in record { state = t.0; formed = t.1; bytes = t.2; length-told = refl };
    }

-- the state that the bytes say is in form where none of the conditions on what is handed holds
module _ (bytes : List ℕ) where
  abbrev said : State
  said = loaded_state bytes

  pub text-formed : NoneHolds (earlier_checks wimtaze_text bytes) → well_formed said ≡ true
  unfolding handed_checks input_checks
  text-formed w = not-false (well_formed said) w.1.1.0

  pub counts_formed : NoneHolds (earlier_checks wimtaze_counts bytes) → well_formed said ≡ true
  unfolding handed_checks input_checks
  counts_formed w = not-false (well_formed said) w.1.1.0

  receive-sound : (l : List ℕ) → well_formed said ≡ true → Sound (wimtaze_receive l) (product_of (wimtaze_receive l) bytes)
  unfolding product_of result outcome
  receive-sound l f =
      let t = (receive said (said_by l)).state in
      let k = form_kept said (receiving (said_by l)) f in
      let b = reply-few (receive said (said_by l)).answer (receive_fine said f (said_by l)) in
      record {
        fits =
            record {
              refusal-fits = b.0;
              integrated-fits = b.1;
              discarded-fits = b.2;
              written-fits = saved-length t k;
              line-fits = omega arith;
            };
        output-few = saved-length t k;
        line-few = omega arith;
        saved = λ e. record { state = t; formed = k; bytes = refl; length-told = refl };
      }

  receive-at-sound : (l : List ℕ) (g : ℕ) → well_formed said ≡ true → Sound (wimtaze_receive_at l g) (product_of (wimtaze_receive_at l g) bytes)
  unfolding product_of result outcome
  receive-at-sound l g f =
      let t = (receive_at said (said_by l) g).state in
      let k = form_kept said (receiving_at (said_by l) g) f in
      let b = reply-few (receive_at said (said_by l) g).answer (receive-at_fine said f (said_by l) g) in
      record {
        fits =
            record {
              refusal-fits = b.0;
              integrated-fits = b.1;
              discarded-fits = b.2;
              written-fits = saved-length t k;
              line-fits = bits_few (shift_at said (said_by l) g);
            };
        output-few = saved-length t k;
        line-few = omega arith;
        saved = λ e. record { state = t; formed = k; bytes = refl; length-told = refl };
      }

  type_sound : (g n : ℕ) → NoneHolds (earlier_checks (wimtaze_type g n) bytes) → Sound (wimtaze_type g n) (product_of (wimtaze_type g n) bytes)
  unfolding product_of outcome send_insert carry_out
  type_sound g n w =
      let t = type_taken bytes g n w in
      let b = rw t.1 at (insert-sends said t.0 g n) in
      sent-sound (wimtaze_type g n) (local_insert said g n) _ _ _ (ap (λ (v : Outcome Sending). v.answer) t.1) (form_kept said (inserting g n) t.0)
      b.0.0 b.0.1 b.1 (omega arith) (omega arith) (omega arith)

  erase-sound : (p : ℕ) → NoneHolds (earlier_checks (wimtaze_erase p) bytes) → Sound (wimtaze_erase p) (product_of (wimtaze_erase p) bytes)
  unfolding product_of outcome send_toggle carry_out
  erase-sound p w =
      let t = erase-taken bytes p w in
      let b = rw t.1 at (delete_sends said t.0 p) in
      sent-sound (wimtaze_erase p) (local_delete said p) _ 1 0 (ap (λ (v : Outcome Sending). v.answer) t.1) (form_kept said (deleting p) t.0)
      (omega arith) (omega arith) b.1 (omega arith) (omega arith) (omega arith)

  restore_sound : (n t : ℕ) → NoneHolds (earlier_checks (wimtaze_restore n t) bytes) → Sound (wimtaze_restore n t) (product_of (wimtaze_restore n t) bytes)
  unfolding product_of outcome send_toggle carry_out
  restore_sound n t w =
      let x = named n t in
      let e = restore_taken bytes n t w in
      let b = rw e.1 at (restore_sends said e.0 x) in
      sent-sound (wimtaze_restore n t) (local_restore said x) _ 1 0 (ap (λ (v : Outcome Sending). v.answer) e.1) (form_kept said (restoring x) e.0)
      (omega arith) (omega arith) b.1 (omega arith) (omega arith) (omega arith)

  nothing-sound : (g : ℕ) → NoneHolds (earlier_checks (wimtaze_paste g []) bytes) → Sound (wimtaze_paste g []) (product_of (wimtaze_paste g []) bytes)
  unfolding product_of
  nothing-sound g w = plain-sound (wimtaze_paste g []) [] (omega arith) (omega arith) (λ h. absurd (false≢true h))

  paste-sound : (g b : ℕ) (block : List ℕ) → NoneHolds (earlier_checks (wimtaze_paste g (b ∷ block)) bytes) →
      Sound (wimtaze_paste g (b ∷ block)) (product_of (wimtaze_paste g (b ∷ block)) bytes)
  unfolding product_of result reply pasted
  paste-sound g b block w =
      let t = (paste said g (b ∷ block)).state in
      let e = paste-taken bytes g (b ∷ block) w in
      let k = paste_form_kept said g (b ∷ block) e.0 in
      let few = rw e.1 at (paste_counts_bounded said g (b ∷ block)) in
      let long = saved-length t k in
      let lines = lines-short said g (b ∷ block) (paste-passed bytes g (b ∷ block) w) in
      record {
        fits =
            record {
              refusal-fits = rw e.1 (omega arith);
              integrated-fits = rw e.1 few.0;
              discarded-fits = rw e.1 few.1;
              written-fits = long;
              line-fits = lines;
            };
        output-few = long;
        line-few = lines;
        saved = λ h. record { state = t; formed = k; bytes = refl; length-told = refl };
      }

  empty-sound : (n : ℕ) → NoneHolds (earlier_checks (wimtaze_empty n) bytes) → Sound (wimtaze_empty n) (product_of (wimtaze_empty n) bytes)
  unfolding product_of handed_checks
  empty-sound n w =
      let k = empty-formed n ∙ not-false (site_number n) w.0 in
      let long = saved-length (initial n) k in
      plain-sound (wimtaze_empty n) (saved_bytes (initial n)) long long (λ h. (initial n, k, refl))

  build-sound : (n : ℕ) (heap : List ℕ) → NoneHolds (earlier_checks (wimtaze_build n heap) bytes) →
      Sound (wimtaze_build n heap) (product_of (wimtaze_build n heap) bytes)
  unfolding product_of result reply
  build-sound n heap w =
      let os : List Operation = heap_said heap in
      let t = (build n os).state in
      let e = build-taken n heap bytes w in
      let k = (built-formed n os (build-passed n heap bytes w)).1 in
      let long = saved-length t k in
      record {
        fits =
            record {
              refusal-fits = rw e (omega arith);
              integrated-fits = rw e (omega arith);
              discarded-fits = (build-bounded n os).0;
              written-fits = long;
              line-fits = omega arith;
            };
        output-few = long;
        line-few = omega arith;
        saved = λ h. record { state = t; formed = k; bytes = refl; length-told = refl };
      }

  load-sound : NoneHolds (earlier_checks wimtaze_load bytes) → Sound wimtaze_load (product_of wimtaze_load bytes)
  unfolding product_of handed_checks input_checks
  load-sound w =
      let k = not-false (well_formed said) w.1.1.0 in
      let long = saved-length said k in
      plain-sound wimtaze_load _ long long (λ h. (said, k, refl))

  text-sound : NoneHolds (earlier_checks wimtaze_text bytes) → Sound wimtaze_text (product_of wimtaze_text bytes)
  unfolding product_of
  text-sound w =
      let long = text-length said (text-formed w) in
      plain-sound wimtaze_text _ long long (λ h. absurd (false≢true h))

  counts_sound : NoneHolds (earlier_checks wimtaze_counts bytes) → Sound wimtaze_counts (product_of wimtaze_counts bytes)
  unfolding product_of counts_of result reply
  counts_sound w =
      let f = counts_formed w in
      let k = counts_within said f in
      record {
        fits =
            record {
              refusal-fits = omega arith;
              integrated-fits = omega (arith, k.visible-fits, k.full-fits);
              discarded-fits = pending-fit said f;
              written-fits = omega (arith, k.full-fits);
              line-fits = omega (arith, k.full-fits);
            };
        output-few = omega arith;
        line-few = omega arith;
        saved = λ h. absurd (false≢true h);
      }

  pub list-formed : NoneHolds (earlier_checks wimtaze_list bytes) → well_formed said ≡ true
  unfolding handed_checks input_checks
  list-formed w = not-false (well_formed said) w.1.1.0

  list-sound : NoneHolds (earlier_checks wimtaze_list bytes) → Sound wimtaze_list (product_of wimtaze_list bytes)
  unfolding product_of
  list-sound w =
      let long = (list-fits said (list-formed w)).1 in
      plain-sound wimtaze_list _ long long (λ h. absurd (false≢true h))

  pub answer-formed : (list : List ℕ) → NoneHolds (earlier_checks (wimtaze_answer list) bytes) →
      well_formed said ≡ true
  unfolding handed_checks
  answer-formed list w = not-false (well_formed said) w.1.1.1.0

  answer-sound : (list : List ℕ) → NoneHolds (earlier_checks (wimtaze_answer list) bytes) →
      Sound (wimtaze_answer list) (product_of (wimtaze_answer list) bytes)
  unfolding product_of
  answer-sound list w =
      let long = answer-short said (answer-formed list w) (list_said list) in
      plain-sound (wimtaze_answer list) _ long long (λ h. absurd (false≢true h))

  upgrade_sound : NoneHolds (earlier_checks wimtaze_upgrade bytes) → Sound wimtaze_upgrade (product_of wimtaze_upgrade bytes)
  unfolding product_of handed_checks conversion_refusals conversion
  upgrade_sound w =
      let s = loaded_as First bytes in
      let k = not-false (well_formed s) w.1.1.0 in
      let long = saved-length s k in
      plain-sound wimtaze_upgrade _ long long (λ h. (s, k, refl))

  downgrade_sound : NoneHolds (earlier_checks wimtaze_downgrade bytes) → Sound wimtaze_downgrade (product_of wimtaze_downgrade bytes)
  unfolding product_of handed_checks conversion_refusals conversion
  downgrade_sound w =
      let s = loaded_as Second bytes in
      let long = first-length s (not-false (well_formed s) w.1.1.0) (not-false (representable First s) w.1.1.1.0) in
      plain-sound wimtaze_downgrade _ long long (λ h. absurd (false≢true h))

  -- what archiving reads is in form as it stands
  archive_sound : NoneHolds (earlier_checks wimtaze_archive bytes) →
      Sound wimtaze_archive (product_of wimtaze_archive bytes)
  unfolding product_of handed_checks archiving_refusals archive_checks archiving
  archive_sound w =
      let s = saved_state bytes in
      let long = archive_length s (not-false (well_formed s) w.1.1.0) in
      plain-sound wimtaze_archive _ long long (λ h. absurd (false≢true h))

  unarchive_sound : NoneHolds (earlier_checks wimtaze_unarchive bytes) →
      Sound wimtaze_unarchive (product_of wimtaze_unarchive bytes)
  unfolding product_of handed_checks unarchiving_refusals unarchive_checks unarchiving state_from
  unarchive_sound w =
      let s = state_from (archive_said bytes) in
      let k = not-false (well_formed s) w.1.1.1.0 in
      let long = saved-length s k in
      plain-sound wimtaze_unarchive _ long long (λ h. (s, k, refl))

pub product-sound : (c : CCall) (bytes : List ℕ) → NoneHolds (earlier_checks c bytes) → Sound c (product_of c bytes)
product-sound (wimtaze_empty n) bytes w = empty-sound bytes n w
product-sound (wimtaze_build n heap) bytes w = build-sound bytes n heap w
product-sound wimtaze_load bytes w = load-sound bytes w
product-sound (wimtaze_receive l) bytes w = receive-sound bytes l (receive-taken bytes l w).0
product-sound (wimtaze_receive_at l g) bytes w = receive-at-sound bytes l g (receive-at-taken bytes l g w).0
product-sound (wimtaze_type g n) bytes w = type_sound bytes g n w
product-sound (wimtaze_erase p) bytes w = erase-sound bytes p w
product-sound (wimtaze_restore n t) bytes w = restore_sound bytes n t w
product-sound (wimtaze_paste g []) bytes w = nothing-sound bytes g w
product-sound (wimtaze_paste g (b ∷ block)) bytes w = paste-sound bytes g b block w
product-sound wimtaze_text bytes w = text-sound bytes w
product-sound wimtaze_counts bytes w = counts_sound bytes w
product-sound wimtaze_list bytes w = list-sound bytes w
product-sound (wimtaze_answer list) bytes w = answer-sound bytes list w
product-sound wimtaze_upgrade bytes w = upgrade_sound bytes w
product-sound wimtaze_downgrade bytes w = downgrade_sound bytes w
product-sound wimtaze_archive bytes w = archive_sound bytes w
product-sound wimtaze_unarchive bytes w = unarchive_sound bytes w
