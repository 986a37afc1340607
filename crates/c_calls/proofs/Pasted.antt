-- Pasting through C is typing through C: each typing call writes the bytes of the state that the rule leaves, on which the
-- next call goes on, so that all of them come to what the list of the rule's calls does.
use Prim.Native.Nat.{ℕ, ◌+◌, ◌≤◌}
use native.Mathlib.Omega.{arith}
use mathlib.Core.Path.{◌≡◌, refl, sym, ap, ap₂, ◌∙◌, subst}
use mathlib.Core.Bool.{Bool, true, false}
use mathlib.Core.List.{List, [], ◌∷◌, ◌++◌, append-nil}
use lib.Dec.{ltb}
use lib.ListN.{length}
use borrow.Author.Tests.{ltb-false, le-ltb, not-false}
use Rattle.lists.proofs.Tests.{and_left_lem, or-false-left, or-false-right}
use Rattle.output.specs.Output.{placed}
use Rattle.decoding.specs.Decoding.{encodings}
use Rattle.decoding.specs.Theorems.{Encodes}
use Rattle.woot.specs.declared.Operation.{Operation}
use Rattle.woot.specs.declared.Operation.TheVariants.{Insert as insert}
use Rattle.answers.specs.declared.Answer.{Answer}
use Rattle.answers.specs.declared.Answer.TheVariants.{Done, Deferred, Duplicate, Refused}
use Rattle.woot.specs.Ranges.{is_code_point}
use Rattle.woot.specs.State.{State}
use Rattle.woot.specs.Form.{well_formed}
use Rattle.answers.specs.Answers.{done, Reply, reply, first, decided, NoneHolds}
use Rattle.woot.specs.Sending.{answer_of}
use Rattle.woot.specs.Calls.{Outcome, carry_out, next_identifier, generated_insert, insert_checks, send_insert, local_insert_when, local_insert}
use Rattle.woot.specs.Histories.{Call, inserting, outcome, run}
use Rattle.bulk.specs.Pasting.{gap_below, typings, own_by, PasteOutcome, unpasted, pasted, paste_checks, paste}
use Rattle.convergence.specs.Pasting.{EachDone, carried_count, thrown_count}
use Rattle.convergence.proofs.Kept.{form_kept}
use Rattle.convergence.proofs.Replies.{none_first, insert_does}
use Rattle.convergence.proofs.Sending.{sent_in_range}
use Rattle.convergence.proofs.Typings.{state_after, gap_then}
use Rattle.convergence.proofs.Pasting.{paste-is_typing, paste_counts, paste-nothing}
use Rattle.lines.specs.Lines.{concatenated}
use Rattle.lines.proofs.Lines.{concatenated-append}
use Rattle.codec.specs.Operations.{operation_line}
use Rattle.codec.specs.Theorems.{insert_most}
use Rattle.saved.specs.Format.{saved_laid_out, saved_in_range, saved_bytes}
use Rattle.saved.specs.Calls.{loaded_state}
use Rattle.saved.specs.Theorems.{saved_most}
use Rattle.saved.specs.declared.Version.TheVariants.{Second}
use Rattle.saved.proofs.Sizes.{saved-length}
use Rattle.saved.proofs.Trips.{saved_laid, in_range-back, second-says, saved_loads}
use Rattle.effects.specs.Results.{result, silent}
use Rattle.effects.specs.Effects.{Effect, quiet, writing_both, sending, after_sending, sending_all, after_pasting}
use Rattle.c_calls.specs.Calls.{wimtaze_type, wimtaze_paste, input_checks, handed_checks, earlier_checks, product_of, short, delivered, effect_of}
use Rattle.c_calls.specs.Steps.{inserting_here, pasting_here}
use Rattle.c_calls.specs.Theorems.{bytes_written, line_written, typed_in_c, AllDone, total, last_bytes, WritesAs, PasteTypes, PasteEmptyWrites}
use Rattle.c_calls.proofs.Listing.{Went, away, lacking, through, went, paste-passed}
use Rattle.c_calls.proofs.Blocks.{line-few, pasting_done}
use Rattle.c_calls.proofs.Fitting.{front}
use Rattle.c_calls.proofs.Bodies.{type_body, paste-body}
use Rattle.c_calls.proofs.Own.{insert-sent, sent-told}
use Rattle.woot.specs.Sent.{Sending, sends}

-- ---- one typing call

-- it returns and writes what the rule's call answers and leaves
record Types (s : State) (c : Call) (e : Effect) : Type 0 where
  same-reply : e.result.reply ≡ reply (outcome s c).answer
  same_bytes : bytes_written e ≡ saved_bytes (outcome s c).state
  same_line : line_written e ≡ concatenated operation_line (outcome s c).own

module _ (out line : List ℕ) (room : saved_most ≤ length out) (room-line : insert_most ≤ length line) where
  module _ (bytes : List ℕ) (laid : saved_laid_out bytes ≡ true) (ranged : saved_in_range bytes ≡ true) (g n : ℕ)
      (h : (reply (outcome (loaded_state bytes) (inserting g n)).answer).word ≡ done) where
    abbrev said : State
    said = loaded_state bytes

    free : NoneHolds (insert_checks (well_formed said) said g n)
    unfolding outcome local_insert
    free = (insert_does (well_formed said) said g n).0 h

    coded : is_code_point n ≡ true
    unfolding insert_checks
    coded = not-false (is_code_point n) free.0

    form : well_formed said ≡ true
    unfolding insert_checks
    form = not-false (well_formed said) free.1.0

    made : local_insert said g n ≡ send_insert said (generated_insert said g n)
    unfolding local_insert local_insert_when decided
    made = rw (none_first (insert_checks (well_formed said) said g n) free)

    abbrev new : List ℕ
    new = saved_bytes (local_insert said g n).state

    abbrev sent : List ℕ
    sent = operation_line (insert (generated_insert said g n))

    new-fits : length new ≤ length out
    unfolding outcome
    new-fits = omega (arith, saved-length (local_insert said g n).state (form_kept said (inserting g n) form), room)

    sent-fits : length sent ≤ length line
    sent-fits =
        let o : Operation = insert (generated_insert said g n) in
        omega (arith, line-few o (sent_in_range.0 said g n o (sent-told (insert-sent said g n made).2)), room-line)

    type_writes : (i j : ℕ) → (local_insert said g n).answer ≡ sends (insert (generated_insert said g n)) i j →
        effect_of (wimtaze_type g n) bytes out line
        ≡ record { result = result (Done i j) (length new) (length sent); output = placed out 0 new; line = placed line 0 sent }
    unfolding inserting_here input_checks decided after_sending sending writing_both
    type_writes i j a =
        type_body bytes out line g n
        ∙ rw (laid, ranged, coded, form, a, le-ltb (length out) (length new) new-fits, le-ltb (length line) (length sent) sent-fits)

    types : Types said (inserting g n) (effect_of (wimtaze_type g n) bytes out line)
    unfolding outcome result answer_of send_insert carry_out
    types =
        let k = insert-sent said g n made in
        let e = type_writes k.0 k.1 k.2 in
        record {
          same-reply = ap (λ (x : Effect). x.result.reply) e ∙ ap (λ (a : Sending). reply (answer_of a)) (sym k.2);
          same_bytes = ap bytes_written e ∙ front out new new-fits;
          same_line =
              ap line_written e ∙ front line sent sent-fits ∙ sym (append-nil sent)
              ∙ ap (λ (w : Outcome Sending). concatenated operation_line w.own) (sym made);
        }

  -- ---- all of them

  -- effects come to what calls do, begun on the bytes
  record Typed (s : State) (cs : List Call) (bytes : List ℕ) (es : List Effect) : Type 0 where
    done_all : AllDone es
    integrated : total (λ x. x.result.reply.integrated) es ≡ carried_count s cs
    discarded : total (λ x. x.result.reply.discarded) es ≡ thrown_count s cs
    left : last_bytes bytes es ≡ saved_bytes (run s cs)
    lines : concatenated line_written es ≡ concatenated operation_line (own_by s cs)

  -- one more before them
  typed-before : (s : State) (c : Call) (cs : List Call) (bytes : List ℕ) (e : Effect) (es : List Effect) → Types s c e →
      (reply (outcome s c).answer).word ≡ done → Typed (outcome s c).state cs (saved_bytes (outcome s c).state) es → Typed s (c ∷ cs) bytes (e ∷ es)
  typed-before s c cs bytes e es t h later =
      record {
        done_all = (ap (λ (r : Reply). r.word) t.same-reply ∙ h, later.done_all);
        integrated = ap₂ (λ (a b : ℕ). a + b) (ap (λ (r : Reply). r.integrated) t.same-reply) later.integrated;
        discarded = ap₂ (λ (a b : ℕ). a + b) (ap (λ (r : Reply). r.discarded) t.same-reply) later.discarded;
        left = ap (λ (b : List ℕ). last_bytes b es) t.same_bytes ∙ later.left;
        lines =
            ap₂ (λ (a b : List ℕ). a ++ b) t.same_line later.lines
            ∙ sym (concatenated-append operation_line (outcome s c).own (own_by (outcome s c).state cs));
      }

  -- the first is made on bytes that say the state, and the others on those that were written
  typed_one : (bytes : List ℕ) → saved_laid_out bytes ≡ true → saved_in_range bytes ≡ true → (s : State) → loaded_state bytes ≡ s → well_formed s ≡ true →
      (g n : ℕ) (ns : List ℕ) → (reply (outcome s (inserting g n)).answer).word ≡ done →
      Typed (state_after s g n) (typings (state_after s g n) (gap_then s g n) ns) (saved_bytes (state_after s g n))
      (typed_in_c (saved_bytes (state_after s g n)) (gap_then s g n) out line ns) →
      Typed s (typings s g (n ∷ ns)) bytes (typed_in_c bytes g out line (n ∷ ns))
  typed_one bytes laid ranged s same f g n ns h later =
      let t = state_after s g n in
      let e : Effect = effect_of (wimtaze_type g n) bytes out line in
      let before = subst (λ (x : State). (reply (outcome x (inserting g n)).answer).word ≡ done) (sym same) h in
      let one = subst (λ (x : State). Types x (inserting g n) e) same (types bytes laid ranged g n before) in
      let loaded = ap loaded_state one.same_bytes ∙ saved_loads t (form_kept s (inserting g n) f) in
      let gaps = ap₂ (λ (x y : State). gap_below x (next_identifier y.site)) loaded same in
      let others = ap₂ (λ (b : List ℕ) (k : ℕ). typed_in_c b k out line ns) one.same_bytes gaps in
      subst (λ (es : List Effect). Typed s (typings s g (n ∷ ns)) bytes (e ∷ es)) (sym others)
      (typed-before s (inserting g n) (typings t (gap_then s g n) ns) bytes e (typed_in_c (saved_bytes t) (gap_then s g n) out line ns) one h later)

  typed-saved : (s : State) → well_formed s ≡ true → (g : ℕ) (ns : List ℕ) → EachDone s (typings s g ns) →
      Typed s (typings s g ns) (saved_bytes s) (typed_in_c (saved_bytes s) g out line ns)
  typed-saved s f g [] w = record { done_all = tt; integrated = refl; discarded = refl; left = refl; lines = refl }
  typed-saved s f g (n ∷ ns) w =
      typed_one (saved_bytes s) (saved_laid Second s) (in_range-back Second s f (second-says s)) s (saved_loads s f) f g n ns w.0
      (typed-saved (state_after s g n) (form_kept s (inserting g n) f) (gap_then s g n) ns w.1)

  -- some typing calls on any bytes that pass
  typed-all : (bytes : List ℕ) → saved_laid_out bytes ≡ true → saved_in_range bytes ≡ true → well_formed (loaded_state bytes) ≡ true → (g : ℕ) (ns : List ℕ) →
      (ns ≡ [] → ⊥) → EachDone (loaded_state bytes) (typings (loaded_state bytes) g ns) →
      Typed (loaded_state bytes) (typings (loaded_state bytes) g ns) bytes (typed_in_c bytes g out line ns)
  typed-all bytes laid ranged f g [] k w = absurd (k refl)
  typed-all bytes laid ranged f g (n ∷ ns) k w =
      let s = loaded_state bytes in
      typed_one bytes laid ranged s refl f g n ns w.0
      (typed-saved (state_after s g n) (form_kept s (inserting g n) f) (gap_then s g n) ns w.1)

-- ---- pasting

some-characters : (b : ℕ) (block ns : List ℕ) → Encodes (b ∷ block) ns → ns ≡ [] → ⊥
some-characters b block ns e h =
    let k : b ∷ block ≡ [] = e.1 ∙ ap encodings h in
    let z : ◌≡◌ {A = ℕ} 0 1 = cc in
    omega arith

module _ (bytes out line : List ℕ) (gap b : ℕ) (block ns : List ℕ) (e : Encodes (b ∷ block) ns) (eachOut eachLine : List ℕ)
    (room : saved_most ≤ length eachOut) (room-line : insert_most ≤ length eachLine) where
  pasted-writes : NoneHolds (earlier_checks (wimtaze_paste gap (b ∷ block)) bytes) →
      short (product_of (wimtaze_paste gap (b ∷ block)) bytes) out line ≡ false →
      WritesAs (delivered (product_of (wimtaze_paste gap (b ∷ block)) bytes) out line) bytes (typed_in_c bytes gap eachOut eachLine ns)
  unfolding handed_checks product_of result reply pasted
  pasted-writes w h =
      let s : State = loaded_state bytes in
      let done-so = pasting_done s gap (b ∷ block) (paste-passed bytes gap (b ∷ block) w) in
      let t = paste-is_typing s gap (b ∷ block) ns e done-so in
      let counts = paste_counts s gap (b ∷ block) ns e done-so in
      let laid = and_left_lem (saved_laid_out bytes) true (not-false _ w.0) in
      let ranged = and_left_lem (saved_in_range bytes) true (not-false _ w.1.0) in
      let form = not-false (well_formed s) w.1.1.1.0 in
      let all = typed-all eachOut eachLine room room-line bytes laid ranged form gap ns (some-characters b block ns e) t.0 in
      let new = saved_bytes (paste s gap (b ∷ block)).state in
      let sent = concatenated operation_line (paste s gap (b ∷ block)).own in
      let short-out : Bool = ltb (length out) (length new) in
      let short-line : Bool = ltb (length line) (length sent) in
      let fits = ltb-false (length out) (length new) (or-false-left short-out short-line h) in
      let fits_line = ltb-false (length line) (length sent) (or-false-right short-out short-line h) in
      record {
        all_done = all.done_all;
        same-integrated = ap (λ (a : Answer). (reply a).integrated) counts ∙ sym all.integrated;
        same-discarded = ap (λ (a : Answer). (reply a).discarded) counts ∙ sym all.discarded;
        same_bytes = front out new fits ∙ ap (λ (p : PasteOutcome). saved_bytes p.state) t.1 ∙ sym all.left;
        same_lines =
            front line sent fits_line
            ∙ ap (λ (p : PasteOutcome). concatenated operation_line p.own) t.1
            ∙ sym all.lines;
      }

  went-writes : {x : Effect} → Went (wimtaze_paste gap (b ∷ block)) bytes out line x → x.result.reply.word ≡ done →
      WritesAs x bytes (typed_in_c bytes gap eachOut eachLine ns)
  unfolding quiet silent result reply
  went-writes (away (Done i j) t r) h = absurd t.turned
  went-writes (away Deferred t r) h = absurd t.turned
  went-writes (away Duplicate t r) h = absurd (let z : ◌≡◌ {A = ℕ} 0 1 = cc in omega arith)
  went-writes (away (Refused q) t r) h = absurd (let z : ◌≡◌ {A = ℕ} 0 1 = cc in omega arith)
  went-writes (lacking w f) h = absurd (let z : ◌≡◌ {A = ℕ} 0 1 = cc in omega arith)
  went-writes (through w f) h = pasted-writes w f

pub paste_types : PasteTypes
paste_types bytes out line gap b block ns e h eachOut eachLine room room-line =
    went-writes bytes out line gap b block ns e eachOut eachLine room room-line (went (wimtaze_paste gap (b ∷ block)) bytes out line) h

-- ---- an empty block

pub paste-empty-writes : PasteEmptyWrites
unfolding pasting_here decided after_pasting sending_all unpasted
paste-empty-writes bytes out line gap laid ranged f within =
    paste-body bytes out line gap [] ∙ rw (laid, ranged, paste-nothing (loaded_state bytes) gap f within)
