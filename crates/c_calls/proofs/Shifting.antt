-- The shift is in its bits where something was written, and those bits are 0 elsewhere; at the top there is none.
use Prim.Native.Nat.{ℕ, ◌≤◌}
use native.Mathlib.Omega.{arith}
use mathlib.Core.Path.{◌≡◌, refl, sym, ap, ◌∙◌}
use mathlib.Core.Bool.{Bool, true, false, false≢true}
use mathlib.Core.List.{List, []}
use lib.IntN.{pos, negsuc}
use lib.ListN.{length}
use lib.Signed.{◌≤ℤ◌}
use borrow.Author.Tests.{ltb-false}
use Rattle.lists.proofs.Tests.{or-false-left}
use Rattle.woot.specs.declared.Operation.{Operation}
use Rattle.answers.specs.declared.Answer.{Answer}
use Rattle.answers.specs.declared.Answer.TheVariants.{Done, Deferred, Duplicate, Refused}
use Rattle.answers.specs.declared.Refusal.TheVariants.{Output}
use Rattle.woot.specs.State.{State}
use Rattle.woot.specs.Form.{well_formed}
use Rattle.answers.specs.Answers.{Word, done, waits, known, refused, reply, changes, NoneHolds}
use Rattle.woot.specs.Calls.{Outcome, receive}
use Rattle.woot.specs.Cursor.{cursor_after, receive_at, new_gap, shift_at, moved_by}
use Rattle.woot.specs.Histories.{receiving_at, outcome}
use Rattle.convergence.proofs.Kept.{form_kept}
use Rattle.convergence.proofs.Steps.{Turned}
use Rattle.convergence.proofs.Cursors.{shift-bounds, shift-still, moved-to-new_gap, top_stays}
use Rattle.cursor.specs.Bits.{shift_bits, shift_read}
use Rattle.cursor.proofs.Moving.{small-back}
use Rattle.codec.specs.Calls.{said_by}
use Rattle.saved.specs.Format.{saved_bytes}
use Rattle.saved.specs.Calls.{loaded_state}
use Rattle.saved.proofs.Trips.{saved_loads}
use Rattle.effects.specs.Results.{word_number, result, silent}
use Rattle.effects.specs.Effects.{Effect, quiet, writing, after_receiving, after_receiving_at}
use Rattle.c_calls.specs.Calls.{wimtaze_receive_at, earlier_checks, product_of}
use Rattle.c_calls.specs.Steps.{receiving_line, receiving_line_at}
use Rattle.c_calls.specs.Theorems.{bytes_written, shift_given, shift_returned, received_at_by, ShiftReadsBack, ShiftWithin, ReturnedShiftBounds, CursorReturned, TopReceives}
use Rattle.c_calls.proofs.Listing.{Went, away, lacking, through, went, receive-at-taken}
use Rattle.c_calls.proofs.Fitting.{front, returned-reads-back}
use Rattle.c_calls.proofs.Bodies.{accept-changes, receive-body, receive-at-body}

pub top_receives : TopReceives
unfolding receiving_line receiving_line_at after_receiving after_receiving_at writing receive receive_at shift_at shift_bits
top_receives bytes line out =
    let t = top_stays (well_formed (loaded_state bytes)) (loaded_state bytes) (said_by line) in
    receive-at-body bytes out line 0 ∙ rw (t.1, t.0) refl ∙ sym (receive-body bytes out line)

-- what the bits of an effect say is the shift that goes with its word
Tells : State → Operation → ℕ → Effect → Type 0
Tells s o g e = shift_read e.result.line ≡ shift_given s o g e.result.reply.word

module _ (s : State) (o : Operation) (g : ℕ) where
  quiet_tells : (out line : List ℕ) (a : Answer) → Turned a → Tells s o g (quiet out line a)
  unfolding Tells quiet silent result reply shift_read
  quiet_tells out line (Done _ _) t = elim t [ ]
  quiet_tells out line Deferred t = elim t [ ]
  quiet_tells out line Duplicate t = refl
  quiet_tells out line (Refused q) t = refl

  made_tells : (a : Answer) → (receive_at s o g).answer ≡ a → changes a ≡ true → (n : ℕ) (out line : List ℕ) →
      Tells s o g (record { result = result a n (shift_bits (shift_at s o g)); output = out; line = line })
  unfolding Tells result reply changes
  made_tells (Done i j) e f n out line = small-back (shift_at s o g) (shift-bounds s o g).0 (shift-bounds s o g).1
  made_tells Deferred e f n out line = small-back (shift_at s o g) (shift-bounds s o g).0 (shift-bounds s o g).1 ∙ shift-still.1 s o g e
  made_tells Duplicate e f n out line = absurd (false≢true f)
  made_tells (Refused q) e f n out line = absurd (false≢true f)

module _ (bytes line : List ℕ) (gap : ℕ) (out : List ℕ) where
  abbrev before : State
  before = loaded_state bytes

  abbrev after : Outcome Answer
  after = receive_at before (said_by line) gap

  changed : NoneHolds (earlier_checks (wimtaze_receive_at line gap) bytes) → changes after.answer ≡ true
  changed w =
      ap (λ (v : Outcome Answer). changes v.answer) (receive-at-taken bytes line gap w).1 ∙ accept-changes before (said_by line)

  went_tells : {e : Effect} → Went (wimtaze_receive_at line gap) bytes out [] e → Tells before (said_by line) gap e
  unfolding product_of
  went_tells (away a t r) = quiet_tells before (said_by line) gap out [] a t.turned
  went_tells (lacking w h) = quiet_tells before (said_by line) gap out [] (Refused Output) tt
  went_tells (through w h) = made_tells before (said_by line) gap after.answer refl (changed w) _ _ _

  -- done, so that the bytes of the new state were written
  went-done : {e : Effect} → Went (wimtaze_receive_at line gap) bytes out [] e → e.result.reply.word ≡ done →
      (well_formed before ≡ true) × (changes after.answer ≡ true) × (bytes_written e ≡ saved_bytes after.state)
  unfolding quiet silent result reply product_of
  went-done (away (Done n m) t r) e = absurd t.turned
  went-done (away Deferred t r) e = absurd t.turned
  went-done (away Duplicate t r) e = absurd (let z : ◌≡◌ {A = ℕ} 0 1 = cc in omega arith)
  went-done (away (Refused q) t r) e = absurd (let z : ◌≡◌ {A = ℕ} 0 1 = cc in omega arith)
  went-done (lacking w h) e = absurd (let z : ◌≡◌ {A = ℕ} 0 1 = cc in omega arith)
  went-done (through w h) e = (
    (receive-at-taken bytes line gap w).0,
    changed w,
    front out (saved_bytes after.state) (ltb-false (length out) (length (saved_bytes after.state)) (or-false-left _ _ h)),
  )

  -- what was written says the new state
  says-after : well_formed before ≡ true → loaded_state (saved_bytes after.state) ≡ after.state
  unfolding outcome
  says-after h = saved_loads after.state (form_kept before (receiving_at (said_by line) gap) h)

  moves : changes after.answer ≡ true → new_gap before after gap ≡ cursor_after before.characters after.state.characters gap
  unfolding new_gap
  moves e = rw e

pub shift-reads-back : ShiftReadsBack
unfolding Tells
shift-reads-back bytes line gap out =
    ap shift_read (returned-reads-back (wimtaze_receive_at line gap) bytes out []).line_read
    ∙ went_tells bytes line gap out (went (wimtaze_receive_at line gap) bytes out [])

given_bounds : (s : State) (o : Operation) (g : ℕ) (w : Word) → ShiftWithin (shift_given s o g w)
given_bounds s o g done = let b = shift-bounds s o g in record { lowest = b.0; highest = b.1 }
given_bounds s o g waits = record { lowest = record { le = tt }; highest = record { le = tt } }
given_bounds s o g known = record { lowest = record { le = tt }; highest = record { le = tt } }
given_bounds s o g refused = record { lowest = record { le = tt }; highest = record { le = tt } }

pub returned-shift-bounds : ReturnedShiftBounds
returned-shift-bounds bytes line gap out =
    rw (shift-reads-back bytes line gap out)
    (given_bounds (loaded_state bytes) (said_by line) gap (received_at_by bytes line gap out).result.reply.word)

-- ---- on the bytes that were written

pub cursor_returned : CursorReturned
cursor_returned bytes line gap out few e =
    let s = loaded_state bytes in
    let d = went-done bytes line gap out (went (wimtaze_receive_at line gap) bytes out []) e in
    ap (moved_by gap) (shift-reads-back bytes line gap out ∙ ap (shift_given s (said_by line) gap) e)
    ∙ moved-to-new_gap s (said_by line) gap few
    ∙ moves bytes line gap out d.1
    ∙ ap (λ (t : State). cursor_after s.characters t.characters gap) (sym (ap loaded_state d.2 ∙ says-after bytes line gap out d.0))
