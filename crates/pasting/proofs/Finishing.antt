-- What pasting returns is what the rule comes to: an answer with the very replica, or all that was typed.
use Prim.Native.Nat.{ℕ, ◌+◌, ◌<◌}
use native.Mathlib.Omega.{arith}
use mathlib.Core.Path.{◌≡◌, refl, ap, sym, ◌∙◌}
use mathlib.Core.Bool.{Bool, true, false}
use mathlib.Core.List.{List, [], ◌∷◌}
use borrow.Author.Tests.{le-ltb}
use lib.ListN.{length, take, replicate}
use Rattle.lists.specs.Lists.{every}
use Rattle.lists.specs.Padding.{pad}
use Rattle.lists.proofs.Padding.{pad-take}
use Rattle.decoding.specs.Theorems.{Encodes}
use Rattle.decoding.proofs.Decoding.{decoded_exactly}
use Rattle.woot.specs.declared.Operation.{Operation}
use Rattle.answers.specs.declared.Refusal.TheVariants.{Unplaceable}
use Rattle.answers.specs.declared.Answer.{Answer}
use Rattle.answers.specs.declared.Answer.TheVariants.{Done, Refused}
use Rattle.woot.specs.declared.Replica.{Replica}
use Rattle.woot.specs.Limits.{last_clock, capacity}
use Rattle.woot.specs.Ranges.{is_code_point}
use Rattle.woot.specs.State.{State}
use Rattle.woot.specs.Form.{present_inserts, well_formed}
use Rattle.answers.specs.Answers.{done, reply}
use Rattle.woot.specs.Histories.{run}
use Rattle.woot.specs.Memory as memory
use Rattle.bulk.specs.Pasting.{typings, own_by, stopped, PasteOutcome, unpasted, pasted, clock_short, overfull, paste_when, paste}
use Rattle.memory.specs.Columns as columns
use Rattle.memory.specs.Lent.{viewed}
use Rattle.memory.proofs.Fullness.{FullArrays}
use Rattle.memory.proofs.Stored.{form_meant}
use Rattle.memory.proofs.Views.{meaning-view, form_view}
use Rattle.convergence.proofs.Forms.{known-length}
use Rattle.convergence.proofs.Pasting.{paste-sends}
use Rattle.replica.proofs.Returning.{whole}
use Rattle.keystroke.specs.declared.Typing.{Typing}
use Rattle.std.proofs.Common.{Option, Some, None}
use Rattle.typing.specs.Columns.{typed_columns}
use Rattle.typing.specs.Steps.{Unwritten, points_in, Written, AllTyped}
use Rattle.pasting.specs.declared.Pasted.{Pasted}
use Rattle.pasting.specs.Replicas.{after_typing, pasted_with, pasted_by}
use Rattle.pasting.specs.Steps.{Pasteable}
use Rattle.block_judging.proofs.Judging.{nowhere, everything}

-- ---- an answer alone

module _ (r : Replica) (g : ℕ) (block : List ℕ) where
  -- by the columns of the replica
  pub pasted-view : pasted_by r g block ≡ pasted_with r (paste_when (columns.replica_well_formed (viewed r)) (columns.meaning (viewed r)) g block)
  unfolding pasted_by
  pasted-view = rw (form_view r, meaning-view r)

  pub answered_so : (a : Answer)
      → paste_when (columns.replica_well_formed (viewed r)) (columns.meaning (viewed r)) g block ≡ unpasted (columns.meaning (viewed r)) a
      → ◌≡◌ {A = Pasted} (record { answer = a; replica = r; typed = typed_columns []; count = 0 }) (pasted_by r g block)
  unfolding pasted_with unpasted after_typing
  answered_so a e = sym (pasted-view ∙ ap (pasted_with r) e)

-- ---- what the column holds

pub points-are : {ns typed : List ℕ} {count : ℕ} → count ≡ length ns → Unwritten ns typed → points_in count typed ≡ ns
points-are {ns} {count = count} many u = ap (take count) u.points ∙ pad-take 1024 0 ns count (sym many)

-- nothing yet
pub none_written : Unwritten [] (replicate 4096 0)
unfolding pad
none_written = record { ids = refl; previous = refl; next = refl; points = refl }

-- an array with no character in it
module _ {typed : List ℕ} (e : typed ≡ typed_columns []) where
  pub blank_unwritten : Unwritten [] typed
  unfolding typed_columns memory.in_columns pad
  blank_unwritten = rw e none_written

  pub blank_length : length typed ≡ 4096
  unfolding typed_columns memory.in_columns pad
  blank_length = rw e

-- cleared from its first slot on it is so
pub wiped : (typed : List ℕ) → length typed ≡ 4096 → pad (length typed) 0 (take 0 typed) ≡ typed_columns []
unfolding typed_columns memory.in_columns pad
wiped typed e = rw e

-- ---- what typing told

module _ (s : State) (g : ℕ) {ms ns : List ℕ} (same : ms ≡ ns) (typed : List ℕ) (r : columns.Replica) {t : Option Typing} (w : AllTyped s g ms typed r t) where
  pub told-stopped : t ≡ None → stopped s (typings s g ns) ≡ true
  unfolding AllTyped
  told-stopped e = rw (same, e) at w

  pub told-finished : {to : Typing} → t ≡ Some to → Written s g ns typed to r
  unfolding AllTyped
  told-finished e = rw (same, e) at w

-- ---- the block typed

-- something was typed
pub after-some : (r : Replica) (s : State) (os : List Operation) → 0 < length os → after_typing r s os ≡ memory.stored s
unfolding after_typing
after-some r s [] h = absurd (omega arith)
after-some r s (o ∷ os) h = refl

module _ (r : Replica) (g : ℕ) (block : List ℕ) {count : ℕ} (p : Pasteable (viewed r) g block count) where
  abbrev s : State
  s = columns.meaning (viewed r)

  abbrev ns : List ℕ
  ns = p.points

  pub encoded : Encodes block ns
  encoded = (decoded_exactly block ns).0 p.read

  pub coded : every is_code_point ns ≡ true
  coded = encoded.0

  early : clock_short s (length ns) ≡ false
  unfolding clock_short columns.meaning
  early = le-ltb last_clock (r.site.clock + length ns) (omega (arith, p.spacious.clock, p.many))

  roomy : overfull s (length ns) ≡ false
  unfolding overfull
  roomy = le-ltb capacity (length (present_inserts s) + length ns) (omega (arith, p.spacious.space, p.many, known-length s))

  pub stopped_so : stopped s (typings s g ns) ≡ true
      → ◌≡◌ {A = Pasted} (record { answer = Refused Unplaceable; replica = r; typed = typed_columns []; count = 0 }) (pasted_by r g block)
  stopped_so e =
      answered_so r g block (Refused Unplaceable) (rw p.spacious.form (nowhere s g block ns p.read p.spacious.gap early roomy e))

  module _ (e : stopped s (typings s g ns) ≡ false) where
    comes : paste_when true s g block ≡ pasted s (typings s g ns)
    comes = everything s g block ns p.read p.spacious.gap early roomy e

    formed : well_formed s ≡ true
    formed = form_meant (viewed r) p.spacious.form

    is-paste : paste s g block ≡ pasted s (typings s g ns)
    unfolding paste
    is-paste = ap (λ (b : Bool). paste_when b s g block) formed ∙ comes

    is-done : (reply (paste s g block).answer).word ≡ done
    unfolding pasted reply
    is-done = ap (λ (w : PasteOutcome). (reply w.answer).word) is-paste

    -- as many as it has characters
    own_many : length (own_by s (typings s g ns)) ≡ count
    unfolding pasted
    own_many = sym (ap (λ (w : PasteOutcome). length w.own) is-paste) ∙ (paste-sends s g block ns encoded is-done).2 ∙ sym p.many

    pasted-is : pasted_by r g block ≡ pasted_with r (pasted s (typings s g ns))
    pasted-is = pasted-view r g block ∙ rw p.spacious.form (ap (pasted_with r) comes)

  pub finished_so : (b : Replica) → FullArrays b.document → (typed : List ℕ) (t : Typing) → Written s g ns typed t (viewed b)
      → ◌≡◌ {A = Pasted} (record { answer = Done t.integrated t.discarded; replica = b; typed = typed; count = count }) (pasted_by r g block)
  unfolding pasted_with pasted
  finished_so b full typed t w =
      let own = own_many w.unstopped in
      let after = after-some r (run s (typings s g ns)) (own_by s (typings s g ns)) (omega (arith, own, p.filled)) in
      (λ j.
      record {
        answer = Done (w.integrated j) (w.discarded j);
        replica = (whole b full (run s (typings s g ns)) w.left ∙ sym after) j;
        typed = w.own j;
        count = sym own j;
      })
      ∙ sym (pasted-is w.unstopped)
