-- Listing and answering on bytes go by what is handed; so what `catching` returned is told, what was written is what
-- the rule lists and answers, and a list that was written is never refused.
use Prim.Native.Nat.{ℕ, ◌≤◌}
use native.Mathlib.Omega.{arith}
use mathlib.Core.Path.{◌≡◌, refl, sym, ap, ◌∙◌}
use mathlib.Core.Bool.{Bool, true, false, ◌&&◌, not}
use mathlib.Core.List.{List, [], ◌∷◌}
use mathlib.Core.Option.{Option, some}
use lib.ListN.{length}
use borrow.Author.Tests.{le-ltb, not-false}
use Rattle.lists.proofs.Tests.{and_intro, and_left_lem, and_right}
use Rattle.answers.specs.declared.Refusal.{Refusal}
use Rattle.answers.specs.declared.Refusal.TheVariants.{Layout, Range, Mislisted, Form, Output}
use Rattle.answers.specs.declared.Answer.TheVariants.{Done, Refused}
use Rattle.answers.specs.Answers.{done, reply, earlier, ◌⇒◌, first, decided, NoneHolds, Reported, here, later}
use Rattle.woot.specs.declared.Operation.{Operation}
use Rattle.woot.specs.declared.Replica.{Replica}
use Rattle.woot.specs.Form.{well_formed}
use Rattle.woot.specs.State.{State}
use Rattle.woot.specs.Memory.{meaning, replica_well_formed}
use Rattle.bulk.specs.Catching.{listing, answer_for, listing_in_range, mislisted, list_checks, answer_checks}
use Rattle.convergence.proofs.Marking.{listing-accepted}
use Rattle.convergence.proofs.Refusals.{skipped, other}
use Rattle.lines.specs.Lines.{concatenated}
use Rattle.codec.specs.Operations.{operation_line}
use Rattle.heap.specs.Format.{heap_laid_out, heap_said}
use Rattle.heap.proofs.Heaps.{heap_reads-back}
use Rattle.std.proofs.Common.{Ok, Err}
use Rattle.listing.specs.Format.{list_bytes, list_laid_out, list_said}
use Rattle.listing.specs.Calls.{list_read_checks, list_read}
use Rattle.listing.specs.Theorems.{list_most}
use Rattle.listing.proofs.Sizes.{list-fits}
use Rattle.listing.proofs.Trips.{list-reads-back}
use Rattle.saved.specs.LoadAnswer.{LoadAnswer}
use Rattle.saved.specs.declared.Version.TheVariants.{Second}
use Rattle.saved.specs.Format.{saved_laid_out, saved_in_range, saved_state}
use Rattle.saved.specs.Calls.{loaded_state, unread, reading_checks, saved_read}
use Rattle.loading.specs.Filling.{read_answer}
use Rattle.loading.proofs.Forming.{answer-read, both}
use Rattle.catching.specs.Calls.{list_bytes_of, list_written, list_out, answering_checks, answer_bytes_of, answer_written}
use Rattle.catching.specs.Calls.{answer_out}
use Rattle.effects.specs.Results.{result}
use Rattle.effects.specs.Effects.{Effect, turned, writing}
use Rattle.effects.specs.Steps.{after_writing}
use Rattle.effects.proofs.Outputs.{checked-written}
use Rattle.c_calls.specs.Calls.{wimtaze_list, wimtaze_answer, input_checks, handed_checks, rule_checks}
use Rattle.c_calls.specs.Calls.{earlier_checks, call_checks, product_of}
use Rattle.c_calls.specs.Inputs.{first_beside}
use Rattle.c_calls.specs.Steps.{listing_here, answering_here}
use Rattle.c_calls.specs.Theorems.{bytes_written, InForm, listed_in_c, answered_in_c}
use Rattle.c_calls.specs.Theorems.{ListWrites, ListDone, AnswerWrites, ListAnswered}
use Rattle.c_calls.specs.Theorems.{BothInRange, MislistedExactly}
use Rattle.c_calls.proofs.Answers.{answer-short}
use Rattle.c_calls.proofs.Products.{list-formed, answer-formed}
use Rattle.c_calls.proofs.Listing.{calls_refuse}
use Rattle.c_calls.proofs.Fitting.{alone_done}
use Rattle.c_calls.proofs.Refusals.{answering, Reads}
use Rattle.c_calls.proofs.Bridging.{formed-first}
use Rattle.c_calls.proofs.Bodies.{list-body, answer-body}

-- ---- what a writer of `catching` returned

-- the rule on the state that the bytes say is the writer on the replica that was read
module _ (r : Replica) (s : State) (read : Reads r s) (out : List ℕ) where
  pub list_bridge : formed-first s out [] (writing (Done 0 0) (list_bytes (listing s)) out)
      ≡ record { result = after_writing (Done 0 0) (list_written r out); output = list_out r out; line = [] }
  unfolding list_written list_out list_bytes_of list_checks decided
  list_bridge = go (well_formed s) refl ∙ checked-written (list_checks (replica_well_formed r)) (list_bytes_of r) out
    where
      go : (b : Bool) → well_formed s ≡ b → formed-first s out [] (writing (Done 0 0) (list_bytes (listing s)) out)
          ≡ decided (turned out []) (first (list_checks (replica_well_formed r)))
          (writing (Done 0 0) (list_bytes_of r) out)
      go true e = rw (read.form, read.means e, e)
      go false e = rw (read.form, e)

  module _ (list : List ℕ) where
    -- what is handed beside a saved replica that is read
    abbrev checks_on : Bool → Option Refusal
    checks_on formed = first ((not (list_laid_out list) ⇒ Layout) ∷ answer_checks formed (list_said list))

    abbrev answered : State → Effect
    answered t = writing (Done 0 0) (concatenated operation_line (answer_for t (list_said list))) out

    -- out of form the answer is not looked at
    unformed : (a b c : Bool) → list_laid_out list ≡ a → listing_in_range (list_said list) ≡ b →
        mislisted (list_said list) ≡ c →
        decided (turned out []) (checks_on false) (answered s)
        ≡ decided (turned out []) (checks_on false) (answered (meaning r))
    unfolding answer_checks decided
    unformed false b c e f g = rw e
    unformed true false c e f g = rw (e, f)
    unformed true true true e f g = rw (e, f, g)
    unformed true true false e f g = rw (e, f, g)

    pub answer_bridge : decided (turned out []) (checks_on (well_formed s)) (answered s)
        ≡ record {
          result = after_writing (Done 0 0) (answer_written r list out);
          output = answer_out r list out;
          line = [];
        }
    unfolding answer_written answer_out answer_bytes_of answering_checks
    answer_bridge = go (well_formed s) refl ∙ checked-written (answering_checks r list) (answer_bytes_of r list) out
      where
        go : (b : Bool) → well_formed s ≡ b → decided (turned out []) (checks_on (well_formed s)) (answered s)
            ≡ decided (turned out []) (first (answering_checks r list)) (writing (Done 0 0) (answer_bytes_of r list) out)
        go true e = rw (read.form, read.means e)
        go false e =
            rw (read.form, e)
            (unformed (list_laid_out list) (listing_in_range (list_said list)) (mislisted (list_said list)) refl refl refl)

-- a saved replica that is read leaves the conditions of the list and the form
module _ (bytes : List ℕ) {a : LoadAnswer} (e : a ≡ read_answer Second bytes) (list : List ℕ) where
  said_so : a ≡ (saved_read Second bytes).answer
  said_so = e ∙ answer-read Second bytes

  pub answer-passed : a ≡ Ok tt → first (handed_checks (wimtaze_answer list) bytes)
      ≡ first ((not (list_laid_out list) ⇒ Layout) ∷ answer_checks (well_formed (loaded_state bytes)) (list_said list))
  unfolding handed_checks answer_checks
  answer-passed h = let d = both Second bytes (saved_read Second bytes) refl (sym said_so ∙ h) in rw (d.0, d.1)

  -- and one that is refused is refused with the earlier of its refusal and the list's
  pub answer-refused : (q : Refusal) → a ≡ Err q →
      first (handed_checks (wimtaze_answer list) bytes) ≡ some (first_beside q (list_read list))
  unfolding handed_checks saved_read reading_checks list_read list_read_checks decided unread first_beside earlier
  answer-refused q h =
      judged (saved_laid_out bytes) (saved_in_range bytes) (well_formed (loaded_state bytes)) (saved_state bytes)
      (list_laid_out list) (listing_in_range (list_said list)) (mislisted (list_said list)) q
      (sym said_so ∙ h)
    where
      judged : (a b f : Bool) (s : State) (la lr m : Bool) (p : Refusal) → (answering a b s).answer ≡ Err p →
          first ((not (a && la) ⇒ Layout) ∷ (not (b && lr) ⇒ Range) ∷ (m ⇒ Mislisted) ∷ (not f ⇒ Form) ∷ [])
          ≡ some (first_beside p (decided Err
          (first ((not la ⇒ Layout) ∷ (not lr ⇒ Range) ∷ (m ⇒ Mislisted) ∷ []))
          (Ok (length (list_said list).chunks))))
      judged true true f s la lr m p k = cc
      judged true false f s false lr m p k = let z : Range ≡ p = cc in rw (← z)
      judged true false f s true false m p k = let z : Range ≡ p = cc in rw (← z)
      judged true false f s true true true p k = let z : Range ≡ p = cc in rw (← z)
      judged true false f s true true false p k = cc
      judged false b f s false lr m p k = let z : Layout ≡ p = cc in rw (← z)
      judged false b f s true false m p k = let z : Layout ≡ p = cc in rw (← z)
      judged false b f s true true true p k = let z : Layout ≡ p = cc in rw (← z)
      judged false b f s true true false p k = cc

-- ---- listing

module _ (bytes out : List ℕ) where
  abbrev said : State
  said = loaded_state bytes

  listed-done : (listed_in_c bytes out).result.reply.word ≡ done →
      NoneHolds (earlier_checks wimtaze_list bytes) × (bytes_written (listed_in_c bytes out) ≡ list_bytes (listing said))
  unfolding product_of
  listed-done d = let w = alone_done wimtaze_list bytes out (list_bytes (listing said)) refl d in (w.0, w.2)

  listed_so : NoneHolds (earlier_checks wimtaze_list bytes) → InForm bytes
  unfolding handed_checks input_checks
  listed_so w =
      record {
        laid_out = and_left_lem (saved_laid_out bytes) true (not-false _ w.0);
        in-range = and_left_lem (saved_in_range bytes) true (not-false _ w.1.0);
        formed = list-formed bytes w;
      }

  pub list_in_form : (listed_in_c bytes out).result.reply.word ≡ done → InForm bytes
  list_in_form d = listed_so (listed-done d).0

  so_listed : InForm bytes → list_most ≤ length out → (listed_in_c bytes out).result.reply.word ≡ done
  unfolding listing_here input_checks decided writing result reply
  so_listed i room =
      let b : List ℕ = list_bytes (listing said) in
      let few = le-ltb (length out) (length b) (omega (arith, (list-fits said i.formed).1, room)) in
      rw (list-body bytes out, i.laid_out, i.in-range, i.formed, few)

pub list-writes : ListWrites
list-writes bytes out d =
    let s : State = loaded_state bytes in
    let w = listed-done bytes out d in
    let back = list-reads-back (listing s) in
    record {
      list_written = w.1;
      list-laid-out = ap list_laid_out w.1 ∙ back.0;
      list-says = ap list_said w.1 ∙ back.1;
    }

pub list_done : ListDone
list_done bytes out room = (list_in_form bytes out, λ i. so_listed bytes out i room)

-- ---- answering

module _ (bytes list out : List ℕ) where
  abbrev given : List Operation
  given = answer_for (loaded_state bytes) (list_said list)

  answered_done : (answered_in_c bytes list out).result.reply.word ≡ done →
      NoneHolds (earlier_checks (wimtaze_answer list) bytes)
      × (bytes_written (answered_in_c bytes list out) ≡ concatenated operation_line given)
  unfolding product_of
  answered_done d =
      let w = alone_done (wimtaze_answer list) bytes out (concatenated operation_line given) refl d in
      (w.0, w.2)

  answered_so : NoneHolds (earlier_checks (wimtaze_answer list) bytes) → InForm bytes
  unfolding handed_checks
  answered_so w =
      record {
        laid_out = and_left_lem (saved_laid_out bytes) (list_laid_out list) (not-false _ w.0);
        in-range = and_left_lem (saved_in_range bytes) (listing_in_range (list_said list)) (not-false _ w.1.0);
        formed = answer-formed bytes list w;
      }

  pub answer_in_form : (answered_in_c bytes list out).result.reply.word ≡ done → InForm bytes
  answer_in_form d = answered_so (answered_done d).0

  -- ---- 18

  -- it is the third of the conditions, and no other answers it
  mislisted_so : Reported (Refused Mislisted) (call_checks (wimtaze_answer list) bytes out []) →
      BothInRange bytes list × (mislisted (list_said list) ≡ true)
  unfolding call_checks handed_checks rule_checks
  mislisted_so r =
      let a = skipped (other (λ z. omega arith)) r in
      let b = skipped (other (λ z. omega arith)) a.1 in
      let laid = not-false (saved_laid_out bytes && list_laid_out list) a.0 in
      let ranged = not-false (saved_in_range bytes && listing_in_range (list_said list)) b.0 in (
        record {
          laid_out = and_left_lem (saved_laid_out bytes) (list_laid_out list) laid;
          list-laid-out = and_right (saved_laid_out bytes) (list_laid_out list) laid;
          in-range = and_left_lem (saved_in_range bytes) (listing_in_range (list_said list)) ranged;
          list-in-range = and_right (saved_in_range bytes) (listing_in_range (list_said list)) ranged;
        },
        wrong (mislisted (list_said list)) (well_formed (loaded_state bytes)) b.1,
      )
    where
      wrong : (m f : Bool) {c : Bool} →
          Reported (Refused Mislisted) ((m ⇒ Refused Mislisted) ∷ (not f ⇒ Refused Form) ∷ (c ⇒ Refused Output) ∷ []) →
          m ≡ true
      wrong m f {c = c} (later h (later j (later _ x12))) = elim x12 [ ]
      wrong m f (here h e) = h
      wrong m f (later h (here k e)) = absurd (other (λ z. omega arith) e)
      wrong m f (later h (later j (here k e))) = absurd (other (λ z. omega arith) e)

  so_mislisted : BothInRange bytes list → mislisted (list_said list) ≡ true →
      Reported (Refused Mislisted) (call_checks (wimtaze_answer list) bytes out [])
  unfolding call_checks handed_checks rule_checks
  so_mislisted i m =
      later (ap not (and_intro i.laid_out i.list-laid-out))
      (later (ap not (and_intro i.in-range i.list-in-range)) (here m refl))

pub answer-writes : AnswerWrites
answer-writes bytes list out d =
    let there = (answered_done bytes list out d).1 in
    let back = heap_reads-back (answer_for (loaded_state bytes) (list_said list)) in
    record {
      lines-written = there;
      lines-laid-out = ap heap_laid_out there ∙ back.0;
      lines-say = ap heap_said there ∙ back.1;
    }

pub list_answered : ListAnswered
unfolding answering_here handed_checks decided writing result reply
list_answered s bytes out f i room =
    let list : List ℕ = list_bytes (listing s) in
    let fine = listing-accepted s f in
    let back = list-reads-back (listing s) in
    let ranged = ap listing_in_range back.1 ∙ fine.0 in
    let right = ap mislisted back.1 ∙ fine.1 in
    let b : List ℕ = concatenated operation_line (answer_for (loaded_state bytes) (list_said list)) in
    let short = answer-short (loaded_state bytes) i.formed (list_said list) in
    let few = le-ltb (length out) (length b) (omega (arith, short, room)) in
    rw (answer-body bytes out list, i.laid_out, back.0, i.in-range, ranged, right, i.formed, few)

pub mislisted_exactly : MislistedExactly
mislisted_exactly bytes list out =
    let k = calls_refuse (wimtaze_answer list) bytes out [] Mislisted in
    (λ h. mislisted_so bytes list out (k.0 h), λ p. k.1 (so_mislisted bytes list out p.0 p.1))
