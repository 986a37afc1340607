-- A call answers as the first condition of its list that holds, and what is made where none does is neither known nor
-- refused: so what is said of the list is said of every call.
use Prim.Native.Nat.{ℕ}
use native.Mathlib.Omega.{arith}
use mathlib.Core.Path.{◌≡◌, refl, sym, ap, ◌∙◌}
use mathlib.Core.Bool.{Bool, true, false, not, cond}
use mathlib.Core.Option.{Option, none, some}
use mathlib.Core.List.{List, [], ◌∷◌, ◌++◌}
use lib.Dec.{eqb}
use lib.ListN.{length, drop}
use borrow.Author.Tests.{not-false}
use Rattle.woot.specs.declared.Operation.{Operation}
use Rattle.woot.specs.declared.Operation.TheVariants.{Insert as insert, Toggle as toggle}
use Rattle.answers.specs.declared.Refusal.{Refusal}
use Rattle.answers.specs.declared.Refusal.TheVariants.{HeapFull, Mislisted, Misarranged, Unreachable}
use Rattle.answers.specs.declared.Refusal.TheVariants.{Layout, Range, NotUtf8, Form, Unrepresentable, Position, NotHidden, LastToggle, Clock, Taken, Conflict, Crossed, Unplaceable, SenderFull, DocumentFull, Output}
use Rattle.answers.specs.declared.Answer.{Answer}
use Rattle.answers.specs.declared.Answer.TheVariants.{Done, Deferred, Duplicate, Refused}
use Rattle.woot.specs.Ranges.{is_code_point, character_id, in_range}
use Rattle.woot.specs.State.{State}
use Rattle.woot.specs.Form.{well_formed}
use Rattle.woot.specs.Pending.{executable}
use Rattle.answers.specs.Answers.{number, Word, done, waits, known, refused, Reply, reply, Check, first, ◌⇒◌, NoneHolds, Reported, here, later, decided}
use Rattle.woot.specs.Sending.{answer_of}
use Rattle.woot.specs.Calls.{unchanged, carry_out, defer, accept, receive_checks, receive_when, receive, insert_checks, generated_insert, send_insert, local_insert_when, local_insert, delete_checks, generated_delete, send_toggle, local_delete_when, local_delete, restore_checks, generated_toggle, local_restore_when, local_restore}
use Rattle.woot.specs.Cursor.{receive_at_checks, receive_at_when, receive_at}
use Rattle.bulk.specs.Pasting.{code_points_of, typings, pasted, paste_checks, paste_when, paste}
use Rattle.bulk.specs.Building.{left_out, build_checks, build}
use Rattle.bulk.specs.Loading.{use_checks}
use Rattle.bulk.specs.Archiving.{archive_checks, unarchive_checks}
use Rattle.convergence.proofs.Building.{build_does, left-out-count}
use Rattle.convergence.proofs.Refusals.{first_reported, reported_first}
use Rattle.convergence.proofs.Replies.{none_first, positive, answer-number}
use Rattle.convergence.proofs.Steps.{All, Turned, first-none, first_some}
use Rattle.lists.proofs.Tests.{and_right}
use Rattle.codec.specs.Calls.{said_by}
use Rattle.heap.specs.Format.{heap_said}
use Rattle.saved.specs.Format.{saved_in_range}
use Rattle.saved.specs.Calls.{loaded_state}
use Rattle.saved.specs.Conversion.{conversion_refusals}
use Rattle.saved.specs.Archive.{archiving_refusals, unarchiving_refusals}
use Rattle.effects.specs.Results.{Result, result, silent}
use Rattle.effects.specs.Effects.{Effect, quiet}
use Rattle.effects.specs.Counts.{counts_of}
use Rattle.c_calls.specs.Calls.{CCall, wimtaze_empty, wimtaze_receive, wimtaze_receive_at, wimtaze_type, wimtaze_erase, wimtaze_restore, wimtaze_paste, wimtaze_text, wimtaze_counts, wimtaze_upgrade, wimtaze_downgrade, input_checks, named, answering, handed_checks, rule_checks, earlier_checks, call_checks, Product, product_of, short, delivered, effect_of}
use Rattle.c_calls.specs.Calls.{wimtaze_build, wimtaze_load, wimtaze_list, wimtaze_answer}
use Rattle.c_calls.specs.Calls.{wimtaze_archive, wimtaze_unarchive}
use Rattle.c_calls.specs.Theorems.{CallsMeet, CallsRise, CallsRefuse, CallsKnow, Untouched, TurnedUntouched}
use Rattle.woot.specs.Sent.{Sending}

-- ---- the lists

pub calls_meet : CallsMeet
unfolding call_checks handed_checks rule_checks input_checks conversion_refusals receive_checks receive_at_checks insert_checks
    delete_checks restore_checks paste_checks build_checks use_checks archiving_refusals archive_checks unarchiving_refusals
    unarchive_checks reply answer_of
calls_meet (wimtaze_empty n) bytes out line = refl
calls_meet (wimtaze_build n heap) bytes out line = refl
calls_meet wimtaze_load bytes out line = refl
calls_meet (wimtaze_receive l) bytes out line = refl
calls_meet (wimtaze_receive_at l gap) bytes out line = refl
calls_meet (wimtaze_type gap n) bytes out line = refl
calls_meet (wimtaze_erase place) bytes out line = refl
calls_meet (wimtaze_restore site clock) bytes out line = refl
calls_meet (wimtaze_paste gap block) bytes out line = refl
calls_meet wimtaze_text bytes out line = refl
calls_meet wimtaze_counts bytes out line = refl
calls_meet wimtaze_list bytes out line = refl
calls_meet (wimtaze_answer list) bytes out line = refl
calls_meet wimtaze_upgrade bytes out line = refl
calls_meet wimtaze_downgrade bytes out line = refl
calls_meet wimtaze_archive bytes out line = refl
calls_meet wimtaze_unarchive bytes out line = refl

pub calls_rise : CallsRise
unfolding call_checks handed_checks rule_checks input_checks conversion_refusals receive_checks receive_at_checks insert_checks
    delete_checks restore_checks paste_checks build_checks use_checks archiving_refusals archive_checks unarchiving_refusals
    unarchive_checks answer_of
calls_rise (wimtaze_empty n) bytes out line = refl
calls_rise (wimtaze_build n heap) bytes out line = refl
calls_rise wimtaze_load bytes out line = refl
calls_rise (wimtaze_receive l) bytes out line = refl
calls_rise (wimtaze_receive_at l gap) bytes out line = refl
calls_rise (wimtaze_type gap n) bytes out line = refl
calls_rise (wimtaze_erase place) bytes out line = refl
calls_rise (wimtaze_restore site clock) bytes out line = refl
calls_rise (wimtaze_paste gap block) bytes out line = refl
calls_rise wimtaze_text bytes out line = refl
calls_rise wimtaze_counts bytes out line = refl
calls_rise wimtaze_list bytes out line = refl
calls_rise (wimtaze_answer list) bytes out line = refl
calls_rise wimtaze_upgrade bytes out line = refl
calls_rise wimtaze_downgrade bytes out line = refl
calls_rise wimtaze_archive bytes out line = refl
calls_rise wimtaze_unarchive bytes out line = refl

-- every condition before 12 answers known or another refusal
pub record Earlier (a : Answer) : Type 0 where
  pub turned : Turned a
  pub other : eqb (reply a).refusal 12 ≡ false

earlier : (q : Refusal) → eqb (number q) 12 ≡ false → Earlier (Refused q)
unfolding reply
earlier q h = record { turned = tt; other = h }

earlier-known : Earlier Duplicate
unfolding reply
earlier-known = record { turned = tt; other = refl }

all-earlier : (c : CCall) (bytes : List ℕ) → All Earlier (earlier_checks c bytes)
unfolding handed_checks rule_checks input_checks conversion_refusals receive_checks receive_at_checks insert_checks
    delete_checks restore_checks paste_checks build_checks use_checks archiving_refusals archive_checks unarchiving_refusals
    unarchive_checks answer_of
all-earlier (wimtaze_empty n) bytes = (earlier Range refl, tt)
all-earlier (wimtaze_build n heap) bytes =
    (earlier Layout refl, (earlier Range refl, (earlier HeapFull refl, (earlier Conflict refl, tt))))
all-earlier wimtaze_load bytes =
    (earlier Layout refl, (earlier Range refl, (earlier Form refl, (earlier Unreachable refl, tt))))
all-earlier (wimtaze_receive l) bytes = (
  earlier Layout refl,
  (
    earlier Range refl,
    (
      earlier Form refl,
      (
        earlier-known,
        (
          earlier Conflict refl,
          (
            earlier Crossed refl,
            (
              earlier
                  Unplaceable refl,
              (earlier SenderFull refl, (earlier DocumentFull refl, tt)),
            ),
          ),
        ),
      ),
    ),
  ),
)
all-earlier (wimtaze_receive_at l gap) bytes = (
  earlier Layout refl,
  (
    earlier Range refl,
    (
      earlier Form refl,
      (
        earlier-known,
        (
          earlier Position refl,
          (
            earlier Conflict refl,
            (
              earlier Crossed
                  refl,
              (earlier Unplaceable refl, (earlier SenderFull refl, (earlier DocumentFull refl, tt))),
            ),
          ),
        ),
      ),
    ),
  ),
)
all-earlier (wimtaze_type gap n) bytes = (
  earlier Layout refl,
  (
    earlier Range refl,
    (
      earlier Form refl,
      (
        earlier Position refl,
        (
          earlier Clock refl,
          (
            earlier Taken refl,
            (
              earlier
                  Unplaceable refl,
              (earlier DocumentFull refl, tt),
            ),
          ),
        ),
      ),
    ),
  ),
)
all-earlier (wimtaze_erase place) bytes = (earlier Layout refl, (earlier Range refl, (earlier Form refl, (earlier Position refl, tt))))
all-earlier (wimtaze_restore site clock) bytes =
    (earlier Layout refl, (earlier Range refl, (earlier Form refl, (earlier NotHidden refl, (earlier LastToggle refl, tt)))))
all-earlier (wimtaze_paste gap block) bytes = (
  earlier Layout refl,
  (
    earlier Range refl,
    (
      earlier NotUtf8 refl,
      (
        earlier Form refl,
        (earlier Position refl, (earlier Clock refl, (earlier DocumentFull refl, (earlier Unplaceable refl, tt)))),
      ),
    ),
  ),
)
all-earlier wimtaze_text bytes = (earlier Layout refl, (earlier Range refl, (earlier Form refl, tt)))
all-earlier wimtaze_counts bytes = (earlier Layout refl, (earlier Range refl, (earlier Form refl, tt)))
all-earlier wimtaze_list bytes = (earlier Layout refl, (earlier Range refl, (earlier Form refl, tt)))
all-earlier (wimtaze_answer list) bytes =
    (earlier Layout refl, (earlier Range refl, (earlier Mislisted refl, (earlier Form refl, tt))))
all-earlier wimtaze_upgrade bytes = (earlier Layout refl, (earlier Range refl, (earlier Form refl, (earlier Unrepresentable refl, tt))))
all-earlier wimtaze_downgrade bytes = (earlier Layout refl, (earlier Range refl, (earlier Form refl, (earlier Unrepresentable refl, tt))))
all-earlier wimtaze_archive bytes = (earlier Layout refl, (earlier Range refl, (earlier Form refl, tt)))
all-earlier wimtaze_unarchive bytes =
    (earlier Layout refl, (earlier Range refl, (earlier Misarranged refl, (earlier Form refl, tt))))

-- ---- where no condition holds

none-sent : (cs : List (Check Sending)) → NoneHolds (answering cs) → NoneHolds cs
none-sent [] w = tt
none-sent (c ∷ cs) w = (w.0, none-sent cs w.1)

module _ (bytes : List ℕ) where
  abbrev said : State
  said = loaded_state bytes

  -- a rule that is asked does what it does where none of its own conditions holds, on a state in form
  pub receive-taken : (l : List ℕ) → NoneHolds (earlier_checks (wimtaze_receive l) bytes) →
      (well_formed said ≡ true) × (receive said (said_by l) ≡ accept said (said_by l))
  unfolding handed_checks rule_checks input_checks receive_checks receive receive_when decided
  receive-taken l w =
      let o : Operation = said_by l in
      let f = not-false (well_formed said) w.1.1.0 in
      let r = and_right (saved_in_range bytes) (in_range o) (not-false _ w.1.0) in
      (f, rw (f, none_first (receive_checks true said o) (ap not r, (refl, w.1.1.1))))

  pub receive-at-taken : (l : List ℕ) (g : ℕ) → NoneHolds (earlier_checks (wimtaze_receive_at l g) bytes) →
      (well_formed said ≡ true) × (receive_at said (said_by l) g ≡ accept said (said_by l))
  unfolding handed_checks rule_checks input_checks receive_at_checks receive_at receive_at_when decided
  receive-at-taken l g w =
      let o : Operation = said_by l in
      let f = not-false (well_formed said) w.1.1.0 in
      let r = and_right (saved_in_range bytes) (in_range o) (not-false _ w.1.0) in
      (f, rw (f, none_first (receive_at_checks true said o g) (ap not r, (refl, w.1.1.1))))

  pub type_taken : (g n : ℕ) → NoneHolds (earlier_checks (wimtaze_type g n) bytes) →
      (well_formed said ≡ true) × (local_insert said g n ≡ send_insert said (generated_insert said g n))
  unfolding handed_checks rule_checks input_checks insert_checks local_insert local_insert_when decided
  type_taken g n w =
      let f = not-false (well_formed said) w.1.1.0 in
      let r = and_right (saved_in_range bytes) (is_code_point n) (not-false _ w.1.0) in
      let cs : List (Check Sending) = drop 2 (insert_checks true said g n) in
      let k = none-sent cs w.1.1.1 in
      (f, rw (f, none_first (insert_checks true said g n) (ap not r, (refl, k))))

  pub erase-taken : (p : ℕ) → NoneHolds (earlier_checks (wimtaze_erase p) bytes) →
      (well_formed said ≡ true) × (local_delete said p ≡ send_toggle said (generated_delete said p))
  unfolding handed_checks rule_checks input_checks delete_checks local_delete local_delete_when decided
  erase-taken p w =
      let f = not-false (well_formed said) w.1.1.0 in
      let cs : List (Check Sending) = drop 1 (delete_checks true said p) in
      let k = none-sent cs w.1.1.1 in
      (f, rw (f, none_first (delete_checks true said p) (refl, k)))

  pub restore_taken : (n t : ℕ) → NoneHolds (earlier_checks (wimtaze_restore n t) bytes) →
      (well_formed said ≡ true) × (local_restore said (named n t) ≡ send_toggle said (generated_toggle said (named n t)))
  unfolding handed_checks rule_checks input_checks restore_checks local_restore local_restore_when decided
  restore_taken n t w =
      let f = not-false (well_formed said) w.1.1.0 in
      let r = and_right (saved_in_range bytes) (character_id (named n t)) (not-false _ w.1.0) in
      let cs : List (Check Sending) = drop 2 (restore_checks true said (named n t)) in
      let k = none-sent cs w.1.1.1 in
      (f, rw (f, none_first (restore_checks true said (named n t)) (ap not r, (refl, k))))

  -- none of the conditions of pasting holds where none of the call's does
  pub paste-passed : (g : ℕ) (block : List ℕ) → NoneHolds (earlier_checks (wimtaze_paste g block) bytes) →
      NoneHolds (paste_checks (well_formed said) said g block)
  unfolding handed_checks rule_checks paste_checks
  paste-passed g block w = (w.1.1.0, (w.1.1.1.0, w.1.1.1.1))

  pub paste-taken : (g : ℕ) (block : List ℕ) → NoneHolds (earlier_checks (wimtaze_paste g block) bytes) →
      (well_formed said ≡ true) × (paste said g block ≡ pasted said (typings said g (code_points_of block)))
  unfolding paste_checks paste paste_when decided
  paste-taken g block w =
      let k = paste-passed g block w in
      (not-false (well_formed said) k.1.0, rw (none_first (paste_checks (well_formed said) said g block) k))

-- none of the conditions of building holds where none of the call's does, and it is done
pub build-passed : (n : ℕ) (heap bytes : List ℕ) → NoneHolds (earlier_checks (wimtaze_build n heap) bytes) →
    (reply (build n (heap_said heap)).answer).word ≡ done
unfolding handed_checks rule_checks build_checks
build-passed n heap bytes w = (build_does n (heap_said heap)).1 w.1

pub build-taken : (n : ℕ) (heap bytes : List ℕ) → NoneHolds (earlier_checks (wimtaze_build n heap) bytes) →
    (build n (heap_said heap)).answer ≡ Done 0 (length (left_out (heap_said heap)))
build-taken n heap bytes w = left-out-count n (heap_said heap) (build-passed n heap bytes w)

-- ---- what is made is neither known nor refused

pub record Made (x : Reply) : Type 0 where
  pub unrefused : x.refusal ≡ 0
  pub unknown : x.word ≡ known → ⊥
  pub untold : x.word ≡ refused → ⊥

done_made : (n m : ℕ) → Made (reply (Done n m))
unfolding reply
done_made n m =
    record {
      unrefused = refl;
      unknown = λ e. let z : ◌≡◌ {A = ℕ} 0 1 = cc in omega arith;
      untold = λ e. let z : ◌≡◌ {A = ℕ} 0 1 = cc in omega arith;
    }

waits_made : Made (reply Deferred)
unfolding reply
waits_made =
    record {
      unrefused = refl;
      unknown = λ e. let z : ◌≡◌ {A = ℕ} 0 1 = cc in omega arith;
      untold = λ e. let z : ◌≡◌ {A = ℕ} 0 1 = cc in omega arith;
    }

accept_made : (s : State) (o : Operation) → Made (reply (accept s o).answer)
unfolding accept carry_out defer
accept_made s o = go (executable s.characters o) o
  where
    go : (b : Bool) (p : Operation) → Made (reply (cond b (carry_out Done s p) (defer s p)).answer)
    go true (insert i) = done_made _ _
    go true (toggle t) = done_made _ _
    go false p = waits_made

pub product_made : (c : CCall) (bytes : List ℕ) → NoneHolds (earlier_checks c bytes) → Made (product_of c bytes).result.reply
unfolding product_of result counts_of send_insert send_toggle carry_out answer_of pasted
product_made (wimtaze_empty n) bytes w = done_made 0 0
product_made (wimtaze_build n heap) bytes w = rw (build-taken n heap bytes w) (done_made 0 _)
product_made wimtaze_load bytes w = done_made 0 0
product_made (wimtaze_receive l) bytes w = rw (receive-taken bytes l w).1 (accept_made _ _)
product_made (wimtaze_receive_at l g) bytes w = rw (receive-at-taken bytes l g w).1 (accept_made _ _)
product_made (wimtaze_type g n) bytes w = rw (type_taken bytes g n w).1 (done_made _ _)
product_made (wimtaze_erase p) bytes w = rw (erase-taken bytes p w).1 (done_made _ _)
product_made (wimtaze_restore n t) bytes w = rw (restore_taken bytes n t w).1 (done_made _ _)
product_made (wimtaze_paste g []) bytes w = done_made 0 0
product_made (wimtaze_paste g (b ∷ block)) bytes w = rw (paste-taken bytes g (b ∷ block) w).1 (done_made _ _)
product_made wimtaze_text bytes w = done_made 0 0
product_made wimtaze_counts bytes w = done_made _ _
product_made wimtaze_list bytes w = done_made 0 0
product_made (wimtaze_answer list) bytes w = done_made 0 0
product_made wimtaze_upgrade bytes w = done_made 0 0
product_made wimtaze_downgrade bytes w = done_made 0 0
product_made wimtaze_archive bytes w = done_made 0 0
product_made wimtaze_unarchive bytes w = done_made 0 0

-- ---- the answer

-- how a call went: by a condition before 12, by 12, and then nothing is written; or by what is made
pub data Went (c : CCall) (bytes out line : List ℕ) : Effect → Type 0 where
  away : (a : Answer) → Earlier a → Reported a (earlier_checks c bytes) → Went c bytes out line (quiet out line a)
  lacking : NoneHolds (earlier_checks c bytes) → short (product_of c bytes) out line ≡ true →
      Went c bytes out line (quiet out line (Refused Output))
  through : NoneHolds (earlier_checks c bytes) → short (product_of c bytes) out line ≡ false →
      Went c bytes out line (delivered (product_of c bytes) out line)

known-answer : (a : Answer) → (reply a).word ≡ known → a ≡ Duplicate
unfolding reply
known-answer (Done n m) h = absurd (let z : ◌≡◌ {A = ℕ} 0 1 = cc in omega arith)
known-answer Deferred h = absurd (let z : ◌≡◌ {A = ℕ} 0 1 = cc in omega arith)
known-answer Duplicate h = refl
known-answer (Refused q) h = absurd (let z : ◌≡◌ {A = ℕ} 0 1 = cc in omega arith)

-- the first of a list and one behind it
pub first-behind : (cs : List (Check Answer)) (b : Bool) (a : Answer) (m : Option Answer) → first cs ≡ m →
    first (cs ++ (b ⇒ a) ∷ []) ≡ elim m [ none ↦ cond b (some a) none | some x ↦ some x ]
first-behind [] b a m e = rw (← e)
first-behind (c ∷ cs) b a m e = go c.holds refl (first-behind cs b a m)
  where
    behind : Type 0
    behind = first cs ≡ m → first (cs ++ (b ⇒ a) ∷ []) ≡ elim m [ none ↦ cond b (some a) none | some x ↦ some x ]

    go : (h : Bool) → c.holds ≡ h → behind → cond h (some c.answer) (first (cs ++ (b ⇒ a) ∷ [])) ≡ elim m [ none ↦ cond b (some a) none | some x ↦ some x ]
    go true f r = let k : some c.answer ≡ m = rw f at e in rw (← k)
    go false f r = r (rw f at e)

module _ (c : CCall) (bytes out line : List ℕ) where
  abbrev lacks : Bool
  lacks = short (product_of c bytes) out line

  by_first : Option Answer → Effect
  by_first m = decided (quiet out line) m (delivered (product_of c bytes) out line)

  pub went : Went c bytes out line (effect_of c bytes out line)
  unfolding effect_of call_checks decided by_first
  went = go (first cs) refl
    where
      cs : List (Check Answer)
      cs = earlier_checks c bytes

      last : (b : Bool) → lacks ≡ b → NoneHolds cs → Went c bytes out line (by_first (cond b (some (Refused Output)) none))
      last true e w = lacking w e
      last false e w = through w e

      go : (m : Option Answer) → first cs ≡ m → Went c bytes out line (by_first (first (cs ++ (lacks ⇒ Refused Output) ∷ [])))
      go none e = rw (first-behind cs lacks (Refused Output) none e) (last lacks refl (first-none cs e))
      go (some a) e =
          rw (first-behind cs lacks (Refused Output) (some a) e)
          (away a (first_some Earlier cs (all-earlier c bytes) a e) (first_reported cs a e))

  -- where a condition is reported, its answer is given and nothing is written
  pub reported_quiet : (a : Answer) → Reported a (call_checks c bytes out line) → effect_of c bytes out line ≡ quiet out line a
  unfolding effect_of decided
  reported_quiet a r = rw (reported_first (call_checks c bytes out line) a r)

  reported_before : (cs : List (Check Answer)) (x : Check Answer) (a : Answer) → Reported a cs → Reported a (cs ++ x ∷ [])
  reported_before [] x a x3 = elim x3 [ ]
  reported_before (d ∷ cs) x a (here h e) = here h e
  reported_before (d ∷ cs) x a (later h r) = later h (reported_before cs x a r)

  reported_last : (cs : List (Check Answer)) (x : Check Answer) → NoneHolds cs → x.holds ≡ true → Reported x.answer (cs ++ x ∷ [])
  reported_last [] x w h = here h refl
  reported_last (d ∷ cs) x w h = later w.0 (reported_last cs x w.1 h)

  pub earlier_reported : (a : Answer) → Reported a (earlier_checks c bytes) → Reported a (call_checks c bytes out line)
  unfolding call_checks
  earlier_reported a r = reported_before (earlier_checks c bytes) (lacks ⇒ Refused Output) a r

  pub output_reported : NoneHolds (earlier_checks c bytes) → lacks ≡ true → Reported (Refused Output) (call_checks c bytes out line)
  unfolding call_checks
  output_reported w h = reported_last (earlier_checks c bytes) (lacks ⇒ Refused Output) w h

  to-refused : (q : Refusal) {e : Effect} → Went c bytes out line e → e.result.reply.refusal ≡ number q →
      Reported (Refused q) (call_checks c bytes out line)
  unfolding quiet silent result
  to-refused q (away a t r) h = rw ((answer-number a q).0 h) at (earlier_reported a r)
  to-refused q (lacking w f) h = rw ((answer-number (Refused Output) q).0 h) at (output_reported w f)
  to-refused q (through w f) h = absurd (positive q (sym (product_made c bytes w).unrefused ∙ h))

  to-known : {e : Effect} → Went c bytes out line e → e.result.reply.word ≡ known → Reported Duplicate (call_checks c bytes out line)
  unfolding quiet silent result reply
  to-known (away a t r) h = rw (known-answer a h) at (earlier_reported a r)
  to-known (lacking w f) h = absurd (let z : ◌≡◌ {A = ℕ} 0 1 = cc in omega arith)
  to-known (through w f) h = absurd ((product_made c bytes w).unknown h)

  known_untouched : {e : Effect} → Went c bytes out line e → e.result.reply.word ≡ known → Untouched e out line
  unfolding quiet
  known_untouched (away a t r) h = record { output-kept = refl; line_kept = refl }
  known_untouched (lacking w f) h = record { output-kept = refl; line_kept = refl }
  known_untouched (through w f) h = absurd ((product_made c bytes w).unknown h)

  refused_untouched : {e : Effect} → Went c bytes out line e → e.result.reply.word ≡ refused → Untouched e out line
  unfolding quiet
  refused_untouched (away a t r) h = record { output-kept = refl; line_kept = refl }
  refused_untouched (lacking w f) h = record { output-kept = refl; line_kept = refl }
  refused_untouched (through w f) h = absurd ((product_made c bytes w).untold h)

pub calls_refuse : CallsRefuse
unfolding quiet silent result
calls_refuse c bytes out line q = (
  to-refused c bytes out line q (went c bytes out line),
  λ r. rw (reported_quiet c bytes out line (Refused q) r) ((answer-number (Refused q) q).1 refl),
)

pub calls_know : CallsKnow
unfolding quiet silent result reply
calls_know c bytes out line = (to-known c bytes out line (went c bytes out line), λ r. rw (reported_quiet c bytes out line Duplicate r))

pub turned_untouched : TurnedUntouched
turned_untouched c bytes out line = (
  known_untouched c bytes out line (went c bytes out line),
  refused_untouched c bytes out line (went c bytes out line),
)
