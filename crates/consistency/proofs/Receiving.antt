-- A line that a saved copy receives leaves the saved bytes of what the rule leaves; so the lines of a heap, received one
-- by one, leave what the rules make of their operations.
use Prim.Native.Nat.{ℕ, ◌≤◌}
use native.Mathlib.Omega.{arith}
use mathlib.Core.Path.{◌≡◌, refl, sym, ap, ap₂, ◌∙◌}
use mathlib.Core.Bool.{Bool, true, false, ◌&&◌, cond, false≢true}
use mathlib.Core.List.{List, [], ◌∷◌, map, Memᴰ}
use lib.ListN.{length, take}
use borrow.Author.Tests.{le-ltb, not-false}
use Rattle.lists.specs.Lists.{every}
use Rattle.lists.proofs.Tests.{and_left_lem, and_right, and_intro, three}
use Rattle.lists.proofs.Members.{every_member, member_every}
use Rattle.woot.specs.declared.Operation.{Operation}
use Rattle.answers.specs.declared.Answer.{Answer}
use Rattle.answers.specs.declared.Answer.TheVariants.{Done, Deferred, Duplicate, Refused}
use Rattle.woot.specs.declared.Character.{Character}
use Rattle.woot.specs.Ranges.{site_number, in_range}
use Rattle.woot.specs.State.{State, initial}
use Rattle.woot.specs.Form.{well_formed}
use Rattle.woot.specs.Pending.{executable}
use Rattle.answers.specs.Answers.{done, reply, changes, decided, NoneHolds}
use Rattle.woot.specs.Calls.{Outcome, unchanged, carry_out, defer, receive}
use Rattle.woot.specs.Histories.{receiving, outcome}
use Rattle.bulk.specs.Beginnings.{start_of}
use Rattle.bulk.specs.Building.{build}
use Rattle.convergence.specs.Building.{received, each_ready}
use Rattle.convergence.proofs.Building.{built_as_received, built-sequence}
use Rattle.convergence.proofs.Forms.{empty-formed}
use Rattle.convergence.proofs.Kept.{form_kept}
use Rattle.convergence.proofs.Steps.{turned, adds, raises, defers, step, Step as RuleStep}
use Rattle.codec.specs.Operations.{operation_line}
use Rattle.codec.specs.Calls.{said_by}
use Rattle.heap.specs.Format.{heap_said}
use Rattle.saved.specs.declared.Version.TheVariants.{Second}
use Rattle.saved.specs.Format.{saved_bytes}
use Rattle.saved.specs.Theorems.{saved_most}
use Rattle.saved.proofs.Sizes.{saved-length}
use Rattle.saved.proofs.Trips.{saved_laid, in_range-back, second-says, saved_loads}
use Rattle.effects.specs.Results.{result, silent}
use Rattle.effects.specs.Effects.{Effect, quiet, turned as turnedAway, writing, after_receiving}
use Rattle.c_calls.specs.Calls.{wimtaze_receive, wimtaze_empty, wimtaze_build, input_checks, one_line, handed_checks}
use Rattle.c_calls.specs.Calls.{earlier_checks, effect_of}
use Rattle.c_calls.specs.Steps.{beginning, receiving_line as lineReceived}
use Rattle.c_calls.proofs.Bodies.{empty-body, receive-body}
use Rattle.c_calls.proofs.Own.{line-back}
use Rattle.c_calls.proofs.Fitting.{front}
use Rattle.c_calls.proofs.Listing.{Went, away, lacking, through, went, build-passed}
use Rattle.consistency.specs.Copies.{Copy, as_bytes, bytes_after, renews, on_bytes, step_on, ran, begun, empty_bytes}
use Rattle.consistency.specs.Copies.{characters_of}
use Rattle.consistency.specs.Copies.{word_of, state_of, Start, built_bytes, built_into, beginning_of, carried_before}
use Rattle.consistency.specs.Theorems.{receiving_line, received_in_c, each_ready_on, InSequence, BuildReceives}
use Rattle.consistency.specs.Theorems.{BuildSequence}
use Rattle.consistency.proofs.Holding.{bytes, says}
use Rattle.consistency.proofs.Returned.{kept, word-returned, effect_returned}
use Rattle.consistency.proofs.Claims.{holds-begun}

-- an answer that changes nothing leaves the state
unchanged-kept : (s : State) {w : Outcome Answer} → RuleStep s w → changes w.answer ≡ false → w.state ≡ s
unfolding changes unchanged carry_out defer
unchanged-kept s (turned a t) h = refl
unchanged-kept s (adds i a) h = absurd (false≢true (sym h))
unchanged-kept s (raises d a) h = absurd (false≢true (sym h))
unchanged-kept s (defers o a) h = absurd (false≢true (sym h))

pub form_after : (s : State) → well_formed s ≡ true → (o : Operation) → well_formed (receive s o).state ≡ true
unfolding outcome
form_after s h o = form_kept s (receiving o) h

-- operations are what their lines say
pub said_lines : (os : List Operation) → every in_range os ≡ true → map said_by (map operation_line os) ≡ os
said_lines [] r = refl
said_lines (o ∷ os) r =
    ap₂ ◌∷◌ (line-back o (and_left_lem (in_range o) (every in_range os) r)).1
    (said_lines os (and_right (in_range o) (every in_range os) r))

module _ (room : List ℕ) (long : saved_most ≤ length room) where
  -- what is kept of an effect that saves the state where it changed
  saved-kept : (s t : State) (a : Answer) → well_formed t ≡ true → (changes a ≡ false → t ≡ s) →
      kept (saved_bytes s) (cond (changes a) (writing a (saved_bytes t) room) (quiet room [] a)) ≡ saved_bytes t
  unfolding changes writing decided quiet silent result reply bytes_after
  saved-kept s t (Done n m) f still =
      let fits : length (saved_bytes t) ≤ length room = omega (arith, saved-length t f, long) in
      rw (le-ltb (length room) (length (saved_bytes t)) fits) (front room (saved_bytes t) fits)
  saved-kept s t Deferred f still =
      let fits : length (saved_bytes t) ≤ length room = omega (arith, saved-length t f, long) in
      rw (le-ltb (length room) (length (saved_bytes t)) fits) (front room (saved_bytes t) fits)
  saved-kept s t Duplicate f still = ap saved_bytes (sym (still refl))
  saved-kept s t (Refused q) f still = ap saved_bytes (sym (still refl))

  -- one line
  module _
      (s : State)
      (h : well_formed s ≡ true)
      (l : List ℕ)
      (one : one_line l ≡ true)
      (r : in_range (said_by l) ≡ true) where
    abbrev next : State
    next = (receive s (said_by l)).state

    next-kept : changes (receive s (said_by l)).answer ≡ false → next ≡ s
    unfolding outcome
    next-kept = unchanged-kept s (step s (receiving (said_by l)))

    pub line_effect : effect_of (wimtaze_receive l) (saved_bytes s) room [] ≡ after_receiving (receive s (said_by l)) room
    unfolding lineReceived input_checks decided
    line_effect =
        receive-body (saved_bytes s) room l
        ∙ rw (one, r, saved_laid Second s, in_range-back Second s h (second-says s), saved_loads s h, h)

    pub line_received : (step_on (as_bytes (saved_bytes s)) (receiving_line room l)).copy ≡ as_bytes (saved_bytes next)
    unfolding step_on on_bytes renews after_receiving
    line_received =
        let b : List ℕ = saved_bytes s in
        rw (effect_returned (wimtaze_receive l) b room [] b, line_effect)
        (ap as_bytes (saved-kept s next (receive s (said_by l)).answer (form_after s h (said_by l)) next-kept))

  copy-characters : (s : State) → well_formed s ≡ true → characters_of (as_bytes (saved_bytes s)) ≡ s.characters
  unfolding characters_of
  copy-characters s h = ap (λ (t : State). t.characters) (says (bytes s h))

  -- lines one after another
  pub lines-received : (s : State) → well_formed s ≡ true → (ls : List (List ℕ)) → every in_range (map said_by ls) ≡ true →
      each_ready_on (as_bytes (saved_bytes s)) room ls ≡ true →
      (ran (as_bytes (saved_bytes s)) (map (receiving_line room) ls) ≡ as_bytes (saved_bytes (received s (map said_by ls))))
      × (well_formed (received s (map said_by ls)) ≡ true)
      × (each_ready s (map said_by ls) ≡ true)
  lines-received s h [] r k = (refl, h, refl)
  lines-received s h (l ∷ ls) r k =
      let o : Operation = said_by l in
      let here = and_left_lem (in_range o) (every in_range (map said_by ls)) r in
      let p : Copy = as_bytes (saved_bytes s) in
      let after : Copy = (step_on p (receiving_line room l)).copy in
      let t = three (one_line l) (executable (characters_of p) o) (each_ready_on after room ls) k in
      let there = line_received s h l t.0 here in
      let others =
      lines-received (receive s o).state (form_after s h o) ls
      (and_right (in_range o) (every in_range (map said_by ls)) r)
      (ap (λ (q : Copy). each_ready_on q room ls) (sym there) ∙ t.2) in (
        ap (λ (q : Copy). ran q (map (receiving_line room) ls)) there ∙ others.0,
        others.1,
        and_intro (ap (λ (cs : List Character). executable cs o) (sym (copy-characters s h)) ∙ t.1) others.2,
      )

  -- the lines of operations that are each executable in their turn
  pub lines_ready : (s : State) → well_formed s ≡ true → (os : List Operation) → every in_range os ≡ true →
      each_ready s os ≡ true → each_ready_on (as_bytes (saved_bytes s)) room (map operation_line os) ≡ true
  lines_ready s h [] r k = refl
  lines_ready s h (o ∷ os) r k =
      let here = and_left_lem (in_range o) (every in_range os) r in
      let l : List ℕ = operation_line o in
      let back = line-back o here in
      let one = back.0 in
      let ranged = ap in_range back.1 ∙ here in
      let there =
      line_received s h l one ranged
      ∙ ap (λ (p : Operation). as_bytes (saved_bytes (receive s p).state)) back.1 in
      let can =
      ap (λ (cs : List Character). executable cs (said_by l)) (copy-characters s h)
      ∙ ap (executable s.characters) back.1
      ∙ and_left_lem (executable s.characters o) (each_ready (receive s o).state os) k in
      let others =
      lines_ready (receive s o).state (form_after s h o) os (and_right (in_range o) (every in_range os) r)
      (and_right (executable s.characters o) (each_ready (receive s o).state os) k) in
      and_intro (and_intro one can) (ap (λ (p : Copy). each_ready_on p room (map operation_line os)) there ∙ others)

  -- the copy that is begun
  pub begun-saved : (m : ℕ) → site_number m ≡ true → begun (empty_bytes m room) ≡ as_bytes (saved_bytes (initial m))
  unfolding begun beginning decided writing result reply bytes_after
  begun-saved m k =
      let b : List ℕ = saved_bytes (initial m) in
      let fits : length b ≤ length room = omega (arith, saved-length (initial m) (empty-formed m ∙ k), long) in
      let roomy = le-ltb (length room) (length b) fits in
      rw (effect_returned (wimtaze_empty m) [] room [] [], empty-body [] room m, k, roomy)
      (ap as_bytes (front room b fits))

-- ---- what was built

-- none of the conditions of a building that is done holds
went-passed : {n : ℕ} {heap out : List ℕ} {e : Effect} → Went (wimtaze_build n heap) [] out [] e →
    e.result.reply.word ≡ done → NoneHolds (earlier_checks (wimtaze_build n heap) [])
unfolding quiet silent result reply
went-passed (away (Done i j) t r) d = absurd t.turned
went-passed (away Deferred t r) d = absurd t.turned
went-passed (away Duplicate t r) d = absurd (let z : ◌≡◌ {A = ℕ} 0 1 = cc in omega arith)
went-passed (away (Refused q) t r) d = absurd (let z : ◌≡◌ {A = ℕ} 0 1 = cc in omega arith)
went-passed (lacking w f) d = absurd (let z : ◌≡◌ {A = ℕ} 0 1 = cc in omega arith)
went-passed (through w f) d = w

module _ (n : ℕ) (heap out : List ℕ) (d : word_of (built_into n heap out) ≡ done) where
  abbrev said : List Operation
  said = heap_said heap

  passed : NoneHolds (earlier_checks (wimtaze_build n heap) [])
  passed =
      went-passed (went (wimtaze_build n heap) [] out [])
      (sym (word-returned (wimtaze_build n heap) [] out []) ∙ d)

  ranged : every in_range said ≡ true
  unfolding handed_checks
  ranged = and_right (site_number n) (every in_range said) (not-false _ passed.1.0)

  carried_is : carried_before (built_bytes n heap out) ≡ (build n said).integrated
  unfolding carried_before
  carried_is = rw d

  rule_done : (reply (build n said).answer).word ≡ done
  rule_done = build-passed n heap [] passed

  built-characters : characters_of (begun (built_bytes n heap out)) ≡ (build n said).state.characters
  unfolding characters_of beginning_of
  built-characters =
      let a : Start = built_bytes n heap out in
      let held : state_of (begun a) ≡ (build n said).state = rw d at (says (holds-begun a)) in
      ap (λ (s : State). s.characters) held

pub build_receives : BuildReceives
build_receives n m heap out room ls d k long inSequence =
    let os : List Operation = map said_by ls in
    let heard : every in_range os ≡ true =
    member_every in_range os (λ o w. every_member in_range (ranged n heap out d) (inSequence.of-heap o w)) in
    let first = begun-saved room long m k in
    let all =
    lines-received room long (initial m) (empty-formed m ∙ k) ls heard
    (ap (λ (p : Copy). each_ready_on p room ls) (sym first) ∙ inSequence.ready) in
    let left_over : characters_of (received_in_c m room ls) ≡ (received (initial m) os).characters =
    ap (λ (p : Copy). characters_of (ran p (map (receiving_line room) ls))) first ∙ ap characters_of all.0
    ∙ copy-characters room long (received (initial m) os) all.1 in
    built-characters n heap out d
    ∙ built_as_received n m (heap_said heap) os (rule_done n heap out d) k inSequence.of-heap all.2
    inSequence.all_there
    ∙ sym left_over

pub build-sequence : BuildSequence
build-sequence n m heap out room d k long =
    let os : List Operation = (build n (heap_said heap)).integrated in
    let seq = built-sequence n m (heap_said heap) (rule_done n heap out d) k in
    let heard : every in_range os ≡ true =
    member_every in_range os (λ o w. every_member in_range (ranged n heap out d) (seq.0 o w)) in
    let same = said_lines os heard in
    rw (carried_is n heap out d)
    (record {
      of-heap = rw same seq.0;
      ready =
          ap (λ (p : Copy). each_ready_on p room (map operation_line os)) (begun-saved room long m k)
          ∙ lines_ready room long (initial m) (empty-formed m ∙ k) os heard seq.1;
      all_there = rw same seq.2;
    })
