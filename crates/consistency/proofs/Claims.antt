-- The calls of the rules that the calls on a copy make, one after another, lead to the state that the copy holds; so
-- demand 3 of the rules is demand 3 of copies.
use Prim.Native.Nat.{ℕ}
use native.Mathlib.Omega.{arith}
use mathlib.Core.Path.{◌≡◌, refl, sym, ap, ap₂, ◌∙◌, subst}
use mathlib.Core.Bool.{Bool, true, false, false≢true}
use mathlib.Core.Logic.{◌⊎◌, inl, inr, ⊎_elim}
use mathlib.Core.List.{List, [], ◌∷◌, ◌++◌, append_assoc}
use borrow.Author.Tests.{ltb-false, not-false}
use lib.ListN.{length}
use Rattle.lists.proofs.Tests.{or-false-left}
use Rattle.answers.specs.declared.Answer.{Answer}
use Rattle.answers.specs.declared.Answer.TheVariants.{Done, Duplicate, Refused}
use Rattle.answers.specs.declared.Refusal.TheVariants.{Output}
use Rattle.woot.specs.declared.Operation.{Operation}
use Rattle.woot.specs.Ranges.{site_number}
use Rattle.woot.specs.State.{State, initial}
use Rattle.woot.specs.Form.{well_formed}
use Rattle.answers.specs.Answers.{Word, done, waits, known, refused, reply, decided}
use Rattle.woot.specs.Calls.{all_integrated}
use Rattle.woot.specs.Text.{text}
use Rattle.woot.specs.Histories.{outcome, run, integrated_by}
use Rattle.bulk.specs.Beginnings.{Begun, empty, heaped, loaded, start_of, beforehand}
use Rattle.woot.specs.Histories.{Call as RuleCall}
use Rattle.woot.specs.declared.Replica.{Replica}
use Rattle.woot.specs.Memory.{stored, meaning, replica_well_formed}
use Rattle.bulk.specs.Loading.{loadable, use_checks, unused, use_when, use_outcome}
use Rattle.bulk.specs.Building.{built, BuildOutcome, unbuilt, build}
use Rattle.convergence.proofs.Built.{heap_formed}
use Rattle.convergence.proofs.Heaped.{Verdict, turned as rejected, accepted, verdict}
use Rattle.convergence.proofs.Building.{built-formed}
use Rattle.convergence.proofs.Steps.{Turned}
use Rattle.convergence.proofs.Forms.{empty-formed}
use Rattle.convergence.proofs.Convergence.{convergence}
use Rattle.lines.specs.Lines.{rest}
use Rattle.saved.specs.declared.Version.TheVariants.{First, Second}
use Rattle.saved.specs.Format.{site_line, saved_laid_out, saved_bytes}
use Rattle.saved.specs.Calls.{loaded_as, raising_as, loaded_state}
use Rattle.saved.specs.Conversion.{Converts}
use Rattle.saved.proofs.Sizes.{saved-length}
use Rattle.saved.proofs.Trips.{loaded-again, unraised_again, unraised, second-says}
use Rattle.replica.proofs.Runs.{initial-within, formed-within, form_meant}
use Rattle.admission.specs.Calls.{used_after, admitted_as, admitted_by}
use Rattle.heap.specs.Format.{heap_laid_out, heap_said}
use Rattle.building.specs.Calls.{built_outcome, built_by}
use Rattle.effects.specs.Results.{result, silent}
use Rattle.effects.specs.Effects.{Effect, quiet}
use Rattle.c_calls.specs.Calls.{wimtaze_empty, wimtaze_build, wimtaze_load, handed_checks, product_of}
use Rattle.c_calls.specs.Theorems.{bytes_written, converted_from}
use Rattle.c_calls.proofs.Fitting.{front}
use Rattle.c_calls.proofs.Listing.{Went, away, lacking, through, went, build-passed, build-taken}
use Rattle.c_calls.proofs.Loaded.{load-passed, load-formed}
use Rattle.c_calls.proofs.Trips.{from-done, trips_return}
use Rattle.consistency.specs.Copies.{Copy, in_memory, as_bytes, Call, memory_call, bytes_call, bytes_after, word_of}
use Rattle.consistency.specs.Copies.{step_on, ran, rules_by, carried_by, Start, empty_replica, empty_bytes, built_replica}
use Rattle.consistency.specs.Copies.{built_bytes, emptied_into, built_into, begun, begun_as, beginning_of, carried_with}
use Rattle.consistency.specs.Copies.{loaded_replica, loaded_bytes, loaded_into, carried_for, carried_before}
use Rattle.consistency.specs.Copies.{characters_of, text_of}
use Rattle.consistency.specs.Theorems.{CopiesFollow, TripsKeep, CopiesConverge}
use Rattle.consistency.proofs.Holding.{Holds, memory, bytes, nothing, stored-held, Steps, says, works}
use Rattle.consistency.proofs.Returned.{kept, word-returned, effect_returned}
use Rattle.consistency.proofs.Memory.{memory_step}
use Rattle.consistency.proofs.Bytes.{no_bytes, bytes-step, nothing-step}

-- ---- one call after another

step : {s : State} {p : Copy} → Holds s p → (c : Call) → Steps s p c
unfolding step_on
step (memory r s m) (memory_call c) = memory_step r s m c
step (memory r s m) (bytes_call c) = memory r s m
step (bytes s h) (memory_call c) = bytes s h
step (bytes s h) (bytes_call c) = bytes-step s h c
step nothing (memory_call c) = nothing
step nothing (bytes_call c) = nothing-step c

run_on : (s : State) (xs ys : List RuleCall) → run s (xs ++ ys) ≡ run (run s xs) ys
run_on s [] ys = refl
run_on s (x ∷ xs) ys = run_on (outcome s x).state xs ys

integrated_on : (s : State) (xs ys : List RuleCall) → integrated_by s (xs ++ ys) ≡ integrated_by s xs ++ integrated_by (run s xs) ys
integrated_on s [] ys = refl
integrated_on s (x ∷ xs) ys =
    ap (◌++◌ (all_integrated (outcome s x))) (integrated_on (outcome s x).state xs ys)
    ∙ sym (append_assoc (all_integrated (outcome s x)) (integrated_by (outcome s x).state xs) (integrated_by (run s (x ∷ xs)) ys))

pub follow_holds : {s : State} {p : Copy} → Holds s p → (cs : List Call) → Holds (run s (rules_by p cs)) (ran p cs)
follow_holds h [] = h
follow_holds {s} {p} h (c ∷ cs) = rw (run_on s (step_on p c).rules (rules_by (step_on p c).copy cs)) (follow_holds {s = run s (step_on p c).rules} {p = (step_on p c).copy} (step h c) cs)

follow_carries : {s : State} {p : Copy} → Holds s p → (cs : List Call) → carried_by p cs ≡ integrated_by s (rules_by p cs)
follow_carries h [] = refl
follow_carries {s} {p} h (c ∷ cs) =
    ap₂ ◌++◌ (ap (λ (t : State). integrated_by t (step_on p c).rules) (works h)) (follow_carries {s = run s (step_on p c).rules} {p = (step_on p c).copy} (step h c) cs)
    ∙ sym (integrated_on s (step_on p c).rules (rules_by (step_on p c).copy cs))

-- ---- from the starts

-- no bytes where beginning a copy is refused
quiet-begun : (b : Begun) (a : Answer) → Turned a → (out : List ℕ) →
    Holds (start_of (begun_as (reply a).word b)) (as_bytes (kept [] (quiet out [] a)))
unfolding quiet silent result reply bytes_after
quiet-begun b (Done _ _) t out = elim t [ ]
quiet-begun b Rattle.answers.specs.declared.Answer.TheVariants.Deferred t out = elim t [ ]
quiet-begun b Duplicate t out = nothing
quiet-begun b (Refused q) t out = nothing

went-empty : (n : ℕ) {out : List ℕ} {e : Effect} → Went (wimtaze_empty n) [] out [] e →
    Holds (start_of (begun_as e.result.reply.word (empty n))) (as_bytes (kept [] e))
unfolding quiet silent result reply bytes_after product_of handed_checks
went-empty n {out} (away a t r) = quiet-begun (empty n) a t.turned out
went-empty n {out} (lacking w f) = quiet-begun (empty n) (Refused Output) tt out
went-empty n {out} (through w f) =
    let b : List ℕ = saved_bytes (initial n) in
    rw (front out b (ltb-false (length out) (length b) (or-false-left _ _ f)))
    (bytes (initial n) (empty-formed n ∙ not-false (site_number n) w.0))

module _ (n : ℕ) (heap : List ℕ) where
  abbrev heap_begun : Begun
  heap_begun = heaped n (heap_said heap)

  went-built : {out : List ℕ} {e : Effect} → Went (wimtaze_build n heap) [] out [] e →
      Holds (start_of (begun_as e.result.reply.word heap_begun)) (as_bytes (kept [] e))
  unfolding quiet silent result reply bytes_after product_of
  went-built {out} (away a t r) = quiet-begun heap_begun a t.turned out
  went-built {out} (lacking w f) = quiet-begun heap_begun (Refused Output) tt out
  went-built {out} (through w f) =
      let s : State = (build n (heap_said heap)).state in
      let b : List ℕ = saved_bytes s in
      rw (build-taken n heap [] w, front out b (ltb-false (length out) (length b) (or-false-left _ _ f)))
      (bytes s (built-formed n (heap_said heap) (build-passed n heap [] w)).1)

  -- in memory, of bytes that have the layout, by how the rule goes
  ruled_held : {w : BuildOutcome} → Verdict n (heap_said heap) w → build n (heap_said heap) ≡ w →
      Holds (start_of (begun_as (reply w.answer).word heap_begun)) (in_memory (stored w.state))
  unfolding unbuilt reply
  ruled_held (rejected (Done _ _) t) e = elim t [ ]
  ruled_held (rejected Rattle.answers.specs.declared.Answer.TheVariants.Deferred t) e = elim t [ ]
  ruled_held (rejected Duplicate t) e = stored-held (initial 0) (initial-within 0)
  ruled_held (rejected (Refused q) t) e = stored-held (initial 0) (initial-within 0)
  ruled_held (accepted a) e =
      let s : State = built n (heap_said heap) in
      let f = (heap_formed n (heap_said heap) a.site a.ranged a.agreed a.few-inserts).0 in
      subst (λ (b : BuildOutcome). Holds b.state (in_memory (stored s))) (sym e) (stored-held s (formed-within s f))

  ruled_before : {w : BuildOutcome} → Verdict n (heap_said heap) w → build n (heap_said heap) ≡ w →
      w.integrated ≡ beforehand (begun_as (reply w.answer).word heap_begun)
  unfolding unbuilt reply
  ruled_before (rejected (Done _ _) t) e = elim t [ ]
  ruled_before (rejected Rattle.answers.specs.declared.Answer.TheVariants.Deferred t) e = elim t [ ]
  ruled_before (rejected Duplicate t) e = refl
  ruled_before (rejected (Refused q) t) e = refl
  ruled_before (accepted a) e = ap (λ (b : BuildOutcome). b.integrated) (sym e)

  -- and of any bytes
  replica-held : (b : Bool) → heap_laid_out heap ≡ b →
      Holds (start_of (begun_as (reply (built_outcome n heap).answer).word heap_begun))
      (in_memory (stored (built_outcome n heap).state))
  unfolding built_outcome unbuilt decided reply
  replica-held false e = rw e (stored-held (initial 0) (initial-within 0))
  replica-held true e = rw e (ruled_held (verdict n (heap_said heap)) refl)

  replica-before : (b : Bool) → heap_laid_out heap ≡ b →
      (built_outcome n heap).integrated ≡ beforehand (begun_as (reply (built_outcome n heap).answer).word heap_begun)
  unfolding built_outcome unbuilt decided reply
  replica-before false e = rw e
  replica-before true e = rw e (ruled_before (verdict n (heap_said heap)) refl)

-- a state in form that is loadable is the one that is loaded
used_whole : (s : State) → (well_formed s ≡ true) × (loadable s.characters ≡ true) → (use_outcome s).state ≡ s
unfolding use_outcome use_when use_checks decided
used_whole s p = rw (p.0, p.1)

module _ (given : List ℕ) where
  abbrev said : State
  said = loaded_state given

  went-loaded : {out : List ℕ} {e : Effect} → Went wimtaze_load given out [] e →
      Holds (start_of (begun_as e.result.reply.word (loaded said))) (as_bytes (kept [] e))
  unfolding quiet silent result reply bytes_after product_of
  went-loaded {out} (away a t r) = quiet-begun (loaded said) a t.turned out
  went-loaded {out} (lacking w f) = quiet-begun (loaded said) (Refused Output) tt out
  went-loaded {out} (through w f) =
      let b : List ℕ = saved_bytes said in
      let p = load-formed given out w in
      rw (front out b (ltb-false (length out) (length b) (or-false-left _ _ f)), used_whole said p) (bytes said p.0)

  loaded-before : (out : List ℕ) (w : Word) → word_of (loaded_into given out) ≡ w →
      carried_with w (carried_for said.characters) ≡ beforehand (begun_as w (loaded said))
  loaded-before out done e =
      let d = sym (word-returned wimtaze_load given out []) ∙ e in
      ap (λ (s : State). carried_for s.characters)
      (sym (used_whole said (load-formed given out (load-passed given out d))))
  loaded-before out waits e = refl
  loaded-before out known e = refl
  loaded-before out refused e = refl

-- the replica that is admitted, or that stands beside a refusal, by the two tests
module _ (r : Replica) where
  admitted_held : (f l : Bool) → replica_well_formed r ≡ f → loadable (meaning r).characters ≡ l →
      Holds (start_of (begun_as (reply (admitted_by r).answer).word (loaded (meaning r))))
      (in_memory (admitted_by r).replica)
  unfolding admitted_by admitted_as used_after use_when use_checks unused decided reply
  admitted_held true true a b =
      let f = form_meant r a in
      rw (a, b) (subst (λ (t : State). Holds t (in_memory r)) (sym (used_whole (meaning r) (f, b)))
      (memory r (meaning r) (record { meant = refl; form = a ∙ sym f })))
  admitted_held true false a b = rw (a, b) (stored-held (initial 0) (initial-within 0))
  admitted_held false l a b = rw a (stored-held (initial 0) (initial-within 0))

  admitted_before : (f l : Bool) → replica_well_formed r ≡ f → loadable (meaning r).characters ≡ l →
      carried_with (reply (admitted_by r).answer).word (carried_for (meaning r).characters)
      ≡ beforehand (begun_as (reply (admitted_by r).answer).word (loaded (meaning r)))
  unfolding admitted_by admitted_as use_when use_checks unused decided reply
  admitted_before true true a b =
      let e = used_whole (meaning r) (form_meant r a, b) in
      rw (a, b) (ap (λ (s : State). carried_for s.characters) (sym e))
  admitted_before true false a b = rw (a, b)
  admitted_before false l a b = rw a

pub holds-begun : (a : Start) → Holds (start_of (beginning_of a)) (begun a)
unfolding begun beginning_of built_by
holds-begun (empty_replica n) = stored-held (initial n) (initial-within n)
holds-begun (empty_bytes n out) =
    rw (effect_returned (wimtaze_empty n) [] out [] [], word-returned (wimtaze_empty n) [] out [])
    (went-empty n (went (wimtaze_empty n) [] out []))
holds-begun (built_replica n heap) = replica-held n heap (heap_laid_out heap) refl
holds-begun (built_bytes n heap out) =
    rw (effect_returned (wimtaze_build n heap) [] out [] [], word-returned (wimtaze_build n heap) [] out [])
    (went-built n heap (went (wimtaze_build n heap) [] out []))
holds-begun (loaded_replica r) =
    admitted_held r (replica_well_formed r) (loadable (meaning r).characters) refl refl
holds-begun (loaded_bytes given out) =
    rw (effect_returned wimtaze_load given out [] [], word-returned wimtaze_load given out [])
    (went-loaded given (went wimtaze_load given out []))

-- what was carried out to make them is what the rules begin with
begun-before : (a : Start) → carried_before a ≡ beforehand (beginning_of a)
unfolding carried_before beginning_of built_by
begun-before (empty_replica n) = refl
begun-before (empty_bytes n out) = go (word_of (emptied_into n out))
  where
    go : (w : Word) → [] ≡ beforehand (begun_as w (empty n))
    go done = refl
    go waits = refl
    go known = refl
    go refused = refl
begun-before (built_replica n heap) = replica-before n heap (heap_laid_out heap) refl
begun-before (built_bytes n heap out) = go (word_of (built_into n heap out))
  where
    go : (w : Word) →
        carried_with w (build n (heap_said heap)).integrated ≡ beforehand (begun_as w (heaped n (heap_said heap)))
    go done = refl
    go waits = refl
    go known = refl
    go refused = refl
begun-before (loaded_replica r) =
    admitted_before r (replica_well_formed r) (loadable (meaning r).characters) refl refl
begun-before (loaded_bytes given out) = loaded-before given out (word_of (loaded_into given out)) refl

pub copies_follow : CopiesFollow
copies_follow a cs =
    record {
      says = says (follow_holds (holds-begun a) cs);
      carries = ap₂ ◌++◌ (begun-before a) (follow_carries (holds-begun a) cs);
    }

pub copies_converge : CopiesConverge
unfolding characters_of text_of
copies_converge a b cs ds inserted toggled =
    let f = copies_follow a cs in
    let g = copies_follow b ds in
    let same = (convergence (beginning_of a) (beginning_of b) (rules_by (begun a) cs) (rules_by (begun b) ds) (rw (f.carries, g.carries) at inserted) (rw (f.carries, g.carries) at toggled)).0 in
    let e = ap (λ (s : State). s.characters) f.says ∙ same ∙ sym (ap (λ (s : State). s.characters) g.says) in
    record { characters = e; text = ap text e }

-- ---- both trips of a copy

-- a copy that is bytes has none, or those of a state in form
pub as_saved : {s : State} {p : Copy} → Holds s p → (b : List ℕ) → p ≡ as_bytes b → (b ≡ []) ⊎ ((well_formed s ≡ true) × (b ≡ saved_bytes s))
as_saved (memory r s m) b e = let z : ◌≡◌ {A = ℕ} 0 1 = cc in absurd (omega arith)
as_saved (bytes s h) b e = let same : saved_bytes s ≡ b = cc in inr (h, sym same)
as_saved nothing b e = let same : [] ≡ b = cc in inl (sym same)

pub trips_keep : TripsKeep
trips_keep a cs b out back e d room =
    let s : State = run (start_of (beginning_of a)) (rules_by (begun a) cs) in
    ⊎_elim (λ n. absurd (no-trip n)) (returned s) (as_saved (follow_holds (holds-begun a) cs) b e)
  where
    there : Converts Second First b
    there = (from-done Second b out d).0

    no-trip : b ≡ [] → ⊥
    no-trip n = false≢true (sym (ap saved_laid_out n ∙ no_bytes) ∙ there.0)

    returned : (s : State) → (well_formed s ≡ true) × (b ≡ saved_bytes s) → bytes_written (converted_from First (bytes_written (converted_from Second b out)) back) ≡ b
    returned s w =
        let still : raising_as Second b ≡ false = ap (raising_as Second) w.1 ∙ unraised Second s w.0 (second-says s) in
        let same : site_line Second (loaded_as Second b).site ++ rest b ≡ b = sym (loaded-again Second b there.0) ∙ unraised_again Second b there.0 still in
        (trips_return Second b out back d (omega (arith, ap length same, ap length w.1, saved-length s w.0))).same_bytes still
