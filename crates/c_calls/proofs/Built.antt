-- Building on bytes is refused or goes by the rule; so what `building::build` returned is saved or its answer told, and
-- what was written is read back as what was built.
use Prim.Native.Nat.{ℕ}
use native.Mathlib.Omega.{arith}
use mathlib.Core.Path.{◌≡◌, refl, sym, ap, ◌∙◌}
use mathlib.Core.Bool.{Bool, true, false, false≢true}
use mathlib.Core.List.{List, []}
use lib.ListN.{length}
use borrow.Author.Tests.{ltb-false, not-false}
use Rattle.lists.proofs.Tests.{or-false-left}
use Rattle.answers.specs.declared.Refusal.TheVariants.{Layout}
use Rattle.answers.specs.declared.Answer.TheVariants.{Done, Deferred, Duplicate, Refused}
use Rattle.woot.specs.Ranges.{site_number}
use Rattle.woot.specs.Form.{well_formed}
use Rattle.woot.specs.State.{State, initial}
use Rattle.woot.specs.Pending.{drained, drain_steps, drain}
use Rattle.answers.specs.Answers.{done, reply, changes, decided, NoneHolds}
use Rattle.bulk.specs.Building.{once, building, left_out, built, heap_full, disagreeing, build_checks, BuildOutcome}
use Rattle.bulk.specs.Building.{unbuilt, build}
use Rattle.woot.specs.Memory.{stored, replica_well_formed}
use Rattle.convergence.proofs.Built.{heap_formed}
use Rattle.convergence.proofs.Heaped.{Verdict, turned as rejected, accepted, verdict}
use Rattle.convergence.proofs.Building.{built-formed}
use Rattle.replica.proofs.Runs.{formed-within, form_stored}
use Rattle.lines.specs.Lines.{closed}
use Rattle.heap.specs.Format.{heap_laid_out, heap_said}
use Rattle.building.specs.declared.Built.{Built}
use Rattle.building.specs.Calls.{built_outcome, built_by}
use Rattle.saved.specs.Format.{saved_bytes}
use Rattle.saved.specs.Calls.{loaded, loaded_state, bytes_of}
use Rattle.saved.proofs.Trips.{saved_loads, saved-reads-back}
use Rattle.effects.specs.Results.{result, silent}
use Rattle.effects.specs.Effects.{Effect, quiet, turned, writing}
use Rattle.c_calls.specs.Calls.{wimtaze_build, handed_checks, earlier_checks, product_of}
use Rattle.c_calls.specs.Theorems.{bytes_written, BuildWritten, BuildWrites, BuildEmptyHeap}
use Rattle.c_calls.proofs.Listing.{Went, away, lacking, through, went, build-passed, build-taken}
use Rattle.c_calls.specs.Steps.{beginning, building_here}
use Rattle.c_calls.proofs.Fitting.{front}
use Rattle.c_calls.proofs.Bridging.{stored_bytes}
use Rattle.c_calls.proofs.Bodies.{turned-still, empty-body, build-body}

module _ (n : ℕ) (heap : List ℕ) where
  -- bytes that lack the layout are turned away, and others are judged by the rule
  pub how_built : Verdict n (heap_said heap) (built_outcome n heap)
  unfolding built_outcome decided
  how_built = go (heap_laid_out heap) refl
    where
      go : (b : Bool) → heap_laid_out heap ≡ b → Verdict n (heap_said heap) (built_outcome n heap)
      go false e = rw e (rejected (Refused Layout) tt)
      go true e = rw e (verdict n (heap_said heap))

  -- a heap that has its layout is built by the rule
  laid_replica : heap_laid_out heap ≡ true → (built_by n heap).replica ≡ stored (build n (heap_said heap)).state
  unfolding built_by built_outcome decided
  laid_replica h = rw h

  -- what is built is in form
  changed_formed : {w : BuildOutcome} → Verdict n (heap_said heap) w → changes w.answer ≡ true →
      well_formed w.state ≡ true
  unfolding unbuilt
  changed_formed (rejected a t) h = absurd (false≢true (sym (turned-still a t) ∙ h))
  changed_formed (accepted a) h =
      (heap_formed n (heap_said heap) a.site a.ranged a.agreed a.few-inserts).0

  -- what `building::build` returned, saved, or its answer alone
  module _ (x : Built) (e : x ≡ built_by n heap) where
    told : x.answer ≡ (built_outcome n heap).answer
    unfolding built_by
    told = ap (λ (b : Built). b.answer) e

    held : x.replica ≡ stored (built_outcome n heap).state
    unfolding built_by
    held = ap (λ (b : Built). b.replica) e

    made : changes x.answer ≡ true → well_formed (built_outcome n heap).state ≡ true
    made h = changed_formed how_built (ap changes (sym told) ∙ h)

    pub build_savable : changes x.answer ≡ true → replica_well_formed x.replica ≡ true
    build_savable h =
        let s : State = (built_outcome n heap).state in
        let f = made h in
        ap replica_well_formed held ∙ form_stored s (formed-within s f) ∙ f

    pub build-refused : (out : List ℕ) → changes x.answer ≡ false →
        building_here n heap out ≡ quiet out [] x.answer
    unfolding building_here
    build-refused out h = rw (← told, h)

    pub build-saved : (out : List ℕ) → changes x.answer ≡ true →
        building_here n heap out ≡ writing x.answer (bytes_of x.replica) out
    unfolding building_here
    build-saved out h =
        let s : State = (built_outcome n heap).state in
        let same = ap bytes_of held ∙ stored_bytes s (formed-within s (made h)) in
        rw (← told, h, same)

  laid_heap : NoneHolds (earlier_checks (wimtaze_build n heap) []) → heap_laid_out heap ≡ true
  unfolding handed_checks
  laid_heap w = not-false (heap_laid_out heap) w.0

  went-written : {out : List ℕ} {e : Effect} → Went (wimtaze_build n heap) [] out [] e →
      e.result.reply.word ≡ done → BuildWritten n heap e
  unfolding quiet silent result reply product_of
  went-written (away (Done i j) t r) d = absurd t.turned
  went-written (away Deferred t r) d = absurd t.turned
  went-written (away Duplicate t r) d = absurd (let z : ◌≡◌ {A = ℕ} 0 1 = cc in omega arith)
  went-written (away (Refused q) t r) d = absurd (let z : ◌≡◌ {A = ℕ} 0 1 = cc in omega arith)
  went-written (lacking w f) d = absurd (let z : ◌≡◌ {A = ℕ} 0 1 = cc in omega arith)
  went-written {out} (through w f) d =
      let s : State = (build n (heap_said heap)).state in
      let b : List ℕ = saved_bytes s in
      let answer = build-taken n heap [] w in
      let formed = (built-formed n (heap_said heap) (build-passed n heap [] w)).1 in
      let there = front out b (ltb-false (length out) (length b) (or-false-left _ _ f)) in
      record {
        state-written = ap loaded_state there ∙ saved_loads s formed;
        replica-written =
            ap (λ (x : List ℕ). (loaded x).replica) there ∙ (saved-reads-back s formed).1
            ∙ sym (laid_replica (laid_heap w));
        length-told = refl;
        left-out-told = rw answer;
        none-carried = rw answer;
      }

pub build-writes : BuildWrites
build-writes n heap out d = went-written n heap (went (wimtaze_build n heap) [] out []) d

pub build-empty_heap : BuildEmptyHeap
unfolding building_here beginning built_outcome heap_laid_out heap_said closed build build_checks heap_full disagreeing unbuilt
    built left_out building once drain drain_steps drained initial decided changes turned writing
build-empty_heap n out = build-body [] out n [] ∙ go (site_number n) refl ∙ sym (empty-body [] out n)
  where
    go : (b : Bool) → site_number n ≡ b → building_here n [] out ≡ beginning n out
    go false h = rw h
    go true h = rw h
