-- Over a list of calls: the characters stay faithful to what was carried out, and what was deferred is pending, carried
-- out or discarded.
use Prim.Native.Nat.{ℕ, ◌+◌}
use native.Mathlib.Omega.{arith}
use mathlib.Core.Path.{◌≡◌, sym, subst}
use mathlib.Core.Bool.{true, false}
use mathlib.Core.List.{List, [], ◌∷◌, ◌++◌, append_assoc, append-nil}
use lib.ListN.{length, length-append}
use Rattle.woot.specs.declared.Operation.{Operation}
use Rattle.woot.specs.declared.Operation.TheVariants.{Insert as insert, Toggle as toggle}
use Rattle.woot.specs.declared.Character.{Character}
use Rattle.answers.specs.declared.Answer.{Answer}
use Rattle.answers.specs.declared.Answer.TheVariants.{Duplicate, Refused}
use Rattle.woot.specs.Ranges.{in_range}
use Rattle.woot.specs.State.{State, initial}
use Rattle.woot.specs.Pending.{executable, crossed, unplaceable, integrate, Drained, and_integrated, and_discarded, drained}
use Rattle.woot.specs.Calls.{Outcome, unchanged, all_integrated, with_characters, with_pending, insert_carried, carry_out, defer}
use Rattle.bulk.specs.Building.{once, building, built, BuildOutcome, unbuilt, build}
use Rattle.bulk.specs.Loading.{use_outcome}
use Rattle.woot.specs.Histories.{Call, outcome, run, integrated_by, drained_by, discarded_by, is_deferred}
use Rattle.bulk.specs.Beginnings.{Begun, empty, heaped, loaded, start_of, beforehand, history_of, characters_after}
use Rattle.convergence.specs.Theorems.{HeldAreInserted, HeldCount, TogglesAreLargest, WaitsBalance}
use Rattle.lists.proofs.Members.{every_member}
use Rattle.convergence.proofs.Extract.{Extract, extract_itself}
use Rattle.convergence.proofs.Soundness.{placed_extract, placed-held, fresh_unheld, sound_in}
use Rattle.convergence.proofs.Drains.{Draining, stop, discard, carry, draining}
use Rattle.convergence.proofs.Draining.{drained_balance}
use Rattle.convergence.proofs.Steps.{Step, turned, adds, raises, defers, step, after-insert}
use Rattle.convergence.proofs.Offering.{Offered, sound_offered, offered_out, offered_fresh, offered_carry}
use Rattle.convergence.proofs.Heap.{agreeing, heap_offered}
use Rattle.convergence.proofs.Heaped.{Verdict, turned as refused, accepted, verdict}
use Rattle.convergence.proofs.Faithful.{Faithful, faithful_empty, faithful_insert, faithful_toggle}
use Rattle.convergence.proofs.Used.{used_grown}
use Rattle.convergence.proofs.Loaded.{loaded_faithful}

-- a pending operation carried out
faithful_carry : {cs : List Character} {ps qs os : List Operation} (o : Operation) → Extract o qs ps → Offered cs ps
    → executable cs o ≡ true → crossed cs o ≡ false → unplaceable cs o ≡ false → Faithful cs os
    → Faithful (integrate cs o) (os ++ o ∷ [])
unfolding integrate in_range executable
faithful_carry {cs} {ps} {qs} (insert i) e s ready uncrossed placeable f =
    faithful_insert i (placed_extract cs i ready uncrossed placeable)
    (fresh_unheld cs qs i (every_member in_range s.ranged (extract_itself e)) (offered_fresh e s))
    (placed-held cs i ready uncrossed placeable) f
faithful_carry (toggle d) e s ready uncrossed placeable f = faithful_toggle d ready f

faithful_drained : {cs : List Character} {ps : List Operation} {d : Drained} (os : List Operation) → Draining cs ps d
    → Offered cs ps → Faithful cs os → Faithful d.characters (os ++ d.integrated)
unfolding drained and_discarded and_integrated
faithful_drained os (stop {cs = cs} h) s f = subst (λ qs. Faithful cs qs) (sym (append-nil os)) f
faithful_drained os (discard t w why r) s f = faithful_drained os r (offered_out t.operation w.extracted s) f
faithful_drained os (carry {d = d} t w uncrossed placeable r) s f =
    let o = t.operation in
    subst (λ qs. Faithful d.characters qs) (append_assoc os (o ∷ []) d.integrated)
    (faithful_drained (os ++ o ∷ []) r (offered_carry o w.extracted s w.passed uncrossed placeable)
    (faithful_carry o w.extracted s w.passed uncrossed placeable f))

faithful_step : (s : State) (os : List Operation) {r : Outcome Answer} → Step s r → Faithful s.characters os → Faithful r.state.characters (os ++ all_integrated r)
unfolding unchanged carry_out defer with_characters with_pending all_integrated executable
faithful_step s os (turned a w) f = subst (λ qs. Faithful s.characters qs) (sym (append-nil os)) f
faithful_step s os (adds i a) f =
    subst (λ qs. Faithful (insert_carried s i).characters qs) (append_assoc os (insert i ∷ []) (insert_carried s i).integrated)
    (faithful_drained (os ++ insert i ∷ []) (after-insert s i) (sound_offered (sound_in i a.formed.sound a.ranged a.fresh a.space a.ready a.uncrossed a.placeable))
    (faithful_insert i (placed_extract s.characters i a.ready a.uncrossed a.placeable) (fresh_unheld s.characters s.pending i a.ranged a.fresh) (placed-held s.characters i a.ready a.uncrossed a.placeable) f))
faithful_step s os (raises d a) f = faithful_toggle d a.ready f
faithful_step s os (defers o a) f = subst (λ qs. Faithful s.characters qs) (sym (append-nil os)) f

faithful_run : (s : State) (os : List Operation) (cs : List Call) → Faithful s.characters os → Faithful (run s cs).characters (os ++ integrated_by s cs)
faithful_run s os [] f = subst (λ qs. Faithful s.characters qs) (sym (append-nil os)) f
faithful_run s os (c ∷ cs) f =
    subst (λ qs. Faithful (run s (c ∷ cs)).characters qs) (append_assoc os (all_integrated (outcome s c)) (integrated_by (outcome s c).state cs))
    (faithful_run (outcome s c).state (os ++ all_integrated (outcome s c)) cs (faithful_step s os (step s c) f))

-- what is built of a heap is what was carried out to build it
pub heaped_faithful : (n : ℕ) (heap : List Operation)
    → Faithful (build n heap).state.characters (build n heap).integrated
unfolding unbuilt initial built building
heaped_faithful n heap = go (verdict n heap)
  where
    go : {b : BuildOutcome} → Verdict n heap b → Faithful b.state.characters b.integrated
    go (refused a t) = faithful_empty
    go (accepted a) =
        faithful_drained [] (draining [] (once heap)) (heap_offered heap a.ranged (agreeing heap a.agreed))
        faithful_empty

-- a beginning is faithful to what was carried out to make it, or could have been
begun_faithful : (b : Begun) → Faithful (start_of b).characters (beforehand b)
unfolding initial
begun_faithful (empty n) = faithful_empty
begun_faithful (heaped n heap) = heaped_faithful n heap
begun_faithful (loaded s) = loaded_faithful 1 (use_outcome s).state.characters (used_grown s).standing

pub faithful : (b : Begun) (cs : List Call) → Faithful (characters_after b cs) (history_of b cs)
faithful b cs = faithful_run (start_of b) (beforehand b) cs (begun_faithful b)

pub held-are-inserted : HeldAreInserted
held-are-inserted b cs i = (faithful b cs).inserted i

pub held-count : HeldCount
held-count b cs = (faithful b cs).counted

pub toggles-are_largest : TogglesAreLargest
toggles-are_largest b cs c m = (faithful b cs).largest c m

-- ---- what was deferred

balance_step : (s : State) {r : Outcome Answer} → Step s r → is_deferred r.answer + length s.pending ≡ length r.state.pending + length r.drained + length r.discarded
unfolding unchanged carry_out defer with_characters with_pending
balance_step s (turned (Rattle.answers.specs.declared.Answer.TheVariants.Done _ _) w) = elim w [ ]
balance_step s (turned Rattle.answers.specs.declared.Answer.TheVariants.Deferred w) = elim w [ ]
balance_step s (turned Duplicate w) = omega arith
balance_step s (turned (Refused r) w) = omega arith
balance_step s (adds i a) = omega (arith, drained_balance (after-insert s i))
balance_step s (raises d a) = omega arith
balance_step s (defers o a) = omega (arith, length-append s.pending (o ∷ []))

pub waits_balance : WaitsBalance
waits_balance s [] = omega arith
waits_balance s (c ∷ cs) =
    omega (arith, balance_step s (step s c), waits_balance (outcome s c).state cs, length-append (outcome s c).drained (drained_by (outcome s c).state cs), length-append (outcome s c).discarded (discarded_by (outcome s c).state cs))
