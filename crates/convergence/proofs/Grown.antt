-- Every state of a history has grown by integration alone, so placing never fails there.
use Prim.Native.Nat.{ℕ}
use native.Mathlib.Omega.{arith}
use mathlib.Core.Path.{◌≡◌, refl, ap, sym, ◌∙◌}
use mathlib.Core.Logic.{⊎_elim}
use mathlib.Core.Bool.{true, false}
use mathlib.Core.List.{List, [], ◌∷◌}
use borrow.Author.Tests.{not-false}
use Rattle.woot.specs.declared.Identifier.{Identifier}
use Rattle.woot.specs.declared.Operation.{Operation}
use Rattle.woot.specs.declared.Operation.TheVariants.{Insert as insert, Toggle as toggle}
use Rattle.woot.specs.declared.Character.{Character}
use Rattle.answers.specs.declared.Refusal.TheVariants.{Position, Unplaceable}
use Rattle.answers.specs.declared.Answer.{Answer}
use Rattle.answers.specs.declared.Answer.TheVariants.{Refused}
use Rattle.woot.specs.State.{State, initial}
use Rattle.woot.specs.Pending.{executable, crossed, unplaceable}
use Rattle.woot.specs.Form.{well_formed}
use Rattle.answers.specs.Answers.{Reported}
use Rattle.woot.specs.Calls.{Outcome, unchanged, with_characters, with_pending, carry_out, defer, receive_checks, receive, generated_insert, insert_checks, local_insert, delete_checks, local_delete, restore_checks, local_restore}
use Rattle.woot.specs.Cursor.{receive_at}
use Rattle.woot.specs.Histories.{Call, inserting, deleting, restoring, receiving, receiving_at, outcome, run}
use Rattle.bulk.specs.Beginnings.{Begun, empty, heaped, loaded, start_of}
use Rattle.convergence.specs.Agreement.{Grown}
use Rattle.convergence.specs.Theorems.{GrownThroughout, NeverUnplaceable}
use Rattle.lists.proofs.Tests.{clash, and_left_lem}
use Rattle.convergence.proofs.Growth.{grown-empty, grown_toggle, grown-insert, grown_placeable}
use Rattle.convergence.proofs.Forms.{formed}
use Rattle.convergence.proofs.Soundness.{fresh_unheld, sound_in}
use Rattle.convergence.proofs.Steps.{Step, turned, adds, raises, defers, step, generated_uncrossed, after-insert}
use Rattle.convergence.proofs.Offering.{sound_offered, ended}
use Rattle.convergence.proofs.Heaped.{heaped-grown}
use Rattle.convergence.proofs.Used.{used_grown}
use Rattle.convergence.proofs.Pointing.{receive-at_else}
use Rattle.convergence.proofs.Refusals.{skipped, held-there, never, unreported, other, other-sent, receive_refuses, insert_refuses, delete_refuses, restore_refuses, answer-refused}
use Rattle.std.proofs.Common.{Err}

grown-step : (s : State) {r : Outcome Answer} → Step s r → Grown s.characters → Grown r.state.characters
unfolding unchanged carry_out defer with_characters with_pending
grown-step s (turned a w) g = g
grown-step s (adds i a) g =
    let placed = sound_in i a.formed.sound a.ranged a.fresh a.space a.ready a.uncrossed a.placeable in
    let new = fresh_unheld s.characters s.pending i a.ranged a.fresh in
    (ended s.pending (after-insert s i) (sound_offered placed)
    (grown-insert s.characters i g a.ranged new a.ready a.uncrossed) (λ o m. m)).grown
grown-step s (raises d a) g = grown_toggle s.characters d a.ranged g
grown-step s (defers o a) g = g

pub grown-run : (s : State) (cs : List Call) → Grown s.characters → Grown (run s cs).characters
grown-run s [] g = g
grown-run s (c ∷ cs) g = grown-run (outcome s c).state cs (grown-step s (step s c) g)

begun-grown : (b : Begun) → Grown (start_of b).characters
unfolding initial
begun-grown (empty n) = grown-empty
begun-grown (heaped n heap) = heaped-grown n heap
begun-grown (loaded s) = used_grown s

pub grown-throughout : GrownThroughout
grown-throughout b cs = grown-run (start_of b) cs (begun-grown b)

-- ---- refusal 9

-- an operation that has everything it needs, in order, is placed
operation_placeable : (cs : List Character) (o : Operation) → Grown cs → crossed cs o ≡ false → unplaceable cs o ≡ true → ⊥
unfolding unplaceable
operation_placeable cs (insert i) g uncrossed u = clash u (grown_placeable cs i g (and_left_lem (executable cs (insert i)) _ u) uncrossed)
operation_placeable cs (toggle d) g uncrossed u = clash u refl

receive_placeable : (s : State) (o : Operation) → Grown s.characters → Reported (Refused Unplaceable) (receive_checks (well_formed s) s o) → ⊥
unfolding receive_checks
receive_placeable s o g r =
    let r1 = skipped (other (λ h. omega arith)) r in
    let r2 = skipped (other (λ h. omega arith)) r1.1 in
    let r3 = skipped (λ e. let z : ◌≡◌ {A = ℕ} 0 1 = cc in omega arith) r2.1 in
    let r4 = skipped (other (λ h. omega arith)) r3.1 in
    let r5 = skipped (other (λ h. omega arith)) r4.1 in
    operation_placeable s.characters o g r5.0
    (held-there (λ q. never (skipped (other (λ h. omega arith)) (skipped (other (λ h. omega arith)) q).1).1) r5.1)

insert_placeable : (s : State) (g n : ℕ) → Grown s.characters → Reported (Err Unplaceable) (insert_checks (well_formed s) s g n) → ⊥
unfolding insert_checks
insert_placeable s g n w r =
    let r1 = skipped (other-sent (λ h. omega arith)) r in
    let r2 = skipped (other-sent (λ h. omega arith)) r1.1 in
    let r3 = skipped (other-sent (λ h. omega arith)) r2.1 in
    let r4 = skipped (other-sent (λ h. omega arith)) r3.1 in
    let r5 = skipped (other-sent (λ h. omega arith)) r4.1 in
    operation_placeable s.characters (insert (generated_insert s g n)) w (generated_uncrossed s g n (formed s (not-false (well_formed s) r2.0)) r3.0)
    (held-there (λ q. never (skipped (other-sent (λ h. omega arith)) q).1) r5.1)

delete_placeable : (s : State) (p : ℕ) → Reported (Err Unplaceable) (delete_checks (well_formed s) s p) → ⊥
unfolding delete_checks
delete_placeable s p = unreported (delete_checks (well_formed s) s p) (other-sent (λ h. omega arith), (other-sent (λ h. omega arith), tt))

restore_placeable : (s : State) (x : Identifier) → Reported (Err Unplaceable) (restore_checks (well_formed s) s x) → ⊥
unfolding restore_checks
restore_placeable s x = unreported (restore_checks (well_formed s) s x) (other-sent (λ h. omega arith), (other-sent (λ h. omega arith), (other-sent (λ h. omega arith), (other-sent (λ h. omega arith), tt))))

pub placeable : (s : State) (c : Call) → Grown s.characters → (outcome s c).answer ≡ Refused Unplaceable → ⊥
unfolding outcome receive receive_at unchanged local_insert local_delete local_restore
placeable s (inserting g n) w e = insert_placeable s g n w ((insert_refuses (well_formed s) s g n Unplaceable).0 (answer-refused _ Unplaceable e))
placeable s (deleting p) w e = delete_placeable s p ((delete_refuses (well_formed s) s p Unplaceable).0 (answer-refused _ Unplaceable e))
placeable s (restoring x) w e = restore_placeable s x ((restore_refuses (well_formed s) s x Unplaceable).0 (answer-refused _ Unplaceable e))
placeable s (receiving o) w e = receive_placeable s o w ((receive_refuses (well_formed s) s o Unplaceable).0 e)
placeable s (receiving_at o g) w e =
    ⊎_elim (λ f. receive_placeable s o w ((receive_refuses (well_formed s) s o Unplaceable).0 (ap (λ r. r.answer) (sym f) ∙ e)))
    (λ f. other {r = Position} {q = Unplaceable} (λ h. omega arith) (ap (λ r. r.answer) (sym f) ∙ e)) (receive-at_else (well_formed s) s o g)

pub never-unplaceable : NeverUnplaceable
never-unplaceable b cs c = placeable (run (start_of b) cs) c (grown-throughout b cs)
