-- Each of the four steps keeps the form, leaves nothing executable pending, and counts what it carries out and discards.
use Prim.Native.Nat.{◌≤◌}
use native.Mathlib.Omega.{arith}
use mathlib.Core.Path.{◌≡◌, refl, sym, ◌∙◌, subst}
use mathlib.Core.Bool.{Bool, true, false, not}
use mathlib.Core.List.{List, [], ◌∷◌, ◌++◌, map}
use lib.ListN.{length}
use Rattle.woot.specs.declared.Insert.{Insert}
use Rattle.woot.specs.declared.Operation.{Operation}
use Rattle.woot.specs.declared.Operation.TheVariants.{Insert as insert, Toggle as toggle}
use Rattle.woot.specs.declared.Character.{Character}
use Rattle.answers.specs.declared.Answer.{Answer}
use Rattle.answers.specs.declared.Answer.TheVariants.{Duplicate, Refused}
use Rattle.woot.specs.Limits.{last_clock}
use Rattle.woot.specs.Operations.{inserts}
use Rattle.woot.specs.Ranges.{within, site_number, character_id, site_in_range, insert_in_range, in_range}
use Rattle.woot.specs.State.{State}
use Rattle.woot.specs.Clock.{heard, heard_all}
use Rattle.woot.specs.Placing.{identifiers, integrate_toggle}
use Rattle.woot.specs.Pending.{executable}
use Rattle.answers.specs.Answers.{reply}
use Rattle.woot.specs.Calls.{Outcome, unchanged, all_integrated, with_characters, with_pending, carry_out, defer}
use Rattle.woot.specs.Histories.{outcome}
use Rattle.convergence.specs.Theorems.{FormKept, NothingReady, CountsTrue, CountsBounded}
use Rattle.lists.specs.Lists.{any, every}
use Rattle.lists.proofs.Tests.{and_right, or-false}
use Rattle.lists.proofs.Members.{any_none}
use Rattle.convergence.proofs.Extract.{extract_last, extract_any, extract_every}
use Rattle.convergence.proofs.Toggling.{toggle_executable, toggle_identifiers}
use Rattle.convergence.proofs.Ranges.{within-high, in-range}
use Rattle.convergence.proofs.Clocks.{reaches, heard-range, heard_reaches, heard-keeps-all}
use Rattle.convergence.specs.Invariants.{pending_ids}
use Rattle.convergence.proofs.Forms.{Formed, formed, reformed}
use Rattle.convergence.proofs.Soundness.{inserts-same, ids_extract, sound_in, sound_toggle, sound-defer}
use Rattle.convergence.proofs.Shares.{pending-bound}
use Rattle.convergence.proofs.Draining.{drained-sound, drained_unready, drained_balance, drained-every}
use Rattle.convergence.proofs.Steps.{Step, turned, adds, raises, defers, after-insert, in_reached, step}

any_same : {A : Type 0} (p q : A → Bool) → ((x : A) → p x ≡ q x) → (xs : List A) → any p xs ≡ any q xs
any_same p q f [] = refl
any_same p q f (x ∷ xs) = rw (f x, any_same p q f xs)

-- the clock of an insert in range
pub insert_clock : (i : Insert) → insert_in_range i ≡ true → i.id.clock ≤ last_clock
unfolding character_id
insert_clock i r = within-high 1 last_clock i.id.clock (and_right (site_number i.id.site) (within 1 last_clock i.id.clock) (in-range i r).id)

-- the site that has heard an operation which starts to wait is in range
heard-waiting : (s : State) (o : Operation) → site_in_range s.site ≡ true → in_range o ≡ true → site_in_range (heard_all s.site (inserts (o ∷ []))) ≡ true
unfolding in_range
heard-waiting s (insert i) h r = heard-range s.site i h (insert_clock i r)
heard-waiting s (toggle d) h r = h

-- and its clock reaches all that is present then
waiting-reached : (s : State) (o : Operation) → every (reaches s.site) (identifiers s.characters ++ pending_ids s.pending) ≡ true → every (reaches (heard_all s.site (inserts (o ∷ [])))) (identifiers s.characters ++ pending_ids (s.pending ++ o ∷ [])) ≡ true
waiting-reached s (insert i) h =
    extract_every (reaches (heard s.site i)) (ids_extract s.characters (extract_last (insert i) s.pending)) (heard_reaches s.site i)
    (heard-keeps-all s.site i (identifiers s.characters ++ pending_ids s.pending) h)
waiting-reached s (toggle d) h =
    subst (λ (js : List Insert). every (reaches s.site) (identifiers s.characters ++ map (λ j. j.id) js) ≡ true) (sym (inserts-same (extract_last (toggle d) s.pending))) h

-- a step that changes the state leads from a state in form to one in form
pub step-formed : (s : State) {r : Outcome Answer} → Step s r → Formed s → Formed r.state
unfolding unchanged carry_out defer with_characters with_pending
step-formed s (turned a w) f = f
step-formed s (adds i a) f =
    record {
      site = heard-range s.site i f.site (insert_clock i a.ranged);
      sound = drained-sound (after-insert s i) (sound_in i f.sound a.ranged a.fresh a.space a.ready a.uncrossed a.placeable);
      unready = drained_unready (after-insert s i);
      reached = drained-every (reaches (heard s.site i)) (after-insert s i) (in_reached s i a);
    }
step-formed s (raises d a) f =
    record {
      site = f.site;
      sound = sound_toggle d a.ranged f.sound;
      unready = any_same (executable (integrate_toggle s.characters d)) (executable s.characters) (toggle_executable s.characters d) s.pending ∙ f.unready;
      reached = subst (λ xs. every (reaches s.site) (xs ++ pending_ids s.pending) ≡ true) (sym (toggle_identifiers s.characters d)) f.reached;
    }
step-formed s (defers o a) f =
    record {
      site = heard-waiting s o f.site a.ranged;
      sound = sound-defer o f.sound a.ranged a.space a.unused;
      unready = extract_any (executable s.characters) (extract_last o s.pending) ∙ or-false a.unready f.unready;
      reached = waiting-reached s o f.reached;
    }

pub form_kept : FormKept
form_kept s c h = reformed (outcome s c).state (step-formed s (step s c) (formed s h))

pub nothing_ready : NothingReady
nothing_ready s c h o m = any_none (executable (outcome s c).state.characters) (formed (outcome s c).state (form_kept s c h)).unready m

-- ---- counts

step_counts : (s : State) {r : Outcome Answer} → Step s r → ((reply r.answer).integrated ≡ length (all_integrated r)) × ((reply r.answer).discarded ≡ length r.discarded)
unfolding unchanged carry_out defer all_integrated reply
step_counts s (turned (Rattle.answers.specs.declared.Answer.TheVariants.Done _ _) w) = elim w [ ]
step_counts s (turned Rattle.answers.specs.declared.Answer.TheVariants.Deferred w) = elim w [ ]
step_counts s (turned Duplicate w) = (refl, refl)
step_counts s (turned (Refused r) w) = (refl, refl)
step_counts s (adds i a) = (refl, refl)
step_counts s (raises d a) = (refl, refl)
step_counts s (defers o a) = (refl, refl)

pub counts_true : CountsTrue
counts_true s c = step_counts s (step s c)

step-bounded : (s : State) {r : Outcome Answer} → Step s r → (length (all_integrated r) ≤ 513) × (length r.discarded ≤ 512)
unfolding unchanged carry_out defer all_integrated
step-bounded s (turned a w) = (omega arith, omega arith)
step-bounded s (adds i a) =
    let fit = pending-bound a.formed.sound in
    let all = drained_balance (after-insert s i) in
    (omega arith, omega arith)
step-bounded s (raises d a) = (omega arith, omega arith)
step-bounded s (defers o a) = (omega arith, omega arith)

pub counts_bounded : CountsBounded
counts_bounded s c = step-bounded s (step s c)
