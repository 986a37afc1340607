-- Req 07: what loading answers goes by its list of checks; what it takes has grown, so no later call fails to place.
use mathlib.Core.Path.{◌≡◌, refl, ap}
use mathlib.Core.Bool.{Bool, true}
use mathlib.Core.Option.{Option, none, some}
use mathlib.Core.List.Memᴰ
use mathlib.Core.List.{List, [], ◌∷◌, Memᴰ}
use native.Mathlib.Omega.{arith}
use borrow.Author.Tests.{not-true, not-false}
use Rattle.woot.specs.declared.Operation.{Operation}
use Rattle.answers.specs.declared.Refusal.{Refusal}
use Rattle.answers.specs.declared.Refusal.TheVariants.{Unreachable}
use Rattle.answers.specs.declared.Answer.{Answer}
use Rattle.answers.specs.declared.Answer.TheVariants.{Done, Refused}
use Rattle.woot.specs.State.{State}
use Rattle.woot.specs.Pending.{crossed}
use Rattle.woot.specs.Form.{well_formed}
use Rattle.answers.specs.Answers.{done, reply, first, decided, NoneHolds, here, later}
use Rattle.woot.specs.Calls.{Outcome, unchanged, carry_out, defer}
use Rattle.bulk.specs.Building.{build}
use Rattle.bulk.specs.Loading.{loadable, use_checks, UseOutcome, unused, use_when, use_outcome}
use Rattle.woot.specs.Histories.{Call, outcome, run}
use Rattle.bulk.specs.Beginnings.{start_of, characters_after}
use Rattle.lists.proofs.Tests.{clash, fails, not-intro}
use Rattle.convergence.specs.Agreement.{Grown}
use Rattle.convergence.specs.Loading.{BuiltLoadable, HistoriesLoadable, UseRefuses, UseNumbers}
use Rattle.convergence.specs.Loading.{UseDoes, UseAccepts, UseUnreachable, UseKeeps, NeverAfterLoad}
use Rattle.convergence.specs.Loading.{ThrownOutCrossed}
use Rattle.convergence.proofs.Soundness.{fresh_unheld, sound_in}
use Rattle.convergence.proofs.Growth.{grown-insert}
use Rattle.convergence.proofs.Offering.{sound_offered, ended}
use Rattle.convergence.proofs.Steps.{Step, turned, adds, raises, defers, step, after-insert}
use Rattle.convergence.proofs.Steps.{Turned, first-none, first_some}
use Rattle.convergence.proofs.Kept.{form_kept}
use Rattle.convergence.proofs.Refusals.{decided_exactly, skipped, held-there, never, other}
use Rattle.convergence.proofs.Replies.{never-refused, turned_undone, answer-number, none_first}
use Rattle.convergence.proofs.Heaped.{heaped-grown}
use Rattle.convergence.proofs.Grown.{grown-run, grown-throughout, placeable}
use Rattle.convergence.proofs.Loadable.{grown-loadable}
use Rattle.convergence.proofs.Used.{Usable, whole, none_usable, usable_none, use_turned, used_grown}
use Rattle.convergence.proofs.Making.{loadable_made}

-- ---- the answer

pub use_refuses : UseRefuses
unfolding use_when unused
use_refuses formed s r =
    decided_exactly unused (λ w. w.answer) (λ x. refl) (use_checks formed s) (whole s) (Refused r) (never-refused r)

pub use_numbers : UseNumbers
use_numbers formed s r =
    let n = answer-number (use_when formed s).answer r in
    let b = use_refuses formed s r in
    (λ h. b.0 (n.0 h), λ h. n.1 (b.1 h))

pub use_does : UseDoes
unfolding use_when decided unused reply
use_does formed s = (
  go (first (use_checks formed s)) refl,
  λ w. rw (none_first (use_checks formed s) w),
)
  where
    go : (m : Option Answer) → first (use_checks formed s) ≡ m → (reply (decided unused m (whole s)).answer).word ≡ done
        → NoneHolds (use_checks formed s)
    go none e h = first-none (use_checks formed s) e
    go (some a) e h =
        absurd (turned_undone a (first_some Turned (use_checks formed s) (use_turned formed s) a e) h)

-- ---- where it is done

pub used_usable : (s : State) → (reply (use_outcome s).answer).word ≡ done → Usable s
unfolding use_outcome
used_usable s h = none_usable s ((use_does (well_formed s) s).0 h)

pub usable_used : (s : State) → Usable s → use_outcome s ≡ whole s
unfolding use_outcome use_when decided
usable_used s t = rw (none_first (use_checks (well_formed s) s) (usable_none s t))

pub use_keeps : UseKeeps
unfolding use_outcome use_when decided unused
use_keeps s = (λ h. usable_used s (used_usable s h), λ r h. go (first (use_checks (well_formed s) s)) r h)
  where
    go : (m : Option Answer) (r : Refusal) → (decided unused m (whole s)).answer ≡ Refused r
        → decided unused m (whole s) ≡ unused (Refused r)
    go none r h = absurd (never-refused r h)
    go (some a) r h = ap unused h

pub use_accepts : UseAccepts
unfolding reply
use_accepts s n q = (
  λ h. let t = used_usable s h in (t.form, (loadable_made s t.form n q).0 t.made),
  λ w. ap (λ (u : UseOutcome). (reply u.answer).word)
      (usable_used s (record { form = w.0; made = (loadable_made s w.0 n q).1 w.1 })),
)

pub use_unreachable : UseUnreachable
unfolding use_outcome use_checks
use_unreachable s n q = (
  λ h. let r = skipped (other (λ e. omega arith)) ((use_refuses (well_formed s) s Unreachable).0 h) in
      let f = not-false (well_formed s) r.0 in
      (f, λ w. clash ((loadable_made s f n q).1 w) (not-true (loadable s.characters) (held-there never r.1))),
  λ w. (use_refuses (well_formed s) s Unreachable).1
      (later (rw w.0)
      (here (not-intro (fails (loadable s.characters) (λ e. w.1 ((loadable_made s w.0 n q).0 e)))) refl)),
)

-- ---- what there is to be loaded

pub built-loadable : BuiltLoadable
built-loadable n heap = grown-loadable (build n heap).state.characters (heaped-grown n heap)

pub form_run : (s : State) (cs : List Call) → well_formed s ≡ true → well_formed (run s cs) ≡ true
form_run s [] f = f
form_run s (c ∷ cs) f = form_run (outcome s c).state cs (form_kept s c f)

pub histories_loadable : HistoriesLoadable
histories_loadable b cs = (
  made,
  λ f. ap (λ (u : UseOutcome). u.answer)
      (usable_used (run (start_of b) cs) (record { form = form_run (start_of b) cs f; made = made })),
)
  where
    made : loadable (characters_after b cs) ≡ true
    made = grown-loadable (characters_after b cs) (grown-throughout b cs)

-- ---- afterwards

pub never-after-load : NeverAfterLoad
never-after-load s h cs c =
    placeable (run (use_outcome s).state cs) c (grown-run (use_outcome s).state cs (used_grown s))

thrown_step : (s : State) {r : Outcome Answer} → Step s r → Grown s.characters → (o : Operation)
    → Memᴰ o r.discarded → crossed r.state.characters o ≡ true
unfolding unchanged carry_out defer
thrown_step s (turned a w) g o m = absurd (Memᴰ.not-nil m)
thrown_step s (adds i a) g o m =
    let placed = sound_in i a.formed.sound a.ranged a.fresh a.space a.ready a.uncrossed
    a.placeable in
    let new = fresh_unheld s.characters s.pending i a.ranged a.fresh in
    ((ended s.pending (after-insert s i) (sound_offered placed)
    (grown-insert s.characters i g a.ranged new a.ready a.uncrossed) (λ p n. n)).discarded o m).1
thrown_step s (raises d a) g o m = absurd (Memᴰ.not-nil m)
thrown_step s (defers p a) g o m = absurd (Memᴰ.not-nil m)

pub thrown_out-crossed : ThrownOutCrossed
thrown_out-crossed s h cs c =
    let t = run (use_outcome s).state cs in
    thrown_step t (step t c) (grown-run (use_outcome s).state cs (used_grown s))
