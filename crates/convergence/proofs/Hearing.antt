-- The clock over every call: what is carried out or put off raises it by definition, and of that what is drained raises
-- nothing, since a clock in form reaches all that waits.
use Prim.Native.Nat.{ℕ, ◌+◌, ◌≤◌}
use native.Mathlib.Omega.{arith}
use mathlib.Core.Path.{◌≡◌, refl, ap, sym, ◌∙◌, subst}
use mathlib.Core.Logic.{⊎_elim}
use mathlib.Core.Bool.{Bool, true, false, cond}
use mathlib.Core.Option.{Option, none, some}
use mathlib.Core.List.{List, [], ◌∷◌, ◌++◌, map}
use borrow.Author.Tests.{not-false}
use Rattle.woot.specs.declared.Identifier.{Identifier}
use Rattle.woot.specs.declared.Site.{Site}
use Rattle.woot.specs.declared.Insert.{Insert}
use Rattle.woot.specs.declared.Operation.{Operation}
use Rattle.woot.specs.declared.Operation.TheVariants.{Insert as insert, Toggle as toggle}
use Rattle.woot.specs.declared.Character.{Character}
use Rattle.answers.specs.declared.Refusal.TheVariants.{Position, Taken}
use Rattle.answers.specs.declared.Answer.{Answer}
use Rattle.answers.specs.declared.Answer.TheVariants.{Done, Duplicate, Refused}
use Rattle.woot.specs.Operations.{inserts, origin}
use Rattle.woot.specs.Ranges.{site_in_range, insert_in_range, character_in_range, in_range}
use Rattle.woot.specs.State.{State}
use Rattle.woot.specs.Pending.{executable}
use Rattle.woot.specs.Clock.{heard, heard_all}
use Rattle.woot.specs.Form.{present_inserts, all_in_range, clock_kept, well_formed, raised}
use Rattle.answers.specs.Answers.{Reported, first, decided}
use Rattle.woot.specs.Sending.{answer_of}
use Rattle.woot.specs.Calls.{Outcome, unchanged, all_integrated, with_characters, with_pending, after_drain, carry_out, defer, accept, receive_checks, receive_when, receive, generated_insert, insert_checks, send_insert, local_insert_when, local_insert, delete_checks, generated_delete, send_toggle, local_delete_when, local_delete, restore_checks, generated_toggle, local_restore_when, local_restore}
use Rattle.woot.specs.Cursor.{receive_at}
use Rattle.woot.specs.Histories.{Call, inserting, deleting, restoring, receiving, receiving_at, with_answer, outcome}
use Rattle.lists.specs.Lists.{every}
use Rattle.lists.proofs.Tests.{clash, and_left_lem, and_right, and_intro, three}
use Rattle.lists.proofs.Members.{every_append}
use Rattle.convergence.specs.Clocks.{NeverTaken, TypingAdvances, put_off, ClockFollows, DrainingRaisesNothing, ClockNeverFalls, Raising}
use Rattle.convergence.proofs.Clocks.{heard-range, heard-all-number, heard-all_clock, heard-all-still, heard-all_reaches, reached-ids}
use Rattle.convergence.proofs.Forms.{Formed, formed}
use Rattle.convergence.proofs.Steps.{Turned, Step, turned, adds, raises, defers, step, first_some, receive-turned, formed_untaken, typed-heard}
use Rattle.convergence.proofs.Kept.{insert_clock}
use Rattle.convergence.proofs.Replies.{none_first, insert_does}
use Rattle.convergence.proofs.Pointing.{receive-at_else}
use Rattle.convergence.proofs.Refusals.{skipped, held-there, never, unreported, other, other-sent, receive_refuses, insert_refuses, delete_refuses, restore_refuses, answer-refused}
use Rattle.convergence.proofs.Ranges.{origin_ranged}
use Rattle.std.proofs.Common.{Err}
use Rattle.woot.specs.Sent.{Sending}

-- ---- refusal 6

-- also where something else than `wellFormed` says that the state is in form
pub insert_untaken : (known : Bool) (s : State) (g n : ℕ) → (known ≡ true → Formed s) → Reported (Err Taken) (insert_checks known s g n) → ⊥
unfolding insert_checks
insert_untaken known s g n form r =
    let r1 = skipped (other-sent (λ h. omega arith)) r in
    let r2 = skipped (other-sent (λ h. omega arith)) r1.1 in
    let r3 = skipped (other-sent (λ h. omega arith)) r2.1 in
    let r4 = skipped (other-sent (λ h. omega arith)) r3.1 in
    clash
    (held-there (λ q. never (skipped (other-sent (λ h. omega arith)) (skipped (other-sent (λ h. omega arith)) q).1).1) r4.1)
    (formed_untaken s (form (not-false known r2.0)))

delete_untaken : (s : State) (p : ℕ) → Reported (Err Taken) (delete_checks (well_formed s) s p) → ⊥
unfolding delete_checks
delete_untaken s p = unreported (delete_checks (well_formed s) s p) (other-sent (λ h. omega arith), (other-sent (λ h. omega arith), tt))

restore_untaken : (s : State) (x : Identifier) → Reported (Err Taken) (restore_checks (well_formed s) s x) → ⊥
unfolding restore_checks
restore_untaken s x = unreported (restore_checks (well_formed s) s x) (other-sent (λ h. omega arith), (other-sent (λ h. omega arith), (other-sent (λ h. omega arith), (other-sent (λ h. omega arith), tt))))

receive_untaken : (s : State) (o : Operation) → Reported (Refused Taken) (receive_checks (well_formed s) s o) → ⊥
unfolding receive_checks
receive_untaken s o =
    unreported (receive_checks (well_formed s) s o)
    (other (λ h. omega arith), (other (λ h. omega arith), ((λ e. let z : ◌≡◌ {A = ℕ} 0 1 = cc in omega arith), (other (λ h. omega arith), (other (λ h. omega arith), (other (λ h. omega arith), (other (λ h. omega arith), (other (λ h. omega arith), tt))))))))

untaken : (s : State) (c : Call) → (outcome s c).answer ≡ Refused Taken → ⊥
unfolding outcome receive receive_at unchanged local_insert local_delete local_restore
untaken s (inserting g n) e = insert_untaken (well_formed s) s g n (formed s) ((insert_refuses (well_formed s) s g n Taken).0 (answer-refused _ Taken e))
untaken s (deleting p) e = delete_untaken s p ((delete_refuses (well_formed s) s p Taken).0 (answer-refused _ Taken e))
untaken s (restoring x) e = restore_untaken s x ((restore_refuses (well_formed s) s x Taken).0 (answer-refused _ Taken e))
untaken s (receiving o) e = receive_untaken s o ((receive_refuses (well_formed s) s o Taken).0 e)
untaken s (receiving_at o g) e =
    ⊎_elim (λ f. receive_untaken s o ((receive_refuses (well_formed s) s o Taken).0 (ap (λ r. r.answer) (sym f) ∙ e)))
    (λ f. other {r = Position} {q = Taken} (λ h. omega arith) (ap (λ r. r.answer) (sym f) ∙ e)) (receive-at_else (well_formed s) s o g)

pub never-taken : NeverTaken
never-taken = (λ s h. formed_untaken s (formed s h), untaken)

-- ---- what raises the clock

-- of an outcome by the call c
abbrev Follows : State → Call → Outcome Answer → Type 0
Follows s c r = r.state.site ≡ heard_all s.site (inserts (put_off c r.answer ++ all_integrated r))

-- nothing is put off by a call that is turned away, nor by one that is done
off-turned : (c : Call) (a : Answer) → Turned a → put_off c a ≡ []
off-turned (receiving o) (Done _ _) w = elim w [ ]
off-turned (receiving o) Rattle.answers.specs.declared.Answer.TheVariants.Deferred w = elim w [ ]
off-turned (receiving_at o g) (Done _ _) w = elim w [ ]
off-turned (receiving_at o g) Rattle.answers.specs.declared.Answer.TheVariants.Deferred w = elim w [ ]
off-turned (inserting g n) a w = refl
off-turned (deleting p) a w = refl
off-turned (restoring x) a w = refl
off-turned (receiving o) Duplicate w = refl
off-turned (receiving o) (Refused r) w = refl
off-turned (receiving_at o g) Duplicate w = refl
off-turned (receiving_at o g) (Refused r) w = refl

off-done : (c : Call) (n m : ℕ) → put_off c (Done n m) ≡ []
off-done (inserting g k) n m = refl
off-done (deleting p) n m = refl
off-done (restoring x) n m = refl
off-done (receiving o) n m = refl
off-done (receiving_at o g) n m = refl

turned_follows : (s : State) (c : Call) (a : Answer) → Turned a → Follows s c (unchanged s a)
unfolding unchanged all_integrated
turned_follows s c a w = rw (off-turned c a w)

carried_follows : (s : State) (c : Call) (o : Operation) → Follows s c (carry_out Done s o)
unfolding carry_out after_drain with_characters all_integrated
carried_follows s c (insert i) = rw (off-done c _ _)
carried_follows s c (toggle d) = rw (off-done c 1 0)

accept_follows : (s : State) (o : Operation) → Follows s (receiving o) (accept s o)
unfolding accept defer with_pending all_integrated
accept_follows s o = go (executable s.characters o)
  where
    go : (b : Bool) → Follows s (receiving o) (cond b (carry_out Done s o) (defer s o))
    go true = carried_follows s (receiving o) o
    go false = refl

receive_follows : (s : State) (o : Operation) (m : Option Answer) → first (receive_checks (well_formed s) s o) ≡ m → Follows s (receiving o) (decided (unchanged s) m (accept s o))
unfolding decided
receive_follows s o none e = accept_follows s o
receive_follows s o (some a) e = turned_follows s (receiving o) a (first_some Turned (receive_checks (well_formed s) s o) (receive-turned (well_formed s) s o) a e)

insert_follows : (s : State) (g n : ℕ) (m : Option Sending) → Follows s (inserting g n) (with_answer answer_of (decided (unchanged s) m (send_insert s (generated_insert s g n))))
unfolding decided unchanged send_insert carry_out after_drain all_integrated
insert_follows s g n none = refl
insert_follows s g n (some a) = refl

delete_follows : (s : State) (p : ℕ) (m : Option Sending) → Follows s (deleting p) (with_answer answer_of (decided (unchanged s) m (send_toggle s (generated_delete s p))))
unfolding decided unchanged send_toggle carry_out with_characters all_integrated
delete_follows s p none = refl
delete_follows s p (some a) = refl

restore_follows : (s : State) (x : Identifier) (m : Option Sending) → Follows s (restoring x) (with_answer answer_of (decided (unchanged s) m (send_toggle s (generated_toggle s x))))
unfolding decided unchanged send_toggle carry_out with_characters all_integrated
restore_follows s x none = refl
restore_follows s x (some a) = refl

pub clock_follows : ClockFollows
unfolding outcome local_insert local_insert_when local_delete local_delete_when local_restore local_restore_when receive receive_when receive_at
clock_follows s (inserting g n) = insert_follows s g n (first (insert_checks (well_formed s) s g n))
clock_follows s (deleting p) = delete_follows s p (first (delete_checks (well_formed s) s p))
clock_follows s (restoring x) = restore_follows s x (first (restore_checks (well_formed s) s x))
clock_follows s (receiving o) = receive_follows s o (first (receive_checks (well_formed s) s o)) refl
clock_follows s (receiving_at o g) =
    ⊎_elim (λ e. rw e (receive_follows s o (first (receive_checks (well_formed s) s o)) refl)) (λ e. rw e (turned_follows s (receiving_at o g) (Refused Position) tt))
    (receive-at_else (well_formed s) s o g)

-- what a step drained raised nothing
undrained : (s : State) (c : Call) {r : Outcome Answer} → Step s r → Follows s c r → r.state.site ≡ heard_all s.site (inserts (put_off c r.answer ++ r.own))
unfolding unchanged carry_out defer all_integrated
undrained s c (turned a w) f = f
undrained s c (adds i a) f = rw (off-done c _ _)
undrained s c (raises d a) f = f
undrained s c (defers o a) f = f

pub draining_raises_nothing : DrainingRaisesNothing
draining_raises_nothing s c = undrained s c (step s c) (clock_follows s c)

pub clock_never-falls : ClockNeverFalls
clock_never-falls s c =
    let is = inserts (put_off c (outcome s c).answer ++ all_integrated (outcome s c)) in
    (ap (λ (t : Site). t.number) (clock_follows s c) ∙ heard-all-number s.site is, subst (λ (t : Site). s.site.clock ≤ t.clock) (sym (clock_follows s c)) (heard-all_clock s.site is))

-- what typing carries out of its own is what it made
typed-own : (s : State) (g n : ℕ) → first (insert_checks (well_formed s) s g n) ≡ none → (outcome s (inserting g n)).own ≡ insert (generated_insert s g n) ∷ []
unfolding outcome local_insert local_insert_when send_insert carry_out decided
typed-own s g n e = rw e

pub typing_advances : TypingAdvances
unfolding outcome local_insert
typing_advances s g n h =
    let free = none_first (insert_checks (well_formed s) s g n) ((insert_does (well_formed s) s g n).0 h) in
    draining_raises_nothing s (inserting g n)
    ∙ ap (λ os. heard_all s.site (inserts os)) (typed-own s g n free)
    ∙ typed-heard s g n

-- ---- loading

-- hearing inserts in range keeps a site in range
heard-all-range : (t : Site) (is : List Insert) → site_in_range t ≡ true → every insert_in_range is ≡ true → site_in_range (heard_all t is) ≡ true
heard-all-range t [] h r = h
heard-all-range t (i ∷ is) h r =
    heard-all-range (heard t i) is (heard-range t i h (insert_clock i (and_left_lem (insert_in_range i) (every insert_in_range is) r))) (and_right (insert_in_range i) (every insert_in_range is) r)

origins_ranged : (cs : List Character) → every character_in_range cs ≡ true → every insert_in_range (map origin cs) ≡ true
origins_ranged [] h = refl
origins_ranged (c ∷ cs) h =
    and_intro (origin_ranged c (and_left_lem (character_in_range c) (every character_in_range cs) h)) (origins_ranged cs (and_right (character_in_range c) (every character_in_range cs) h))

inserts_ranged : (ps : List Operation) → every in_range ps ≡ true → every insert_in_range (inserts ps) ≡ true
unfolding in_range
inserts_ranged [] h = refl
inserts_ranged (insert i ∷ ps) h = and_intro (and_left_lem (insert_in_range i) (every in_range ps) h) (inserts_ranged ps (and_right (insert_in_range i) (every in_range ps) h))
inserts_ranged (toggle d ∷ ps) h = inserts_ranged ps (and_right (in_range (toggle d)) (every in_range ps) h)

raised_ranged : (s : State) → all_in_range s ≡ true → all_in_range (raised s) ≡ true
unfolding raised all_in_range present_inserts
raised_ranged s h =
    let p = three (site_in_range s.site) (every character_in_range s.characters) (every in_range s.pending) h in
    let all : every insert_in_range (map origin s.characters ++ inserts s.pending) ≡ true = every_append insert_in_range (map origin s.characters) (inserts s.pending) ∙ and_intro (origins_ranged s.characters p.1) (inserts_ranged s.pending p.2) in
    rw (heard-all-range s.site (map origin s.characters ++ inserts s.pending) p.0 all, p.1, p.2)

raised-kept : (s : State) → clock_kept (raised s) ≡ true
unfolding raised clock_kept present_inserts
raised-kept s = heard-all_reaches s.site (present_inserts s)

raised-still : (s : State) → clock_kept s ≡ true → raised s ≡ s
unfolding raised clock_kept
raised-still s h =
    ap (λ (t : Site). record { site = t; characters = s.characters; pending = s.pending })
    (heard-all-still s.site (present_inserts s) (sym (reached-ids s.site (present_inserts s)) ∙ h))

pub raising : (s : State) → Raising s
raising s =
    record {
      kept = raised-kept s;
      still = (λ e. subst (λ (t : State). clock_kept t ≡ true) e (raised-kept s), raised-still s);
      ranged = raised_ranged s;
    }
