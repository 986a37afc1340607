-- Pasting is typing: where it is done, it is what the list of its typing calls comes to, and what is known of lists of calls
-- is known of it.
use Prim.Native.Nat.{ℕ, suc, ◌+◌, ◌≤◌}
use native.Mathlib.Nat.{zero-add}
use native.Mathlib.Omega.{arith}
use mathlib.Core.Path.{◌≡◌, refl, ap, ap₂, sym, ◌∙◌, subst}
use mathlib.Core.Bool.{Bool, true, false, ◌||◌, true≢false}
use mathlib.Core.Option.{Option, none, some}
use mathlib.Core.Logic.{inl, inr}
use mathlib.Core.List.Memᴰ
use mathlib.Core.List.{List, [], ◌∷◌, ◌++◌, map, append_assoc}
use lib.Dec.{ltb, eqb}
use lib.ListN.{length, length-append}
use borrow.Author.Tests.{ltb-false, le-ltb, ne_eqb, not-false}
use Rattle.lists.specs.Lists.{missing}
use Rattle.lists.proofs.Tests.{clash, and_right, or-false, or-false-right}
use Rattle.decoding.specs.Decoding.{decoded}
use Rattle.decoding.specs.Theorems.{Encodes}
use Rattle.decoding.proofs.Decoding.{decoded_exactly, undecoded_exactly}
use Rattle.woot.specs.declared.Identifier.{Identifier}
use Rattle.woot.specs.declared.Site.{Site}
use Rattle.woot.specs.declared.Operation.{Operation}
use Rattle.woot.specs.declared.Operation.TheVariants.{Insert as insert, Toggle as toggle}
use Rattle.woot.specs.declared.Character.{Character}
use Rattle.answers.specs.declared.Refusal.{Refusal}
use Rattle.answers.specs.declared.Refusal.TheVariants.{NotUtf8, Unplaceable}
use Rattle.answers.specs.declared.Answer.{Answer}
use Rattle.answers.specs.declared.Answer.TheVariants.{Done, Duplicate, Refused}
use Rattle.woot.specs.Limits.{last_clock, capacity}
use Rattle.woot.specs.Operations.{character, inserts}
use Rattle.woot.specs.Ranges.{within, site_number, site_in_range}
use Rattle.woot.specs.State.{State}
use Rattle.woot.specs.Placing.{held, integrate_insert}
use Rattle.woot.specs.Pending.{executable, crossed, unplaceable, integrate, Drained, and_integrated, and_discarded, drained}
use Rattle.woot.specs.Form.{present_inserts, well_formed}
use Rattle.answers.specs.Answers.{number, done, reply, first, decided, NoneHolds, Reported, here}
use Rattle.woot.specs.Sending.{answer_of, sent_operation}
use Rattle.woot.specs.Calls.{Outcome, unchanged, all_integrated, after_drain, insert_carried, carry_out, defer, visibles, next_identifier, generated_insert, beyond_visible, insert_checks, local_insert}
use Rattle.woot.specs.Cursor.{visible_through}
use Rattle.woot.specs.Histories.{Call, inserting, outcome, run, integrated_by, drained_by, discarded_by, is_deferred, deferred_by}
use Rattle.bulk.specs.Beginnings.{start_of, beforehand, history_of}
use Rattle.bulk.specs.Pasting.{or_nothing, code_points_of, gap_below, typings, own_by, stopped, PasteOutcome, unpasted, pasted, clock_short, overfull, block_checks, paste_checks, paste_when, paste}
use Rattle.convergence.specs.Agreement.{Grown}
use Rattle.convergence.specs.Pasting.{PasteRefuses, PasteNumbers, PasteDoes, PasteNotUtf8, PasteAllOrNone, PasteNothing, EachDone, DoneTillUnplaceable, OnlyUnplaceable, PasteIsTyping, carried_count, thrown_count, PasteCounts, PasteCountsBounded, sent_typing, PasteSends, NextGap, gap_after, PastingMoves, PasteNeverUnplaceable, PasteFormKept, PasteInHistories}
use Rattle.convergence.proofs.Extract.{extract_itself}
use Rattle.convergence.proofs.Toggling.{toggle_held}
use Rattle.convergence.proofs.Places.{held_member}
use Rattle.convergence.proofs.Ranges.{within-high}
use Rattle.convergence.proofs.Forms.{Formed, formed, known-length}
use Rattle.convergence.proofs.Soundness.{standing, placed_extract, placed-held}
use Rattle.convergence.proofs.Drains.{Draining, stop, discard, carry}
use Rattle.convergence.proofs.Through.{through_most, kept-left, nearest-left}
use Rattle.convergence.proofs.Steps.{Turned, All, first-none, first_some, Step, turned, adds, raises, defers, step, after-insert, generated_addable}
use Rattle.convergence.proofs.Shares.{pending-fit}
use Rattle.convergence.proofs.Kept.{form_kept, counts_true}
use Rattle.convergence.proofs.Hearing.{typing_advances}
use Rattle.convergence.proofs.Histories.{waits_balance}
use Rattle.convergence.proofs.Refusals.{decided_exactly, skipped, held-there, never, other}
use Rattle.convergence.proofs.Replies.{never-refused, turned_undone, answer-number, none_first, insert_does, insert-sends}
use Rattle.convergence.proofs.Own.{typed_carried}
use Rattle.convergence.proofs.Typing.{typing_moves}
use Rattle.convergence.proofs.Grown.{grown-run, grown-throughout, placeable}
use Rattle.convergence.proofs.Typings.{Ready, state_after, gap_then, ready_typings, run-append, integrated_append}
use Rattle.std.proofs.Common.{Ok, Err}
use Rattle.woot.specs.Sent.{Sending}

-- ---- the answer

paste-turned : (formed : Bool) (s : State) (g : ℕ) (block : List ℕ) → All Turned (paste_checks formed s g block)
unfolding paste_checks
paste-turned formed s g block = (tt, (tt, (tt, (tt, (tt, (tt, tt))))))

-- what the block's characters come to
abbrev typed : State → ℕ → List ℕ → PasteOutcome
typed s g block = pasted s (typings s g (code_points_of block))

pub paste_refuses : PasteRefuses
unfolding paste_when unpasted pasted
paste_refuses formed s g block r =
    decided_exactly (unpasted s) (λ p. p.answer) (λ x. refl) (paste_checks formed s g block) (typed s g block) (Refused r) (never-refused r)

pub paste_numbers : PasteNumbers
paste_numbers formed s g block r =
    let n = answer-number (paste_when formed s g block).answer r in
    let b = paste_refuses formed s g block r in
    (λ h. b.0 (n.0 h), λ h. n.1 (b.1 h))

pub paste_does : PasteDoes
unfolding paste_when decided unpasted pasted reply
paste_does formed s g block = (go (first (paste_checks formed s g block)) refl, λ w. rw (none_first (paste_checks formed s g block) w))
  where
    go : (m : Option Answer) → first (paste_checks formed s g block) ≡ m → (reply (decided (unpasted s) m (typed s g block)).answer).word ≡ done
        → NoneHolds (paste_checks formed s g block)
    go none e h = first-none (paste_checks formed s g block) e
    go (some a) e h = absurd (turned_undone a (first_some Turned (paste_checks formed s g block) (paste-turned formed s g block) a e) h)

-- 20 is the first to be looked at
pub paste-not_utf8 : PasteNotUtf8
unfolding paste_checks
paste-not_utf8 formed s g block = (
  λ h. (undecoded_exactly block).0 (none-there (decoded block) (at_first ((paste_refuses formed s g block NotUtf8).0 h))),
  λ f. (paste_refuses formed s g block NotUtf8).1 (here (ap missing ((undecoded_exactly block).1 f)) refl),
)
  where
    none-there : (m : Option (List ℕ)) → missing m ≡ true → m ≡ none
    none-there none e = refl
    none-there (some ns) e = absurd (true≢false (sym e))

    at_first : Reported (Refused NotUtf8) (paste_checks formed s g block) → missing (decoded block) ≡ true
    at_first r =
        held-there
        (λ q1.
        let r2 = skipped (other (λ h. omega arith)) q1 in
        let r3 = skipped (other (λ h. omega arith)) r2.1 in
        let r4 = skipped (other (λ h. omega arith)) r3.1 in
        let r5 = skipped (other (λ h. omega arith)) r4.1 in
        never (skipped (other (λ h. omega arith)) r5.1).1) r

pub paste-all-or-none : PasteAllOrNone
unfolding paste paste_when decided unpasted pasted
paste-all-or-none s g block r = go (first (paste_checks (well_formed s) s g block))
  where
    go : (m : Option Answer) → (decided (unpasted s) m (typed s g block)).answer ≡ Refused r → decided (unpasted s) m (typed s g block) ≡ unpasted s (Refused r)
    go none h = absurd (never-refused r h)
    go (some a) h = ap (unpasted s) h

-- the characters that a block is read as
points : (block ns : List ℕ) → Encodes block ns → code_points_of block ≡ ns
unfolding code_points_of
points block ns w = ap or_nothing ((decoded_exactly block ns).1 w)

-- where it is done, it is what the calls come to
is-pasted : (s : State) (g : ℕ) (block ns : List ℕ) → Encodes block ns → (reply (paste s g block).answer).word ≡ done
    → paste s g block ≡ pasted s (typings s g ns)
unfolding paste paste_when decided
is-pasted s g block ns w h =
    ap (λ m. decided (unpasted s) m (typed s g block)) (none_first (paste_checks (well_formed s) s g block) ((paste_does (well_formed s) s g block).0 h))
    ∙ ap (λ (l : List ℕ). pasted s (typings s g l)) (points block ns w)

-- ---- the typing calls

block_ready : (s : State) (g : ℕ) (block : List ℕ) → NoneHolds (block_checks (well_formed s) s g block []) → Ready s g (length (code_points_of block))
unfolding clock_short overfull
block_ready s g block w =
    let count = length (code_points_of block) in
    record {
      form = not-false (well_formed s) w.1.0;
      gap = w.1.1.0;
      clock = ltb-false last_clock (s.site.clock + count) w.1.1.1.0;
      space = omega (arith, ltb-false capacity (length (present_inserts s) + count) w.1.1.1.1.0, known-length s);
    }

pub only-unplaceable : OnlyUnplaceable
only-unplaceable s g block ns e w =
    ready_typings s g ns e.0 (subst (λ (l : List ℕ). Ready s g (length l)) (points block ns e) (block_ready s g block w))

-- where none was stopped with 9 all were done
unstopped_done : (s : State) (cs : List Call) → DoneTillUnplaceable s cs → stopped s cs ≡ false → EachDone s cs
unfolding stopped reply
unstopped_done s [] w h = tt
unstopped_done s (c ∷ cs) (inl w) h =
    (w.0, unstopped_done (outcome s c).state cs w.1 (or-false-right (eqb (reply (outcome s c).answer).refusal 9) (stopped (outcome s c).state cs) h))
unstopped_done s (c ∷ cs) (inr e) h = clash {b = eqb (reply (outcome s c).answer).refusal 9 || stopped (outcome s c).state cs} (rw e) h

-- what none of the conditions of a pasting that is done says of the block
block_passed : (s : State) (g : ℕ) (block : List ℕ) → (reply (paste s g block).answer).word ≡ done
    → NoneHolds (block_checks (well_formed s) s g block []) × (stopped s (typings s g (code_points_of block)) ≡ false)
unfolding paste_checks paste
block_passed s g block h =
    let w = (paste_does (well_formed s) s g block).0 h in
    ((w.0, (w.1.0, (w.1.1.0, (w.1.1.1.0, (w.1.1.1.1.0, tt))))), w.1.1.1.1.1.0)

pub paste-is_typing : PasteIsTyping
paste-is_typing s g block ns e h =
    let w = block_passed s g block h in
    let unstopped = ap (λ (l : List ℕ). stopped s (typings s g l)) (sym (points block ns e)) ∙ w.1 in (
      unstopped_done s (typings s g ns) (only-unplaceable s g block ns e w.0) unstopped,
      is-pasted s g block ns e h,
    )

-- ---- nothing pasted

clock_in_range : (s : State) → Formed s → s.site.clock ≤ last_clock
unfolding site_in_range
clock_in_range s f = within-high 0 last_clock s.site.clock (and_right (site_number s.site.number) (within 0 last_clock s.site.clock) f.site)

pub paste-nothing : PasteNothing
unfolding paste paste_when paste_checks clock_short overfull decided unpasted pasted stopped
paste-nothing s g form gap =
    let f = formed s form in
    let reached : s.site.clock ≤ last_clock = clock_in_range s f in
    let early : ltb last_clock (s.site.clock + 0) ≡ false = le-ltb last_clock (s.site.clock + 0) (omega arith) in
    let count = length (present_inserts s) in
    let roomy : ltb capacity (count + 0) ≡ false = le-ltb capacity (count + 0) (omega (arith, f.sound.room, known-length s)) in
    rw ((decoded_exactly [] []).1 (refl, refl), points [] [] (refl, refl), form, gap, early, roomy)

-- ---- what is counted and sent

counts_summed : (s : State) (cs : List Call) → (length (integrated_by s cs) ≡ carried_count s cs) × (length (discarded_by s cs) ≡ thrown_count s cs)
counts_summed s [] = (refl, refl)
counts_summed s (c ∷ cs) =
    let h = counts_summed (outcome s c).state cs in
    let w = counts_true s c in (
      length-append (all_integrated (outcome s c)) (integrated_by (outcome s c).state cs) ∙ ap₂ (λ (a b : ℕ). a + b) (sym w.0) h.0,
      length-append (outcome s c).discarded (discarded_by (outcome s c).state cs) ∙ ap₂ (λ (a b : ℕ). a + b) (sym w.1) h.1,
    )

pub paste_counts : PasteCounts
unfolding pasted
paste_counts s g block ns e h =
    let w = counts_summed s (typings s g ns) in
    ap (λ (p : PasteOutcome). p.answer) (is-pasted s g block ns e h) ∙ ap₂ (λ (a b : ℕ). Done a b) w.0 w.1

-- what a typing call that is done carries out of its own, and the characters it leaves
module _ (s : State) (g n : ℕ) (h : (reply (outcome s (inserting g n)).answer).word ≡ done) where
  typed-none : NoneHolds (insert_checks (well_formed s) s g n)
  unfolding outcome local_insert
  typed-none = (insert_does (well_formed s) s g n).0 h

  typed-own : (outcome s (inserting g n)).own ≡ insert (generated_insert s g n) ∷ []
  unfolding carry_out
  typed-own = rw (typed_carried s g n typed-none)

  typed-characters : (outcome s (inserting g n)).state.characters ≡ (insert_carried s (generated_insert s g n)).characters
  unfolding carry_out after_drain
  typed-characters = rw (typed_carried s g n typed-none)

  typed_form : well_formed s ≡ true
  unfolding insert_checks
  typed_form = not-false (well_formed s) typed-none.1.0

  typed-sent : sent_operation (local_insert s g n).answer ≡ some (insert (generated_insert s g n))
  unfolding local_insert
  typed-sent = (insert-sends (well_formed s) s g n (insert (generated_insert s g n))).1 (typed-none, refl)

-- what is sent, its code points, and how many there are
typings-sent : (s : State) (g : ℕ) (ns : List ℕ) → EachDone s (typings s g ns) → let own = own_by s (typings s g ns) in
    (map some own ≡ sent_typing s g ns) × (map (λ i. i.code_point) (inserts own) ≡ ns) × (length own ≡ length ns)
unfolding generated_insert
typings-sent s g [] w = (refl, refl, refl)
typings-sent s g (n ∷ ns) w =
    let h = typings-sent (state_after s g n) (gap_then s g n) ns w.1 in
    rw (typed-own s g n w.0, typed-sent s g n w.0)
    (ap (λ (l : List (Option Operation)). some (insert (generated_insert s g n)) ∷ l) h.0, ap (λ (l : List ℕ). n ∷ l) h.1, ap suc h.2)

typings_clock : (s : State) (g : ℕ) (ns : List ℕ) → EachDone s (typings s g ns)
    → (run s (typings s g ns)).site ≡ record { number = s.site.number; clock = s.site.clock + length ns }
typings_clock s g [] w = let same : s.site.clock ≡ s.site.clock + 0 = omega arith in ap (λ (m : ℕ). record { number = s.site.number; clock = m }) same
typings_clock s g (n ∷ ns) w =
    let rest = typings_clock (state_after s g n) (gap_then s g n) ns w.1 in
    let sum : s.site.clock + 1 + length ns ≡ s.site.clock + suc (length ns) = omega arith in
    rest
    ∙ ap (λ (u : Site). record { number = u.number; clock = u.clock + length ns }) (typing_advances s g n w.0)
    ∙ ap (λ (m : ℕ). record { number = s.site.number; clock = m }) sum

pub paste-sends : PasteSends
unfolding pasted
paste-sends s g block ns e h =
    let w = paste-is_typing s g block ns e h in
    let v = typings-sent s g ns w.0 in
    rw w.1 (v.0, v.1, v.2, typings_clock s g ns w.0)

-- a typing call never waits
typings_wait_not : (s : State) (g : ℕ) (ns : List ℕ) → deferred_by s (typings s g ns) ≡ 0
unfolding outcome answer_of
typings_wait_not s g [] = refl
typings_wait_not s g (n ∷ ns) = rw (sent (local_insert s g n).answer, zero-add) (typings_wait_not (state_after s g n) (gap_then s g n) ns)
  where
    sent : (a : Sending) → is_deferred (answer_of a) ≡ 0
    sent (Ok x) = refl
    sent (Err r) = refl

integrated_parts : (s : State) (cs : List Call) → length (integrated_by s cs) ≡ length (own_by s cs) + length (drained_by s cs)
unfolding all_integrated
integrated_parts s [] = refl
integrated_parts s (c ∷ cs) =
    let r = outcome s c in
    omega (
      arith,
      integrated_parts r.state cs,
      length-append (r.own ++ r.drained) (integrated_by r.state cs),
      length-append r.own r.drained,
      length-append r.own (own_by r.state cs),
      length-append r.drained (drained_by r.state cs),
    )

step-own : (s : State) {r : Outcome Answer} → Step s r → length r.own ≤ 1
unfolding unchanged carry_out defer
step-own s (turned a w) = omega arith
step-own s (adds i a) = omega arith
step-own s (raises d a) = omega arith
step-own s (defers o a) = omega arith

typings-own : (s : State) (g : ℕ) (ns : List ℕ) → length (own_by s (typings s g ns)) ≤ length ns
typings-own s g [] = omega arith
typings-own s g (n ∷ ns) =
    let own = (outcome s (inserting g n)).own in
    let t = state_after s g n in
    omega (
      arith,
      step-own s (step s (inserting g n)),
      typings-own t (gap_then s g n) ns,
      length-append own (own_by t (typings t (gap_then s g n) ns)),
    )

pub paste_counts_bounded : PasteCountsBounded
unfolding paste paste_when paste_checks decided unpasted pasted
paste_counts_bounded s g block = go (first (paste_checks (well_formed s) s g block)) refl
  where
    go : (m : Option Answer) → first (paste_checks (well_formed s) s g block) ≡ m
        → (length (decided (unpasted s) m (typed s g block)).integrated ≤ 1536) × (length (decided (unpasted s) m (typed s g block)).discarded ≤ 512)
    go (some a) e = (omega arith, omega arith)
    go none e =
        let w = first-none (paste_checks (well_formed s) s g block) e in
        let r = block_ready s g block (w.0, (w.1.0, (w.1.1.0, (w.1.1.1.0, (w.1.1.1.1.0, tt))))) in
        let ns = code_points_of block in
        let cs = typings s g ns in
        let fit = pending-fit s r.form in
        let balance = waits_balance s cs in
        let never-waits = typings_wait_not s g ns in
        (omega (arith, r.space, fit, balance, never-waits, integrated_parts s cs, typings-own s g ns), omega (arith, fit, balance, never-waits))

-- ---- the next gap

drained-held : {cs : List Character} {ps : List Operation} {d : Drained} → Draining cs ps d → (x : Identifier) → held cs x ≡ true
    → held d.characters x ≡ true
unfolding drained and_discarded and_integrated integrate
drained-held (stop h) x e = e
drained-held (discard t f why r) x e = drained-held r x e
drained-held {cs} (carry t f straight placed r) x e = drained-held r x (go t.operation f.passed straight placed)
  where
    go : (o : Operation) → executable cs o ≡ true → crossed cs o ≡ false → unplaceable cs o ≡ false → held (integrate cs o) x ≡ true
    go (insert i) p q u = placed-held cs i p q u x e
    go (toggle d) p q u = toggle_held cs d x ∙ e

-- what was typed is held afterwards
typed-held : (s : State) (g n : ℕ) → (reply (outcome s (inserting g n)).answer).word ≡ done
    → held (state_after s g n).characters (next_identifier s.site) ≡ true
unfolding generated_insert character
typed-held s g n h =
    let i = generated_insert s g n in
    let a = generated_addable (well_formed s) s g n (formed s (typed_form s g n h)) (typed-none s g n h) in
    let m = extract_itself (placed_extract s.characters i a.ready a.uncrossed a.placeable) in
    subst (λ (cs : List Character). held cs (next_identifier s.site) ≡ true) (sym (typed-characters s g n h))
    (drained-held (after-insert s i) (next_identifier s.site) (held_member (integrate_insert s.characters i) (Memᴰ.map (λ c. c.id) m)))

pub next_gap : NextGap
unfolding gap_below beyond_visible
next_gap s g n h =
    let t = state_after s g n in
    let x = next_identifier s.site in
    let std = standing (formed t (form_kept s (inserting g n) (typed_form s g n h))).sound in (
      kept-left std x,
      nearest-left std x (typed-held s g n h),
      le-ltb (length (visibles t.characters)) (visible_through t.characters x) (through_most t.characters x),
    )

-- a typing call that is done carries one out at least, so where there are as many as characters each carries out one
typed-some : (s : State) (g n : ℕ) → (reply (outcome s (inserting g n)).answer).word ≡ done → 1 ≤ (reply (outcome s (inserting g n)).answer).integrated
unfolding carry_out reply
typed-some s g n h = rw (typed_carried s g n (typed-none s g n h)) (omega arith)

typings-some : (s : State) (g : ℕ) (ns : List ℕ) → EachDone s (typings s g ns) → length ns ≤ carried_count s (typings s g ns)
typings-some s g [] w = omega arith
typings-some s g (n ∷ ns) w = omega (arith, typed-some s g n w.0, typings-some (state_after s g n) (gap_then s g n) ns w.1)

typings-move : (s : State) (g : ℕ) (ns : List ℕ) → EachDone s (typings s g ns) → carried_count s (typings s g ns) ≡ length ns → gap_after s g ns ≡ g + length ns
unfolding gap_below generated_insert
typings-move s g [] w e = omega arith
typings-move s g (n ∷ ns) w e =
    let some-now = typed-some s g n w.0 in
    let some-later = typings-some (state_after s g n) (gap_then s g n) ns w.1 in
    let moved = (typing_moves s g n (generated_insert s g n) (typed-sent s g n w.0) (omega (arith, some-now, some-later, e))).0 in
    let rest = typings-move (state_after s g n) (gap_then s g n) ns w.1 (omega (arith, some-now, some-later, e)) in
    omega (arith, moved, rest)

pub pasting_moves : PastingMoves
unfolding reply
pasting_moves s g block ns e h one_each =
    typings-move s g ns (paste-is_typing s g block ns e h).0 (sym (ap (λ (a : Answer). (reply a).integrated) (paste_counts s g block ns e h)) ∙ one_each)

-- ---- refusal 9

unanswered : (a : Answer) → (a ≡ Refused Unplaceable → ⊥) → eqb (reply a).refusal (number Unplaceable) ≡ false
unanswered a f = ne_eqb (reply a).refusal (number Unplaceable) (λ e. f ((answer-number a Unplaceable).0 e))

-- no call meets 9 where the characters have grown by integration alone
calls_unstopped : (s : State) (cs : List Call) → Grown s.characters → stopped s cs ≡ false
unfolding stopped
calls_unstopped s [] w = refl
calls_unstopped s (c ∷ cs) w =
    or-false (unanswered (outcome s c).answer (placeable s c w)) (calls_unstopped (outcome s c).state cs (grown-run s (c ∷ []) w))

-- 9 is reported only where a character met it
reported_stopped : (s : State) (g : ℕ) (block : List ℕ) → Reported (Refused Unplaceable) (paste_checks (well_formed s) s g block)
    → stopped s (typings s g (code_points_of block)) ≡ true
unfolding paste_checks
reported_stopped s g block r =
    let r1 = skipped (other (λ h. omega arith)) r in
    let r2 = skipped (other (λ h. omega arith)) r1.1 in
    let r3 = skipped (other (λ h. omega arith)) r2.1 in
    let r4 = skipped (other (λ h. omega arith)) r3.1 in
    let r5 = skipped (other (λ h. omega arith)) r4.1 in
    held-there never r5.1

pub paste-never-unplaceable : PasteNeverUnplaceable
unfolding paste
paste-never-unplaceable b cs g block e =
    let s = run (start_of b) cs in
    true≢false
    (sym (reported_stopped s g block ((paste_refuses (well_formed s) s g block Unplaceable).0 e))
    ∙ calls_unstopped s (typings s g (code_points_of block)) (grown-throughout b cs))

-- ---- the form, and histories

run_form : (s : State) (cs : List Call) → well_formed s ≡ true → well_formed (run s cs) ≡ true
run_form s [] h = h
run_form s (c ∷ cs) h = run_form (outcome s c).state cs (form_kept s c h)

pub paste_form_kept : PasteFormKept
unfolding paste paste_when decided unpasted pasted
paste_form_kept s g block h = go (first (paste_checks (well_formed s) s g block))
  where
    go : (m : Option Answer) → well_formed (decided (unpasted s) m (typed s g block)).state ≡ true
    go none = run_form s (typings s g (code_points_of block)) h
    go (some a) = h

pub paste_in_histories : PasteInHistories
unfolding pasted
paste_in_histories b cs g block ns w h =
    let s = run (start_of b) cs in
    let e = is-pasted s g block ns w h in (
      ap (λ (p : PasteOutcome). p.state) e ∙ sym (run-append (start_of b) cs (typings s g ns)),
      ap (λ (p : PasteOutcome). history_of b cs ++ p.integrated) e
          ∙ append_assoc (beforehand b) (integrated_by (start_of b) cs) (integrated_by s (typings s g ns))
          ∙ ap (λ (os : List Operation). beforehand b ++ os) (sym (integrated_append (start_of b) cs (typings s g ns))),
    )
