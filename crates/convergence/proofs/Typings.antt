-- The typing calls of a pasted block, one after another: each raises the clock by one, brings one insert at most, and leaves
-- a state in form with the next gap among its visible characters. So what was asked of the whole block leaves each call
-- only 9 to be refused with, and a loop need not ask it again.
use Prim.Native.Nat.{ℕ, suc, ◌+◌, ◌≤◌}
use native.Mathlib.Omega.{arith}
use mathlib.Core.Path.{◌≡◌, refl, ap, sym, ◌∙◌}
use mathlib.Core.Bool.{Bool, true, false, ◌||◌, not, cond}
use mathlib.Core.Logic.{inl, inr, ⊎_elim}
use mathlib.Core.List.{List, [], ◌∷◌, ◌++◌, append_assoc}
use lib.Dec.{leb, eqb}
use lib.ListN.{length}
use borrow.Author.Tests.{lt-leb, le-ltb}
use Rattle.woot.specs.declared.Site.{Site}
use Rattle.woot.specs.declared.Insert.{Insert}
use Rattle.woot.specs.declared.Operation.{Operation}
use Rattle.woot.specs.declared.Operation.TheVariants.{Insert as insert, Toggle as toggle}
use Rattle.woot.specs.declared.Character.{Character}
use Rattle.answers.specs.declared.Refusal.TheVariants.{Unplaceable}
use Rattle.answers.specs.declared.Answer.{Answer}
use Rattle.answers.specs.declared.Answer.TheVariants.{Done, Refused}
use Rattle.woot.specs.Limits.{last_clock, capacity}
use Rattle.woot.specs.Operations.{inserts}
use Rattle.woot.specs.Ranges.{is_code_point}
use Rattle.woot.specs.State.{State}
use Rattle.woot.specs.Pending.{executable, crossed, unplaceable, integrate, Drained, and_integrated, and_discarded, drained}
use Rattle.woot.specs.Form.{present_inserts, well_formed}
use Rattle.answers.specs.Answers.{number, done, reply, NoneHolds, here, later}
use Rattle.woot.specs.Sending.{answer_of}
use Rattle.woot.specs.Calls.{Outcome, unchanged, all_integrated, with_characters, with_pending, document_full, carry_out, defer, visibles, next_identifier, generated_insert, beyond_visible, identifier_taken, insert_checks, local_insert}
use Rattle.woot.specs.Cursor.{visible_through}
use Rattle.woot.specs.Histories.{Call, inserting, outcome, run, integrated_by, discarded_by}
use Rattle.bulk.specs.Pasting.{gap_below, typings, own_by, stopped}
use Rattle.lists.specs.Lists.{every}
use Rattle.lists.proofs.Tests.{either, and_left_lem, and_right}
use Rattle.convergence.specs.Pasting.{EachDone, DoneTillUnplaceable, gap_after}
use Rattle.convergence.proofs.Extract.{Extract, extract_length, extract_last}
use Rattle.convergence.proofs.Toggling.{toggle_length}
use Rattle.convergence.proofs.Forms.{formed, known-length}
use Rattle.convergence.proofs.Soundness.{inserts_extract, inserts-same, placed_extract}
use Rattle.convergence.proofs.Drains.{Draining, stop, discard, carry}
use Rattle.convergence.proofs.Through.{through_most}
use Rattle.convergence.proofs.Steps.{Step, turned, adds, raises, defers, after-insert, formed_untaken, step}
use Rattle.convergence.proofs.Kept.{form_kept}
use Rattle.convergence.proofs.Hearing.{typing_advances}
use Rattle.convergence.proofs.Refusals.{insert_refuses, refused-unchanged}
use Rattle.convergence.proofs.Replies.{insert_does}
use Rattle.convergence.proofs.Own.{typed_carried}

-- ---- one more insert at most

-- characters and pending inserts
abbrev pub present : State → ℕ
present s = length s.characters + length (inserts s.pending)

drained-present : {cs : List Character} {ps : List Operation} {d : Drained} → Draining cs ps d
    → length d.characters + length (inserts d.pending) ≤ length cs + length (inserts ps)
unfolding drained and_discarded and_integrated integrate
drained-present (stop h) = omega arith
drained-present {cs} {ps} (discard t f why r) = go t.operation f.extracted (drained-present r)
  where
    go : (o : Operation) → Extract o t.others ps → {m : ℕ} → m ≤ length cs + length (inserts t.others) → m ≤ length cs + length (inserts ps)
    go (insert i) e h = omega (arith, extract_length (inserts_extract e))
    go (toggle d) e h = omega (arith, ap (λ (is : List Insert). length is) (inserts-same e))
drained-present {cs} {ps} (carry t f straight placed r) = go t.operation f.extracted f.passed straight placed (drained-present r)
  where
    go : (o : Operation) → Extract o t.others ps → executable cs o ≡ true → crossed cs o ≡ false → unplaceable cs o ≡ false
        → {m : ℕ} → m ≤ length (integrate cs o) + length (inserts t.others) → m ≤ length cs + length (inserts ps)
    go (insert i) e p q u h = omega (arith, extract_length (inserts_extract e), extract_length (placed_extract cs i p q u))
    go (toggle d) e p q u h = omega (arith, ap (λ (is : List Insert). length is) (inserts-same e), toggle_length cs d)

waiting-present : (o : Operation) (ps : List Operation) → length (inserts (ps ++ o ∷ [])) ≤ suc (length (inserts ps))
waiting-present (insert i) ps = omega (arith, extract_length (inserts_extract (extract_last (insert i) ps)))
waiting-present (toggle d) ps = omega (arith, ap (λ (is : List Insert). length is) (inserts-same (extract_last (toggle d) ps)))

step-present : (s : State) {r : Outcome Answer} → Step s r → present r.state ≤ suc (present s)
unfolding unchanged carry_out defer with_characters with_pending
step-present s (turned a w) = omega arith
step-present s (adds i a) =
    omega (arith, drained-present (after-insert s i), extract_length (placed_extract s.characters i a.ready a.uncrossed a.placeable))
step-present s (raises d a) = omega (arith, toggle_length s.characters d)
step-present s (defers o a) = omega (arith, waiting-present o s.pending)

-- ---- one typing call

-- what is asked before one: so many more can be typed
pub record Ready (s : State) (g count : ℕ) : Type 0 where
  pub form : well_formed s ≡ true
  pub gap : beyond_visible s g ≡ false
  pub clock : s.site.clock + count ≤ last_clock
  pub space : present s + count ≤ capacity

-- the next state, and the gap for the next character
abbrev pub state_after : State → ℕ → ℕ → State
state_after s g n = (outcome s (inserting g n)).state

abbrev pub gap_then : State → ℕ → ℕ → ℕ
gap_then s g n = gap_below (state_after s g n) (next_identifier s.site)

module _ (s : State) (g n count : ℕ) (r : Ready s g (suc count)) (coded : is_code_point n ≡ true) where
  early : leb last_clock s.site.clock ≡ false
  early = lt-leb last_clock s.site.clock (omega (arith, r.clock))

  roomy : document_full s (insert (generated_insert s g n)) ≡ false
  unfolding document_full
  roomy = lt-leb capacity (length (present_inserts s)) (omega (arith, r.space, known-length s))

  free : identifier_taken s ≡ false
  free = formed_untaken s (formed s r.form)

  pub typed_free : unplaceable s.characters (insert (generated_insert s g n)) ≡ false → NoneHolds (insert_checks (well_formed s) s g n)
  unfolding insert_checks
  typed_free p = (ap not coded, (ap not r.form, (r.gap, (early, (free, (p, (roomy, tt)))))))

  pub typed-done : unplaceable s.characters (insert (generated_insert s g n)) ≡ false → (reply (outcome s (inserting g n)).answer).word ≡ done
  unfolding outcome local_insert
  typed-done p = (insert_does (well_formed s) s g n).1 (typed_free p)

  pub typed-stopped : unplaceable s.characters (insert (generated_insert s g n)) ≡ true → (outcome s (inserting g n)).answer ≡ Refused Unplaceable
  unfolding outcome local_insert insert_checks answer_of
  typed-stopped p =
      ap answer_of
      ((insert_refuses (well_formed s) s g n Unplaceable).1
      (later (ap not coded) (later (ap not r.form) (later r.gap (later early (later free (here p refl)))))))

  -- it asks for nothing but a place: no form, no gap, no clock and no space is looked at again
  pub typed-plain : outcome s (inserting g n)
      ≡ cond (unplaceable s.characters (insert (generated_insert s g n))) (unchanged s (Refused Unplaceable))
      (carry_out Done s (insert (generated_insert s g n)))
  typed-plain =
      ⊎_elim (λ u. refused-unchanged s (inserting g n) Unplaceable (typed-stopped u) ∙ ap after (sym u))
      (λ u. typed_carried s g n (typed_free u) ∙ ap after (sym u))
      (either (unplaceable s.characters (insert (generated_insert s g n))))
    where
      after : Bool → Outcome Answer
      after b = cond b (unchanged s (Refused Unplaceable)) (carry_out Done s (insert (generated_insert s g n)))

  -- where it is done, the next can be asked for
  pub typed_ready : (reply (outcome s (inserting g n)).answer).word ≡ done → Ready (state_after s g n) (gap_then s g n) count
  unfolding gap_below beyond_visible
  typed_ready h =
      let t = state_after s g n in
      let x = next_identifier s.site in
      record {
        form = form_kept s (inserting g n) r.form;
        gap = le-ltb (length (visibles t.characters)) (visible_through t.characters x) (through_most t.characters x);
        clock = omega (arith, r.clock, ap (λ (u : Site). u.clock) (typing_advances s g n h));
        space = omega (arith, r.space, step-present s (step s (inserting g n)));
      }

-- ---- all of them

pub ready_typings : (s : State) (g : ℕ) (ns : List ℕ) → every is_code_point ns ≡ true → Ready s g (length ns) → DoneTillUnplaceable s (typings s g ns)
ready_typings s g [] p r = tt
ready_typings s g (n ∷ ns) p r =
    let coded = and_left_lem (is_code_point n) (every is_code_point ns) p in
    ⊎_elim (λ u. inr (typed-stopped s g n (length ns) r coded u))
    (λ u.
    let h = typed-done s g n (length ns) r coded u in
    inl (h, ready_typings (state_after s g n) (gap_then s g n) ns (and_right (is_code_point n) (every is_code_point ns) p) (typed_ready s g n (length ns) r coded h)))
    (either (unplaceable s.characters (insert (generated_insert s g n))))

-- ---- calls, and more calls after them

pub typings-append : (s : State) (g : ℕ) (ms ns : List ℕ) → typings s g (ms ++ ns) ≡ typings s g ms ++ typings (run s (typings s g ms)) (gap_after s g ms) ns
typings-append s g [] ns = refl
typings-append s g (m ∷ ms) ns = ap (λ (cs : List Call). inserting g m ∷ cs) (typings-append (state_after s g m) (gap_then s g m) ms ns)

pub run-append : (s : State) (cs ds : List Call) → run s (cs ++ ds) ≡ run (run s cs) ds
run-append s [] ds = refl
run-append s (c ∷ cs) ds = run-append (outcome s c).state cs ds

pub stopped-append : (s : State) (cs ds : List Call) → stopped s (cs ++ ds) ≡ (stopped s cs || stopped (run s cs) ds)
unfolding stopped
stopped-append s [] ds = refl
stopped-append s (c ∷ cs) ds =
    let now = eqb (reply (outcome s c).answer).refusal (number Unplaceable) in
    ap (λ (b : Bool). now || b) (stopped-append (outcome s c).state cs ds)
    ∙ or_assoc now (stopped (outcome s c).state cs) (stopped (run (outcome s c).state cs) ds)
  where
    or_assoc : (a b d : Bool) → (a || (b || d)) ≡ ((a || b) || d)
    or_assoc true b d = refl
    or_assoc false b d = refl

-- what calls give one after another, of those and of these
module _ (f : State → Call → List Operation) (by : State → List Call → List Operation) (none_yet : (s : State) → by s [] ≡ [])
    (one_more : (s : State) (c : Call) (cs : List Call) → by s (c ∷ cs) ≡ f s c ++ by (outcome s c).state cs) where
  gathered-append : (s : State) (cs ds : List Call) → by s (cs ++ ds) ≡ by s cs ++ by (run s cs) ds
  gathered-append s [] ds = ap (λ (os : List Operation). os ++ by s ds) (sym (none_yet s))
  gathered-append s (c ∷ cs) ds =
      let t = (outcome s c).state in
      one_more s c (cs ++ ds)
      ∙ ap (λ (os : List Operation). f s c ++ os) (gathered-append t cs ds)
      ∙ sym (append_assoc (f s c) (by t cs) (by (run t cs) ds))
      ∙ ap (λ (os : List Operation). os ++ by (run t cs) ds) (sym (one_more s c cs))

pub own-append : (s : State) (cs ds : List Call) → own_by s (cs ++ ds) ≡ own_by s cs ++ own_by (run s cs) ds
own-append = gathered-append (λ s c. (outcome s c).own) own_by (λ s. refl) (λ s c cs. refl)

pub discarded_append : (s : State) (cs ds : List Call) → discarded_by s (cs ++ ds) ≡ discarded_by s cs ++ discarded_by (run s cs) ds
discarded_append = gathered-append (λ s c. (outcome s c).discarded) discarded_by (λ s. refl) (λ s c cs. refl)

pub integrated_append : (s : State) (cs ds : List Call) → integrated_by s (cs ++ ds) ≡ integrated_by s cs ++ integrated_by (run s cs) ds
integrated_append = gathered-append (λ s c. all_integrated (outcome s c)) integrated_by (λ s. refl) (λ s c cs. refl)

-- after characters that were all done, what was asked for the whole block still holds for the rest
pub ready_after : (s : State) (g : ℕ) (ms ns : List ℕ) → every is_code_point ms ≡ true → Ready s g (length (ms ++ ns)) → EachDone s (typings s g ms)
    → Ready (run s (typings s g ms)) (gap_after s g ms) (length ns)
ready_after s g [] ns p r w = r
ready_after s g (m ∷ ms) ns p r w =
    ready_after (state_after s g m) (gap_then s g m) ms ns (and_right (is_code_point m) (every is_code_point ms) p)
    (typed_ready s g m (length (ms ++ ns)) r (and_left_lem (is_code_point m) (every is_code_point ms) p) w.0) w.1
