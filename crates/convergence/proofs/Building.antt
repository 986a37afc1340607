-- What is promised of building: of a heap that is refused nothing is built, and of one that is not, each promise is a
-- fact about the rule's draining, its loops in any order, or heaps that have the same operations.
use Prim.Native.Nat.{ℕ, suc, ◌+◌, ◌≤◌, ◌<◌}
use native.Mathlib.Omega.{arith}
use mathlib.Core.Path.{◌≡◌, refl, ap, sym, ◌∙◌, subst}
use mathlib.Core.Bool.{Bool, true, false, ◌&&◌, not}
use mathlib.Core.Logic.{◌↔◌, ◌⊎◌, inl, inr, ⊎_elim}
use mathlib.Core.Option.{Option, none, some}
use mathlib.Core.List.Memᴰ
use mathlib.Core.List.{List, [], ◌∷◌, ◌++◌, Memᴰ}
use lib.Dec.{ltb}
use lib.ListN.{length, length-append}
use borrow.Author.Tests.{le-ltb, not-true}
use Rattle.woot.specs.declared.Insert.{Insert}
use Rattle.woot.specs.declared.Operation.{Operation}
use Rattle.woot.specs.declared.Operation.TheVariants.{Insert as insert, Toggle as toggle}
use Rattle.woot.specs.declared.Character.{Character}
use Rattle.answers.specs.declared.Answer.{Answer}
use Rattle.answers.specs.declared.Answer.TheVariants.{Done, Duplicate, Refused}
use Rattle.woot.specs.Limits.{capacity}
use Rattle.woot.specs.Identifiers.{same}
use Rattle.woot.specs.Operations.{inserts, toggles_among, same_insert, same_operation}
use Rattle.woot.specs.Ranges.{site_number, in_range}
use Rattle.woot.specs.State.{initial}
use Rattle.woot.specs.Placing.{held}
use Rattle.woot.specs.Form.{well_formed}
use Rattle.woot.specs.Pending.{executable, crossed, drain, drain_steps, drained}
use Rattle.answers.specs.Answers.{done, reply, first, decided, NoneHolds}
use Rattle.bulk.specs.Building.{once, building, left_out, built, heap_full, disagree, disagreeing, build_checks, BuildOutcome, unbuilt, build}
use Rattle.lists.specs.Lists.{any, every, keep}
use Rattle.lists.proofs.Tests.{some-eq, no-some, either, agree, clash, fails, and_intro, and_left_lem, and_right, not-intro}
use Rattle.lists.proofs.Members.{any_member, member_any, every_member, member_every, keep_member, member_keep}
use Rattle.convergence.specs.Building.{BuildRefuses, BuildNumbers, BuildDoes, RefusedUnbuilt, HeapDisagrees, each_ready, FromHeap, AllOfHeap, BuiltAsReceived, BuiltAsExhausted, BuiltSequence, LeftOutAre, Needs, LeftOutDrags, TogglesLeftOut, LeftOutCount, LeftOutOnce, Reordered, BuiltInAnyOrder, RepeatsCountOnce, BuiltClock, BuiltFormed, BuiltNothing, BuildBounded}
use Rattle.convergence.specs.Agreement.{Grown}
use Rattle.convergence.proofs.Clocks.{heard-all-number}
use Rattle.convergence.proofs.Faithful.{inserts-append, toggles-append}
use Rattle.convergence.proofs.Identifiers.{same-eq, eq-same}
use Rattle.convergence.proofs.Drains.{draining}
use Rattle.convergence.proofs.Draining.{drained_balance}
use Rattle.convergence.proofs.Steps.{Turned, first-none, first_some}
use Rattle.convergence.proofs.Refusals.{decided_exactly}
use Rattle.convergence.proofs.Replies.{answer-number, none_first, turned_undone, never-refused}
use Rattle.convergence.proofs.Equal.{insert-same, insert-refl, operation_same, operation_refl}
use Rattle.convergence.proofs.Heap.{insert-listed, listed-insert, once-among, among-once, agreeing, heap_ended}
use Rattle.convergence.proofs.Sequences.{received-built, ready_built}
use Rattle.convergence.proofs.Built.{inside-not, left-to, left-from, heap_received, heap_formed, once-inserts}
use Rattle.convergence.proofs.Counting.{subject, left_unheld}
use Rattle.convergence.proofs.Heaped.{Accepted, wholly, none-accepted, build-turned, Verdict, turned, accepted, verdict}
use Rattle.convergence.proofs.Alike.{Alike, alike-back, alike-built, left-distinct, heard-all-from, heard-all_most}

-- ---- the answer

pub build_refuses : BuildRefuses
unfolding build unbuilt
build_refuses n heap r =
    decided_exactly unbuilt (λ b. b.answer) (λ x. refl) (build_checks n heap) (wholly n heap) (Refused r)
    (never-refused r)

pub build_numbers : BuildNumbers
build_numbers n heap r =
    let m = answer-number (build n heap).answer r in
    let b = build_refuses n heap r in
    (λ h. b.0 (m.0 h), λ h. m.1 (b.1 h))

pub build_does : BuildDoes
unfolding build decided unbuilt reply
build_does n heap = (go (first (build_checks n heap)) refl, λ w. rw (none_first (build_checks n heap) w))
  where
    go : (m : Option Answer) → first (build_checks n heap) ≡ m
        → (reply (decided unbuilt m (wholly n heap)).answer).word ≡ done → NoneHolds (build_checks n heap)
    go none e h = first-none (build_checks n heap) e
    go (some a) e h =
        absurd (turned_undone a (first_some Turned (build_checks n heap) (build-turned n heap) a e) h)

pub refused-unbuilt : RefusedUnbuilt
unfolding unbuilt
refused-unbuilt n heap r = go (verdict n heap)
  where
    go : {b : BuildOutcome} → Verdict n heap b → b.answer ≡ Refused r → b ≡ unbuilt (Refused r)
    go (turned a t) h = ap unbuilt h
    go (accepted a) h = absurd (never-refused r h)

-- where it is done the conditions do not hold, and it is what the rule builds
pub record Built (n : ℕ) (heap : List Operation) : Type 0 where
  pub well : Accepted n heap
  pub whole : build n heap ≡ wholly n heap

pub built_of : (n : ℕ) (heap : List Operation) → (reply (build n heap).answer).word ≡ done → Built n heap
unfolding build decided
built_of n heap h =
    let w = (build_does n heap).0 h in
    record { well = none-accepted n heap w; whole = rw (none_first (build_checks n heap) w) }

pub heap_disagrees : HeapDisagrees
unfolding disagreeing disagree
heap_disagrees heap = (to, from)
  where
    to : disagreeing (inserts heap) ≡ true
        → (i : Insert) × (j : Insert) × Memᴰ (insert i) heap × Memᴰ (insert j) heap × (i.id ≡ j.id)
        × (i ≡ j → ⊥)
    to h =
        let v = any_member (λ i. any (disagree i) (inserts heap)) (inserts heap) h in
        let w = any_member (disagree v.0) (inserts heap) v.2 in
        let i = v.0 in
        let j = w.0 in
        let other = not-true (same_insert i j) (and_right (same i.id j.id) (not (same_insert i j)) w.2) in (
          i,
          j,
          insert-listed heap v.1,
          insert-listed heap w.1,
          same-eq i.id j.id (and_left_lem (same i.id j.id) (not (same_insert i j)) w.2),
          λ e. clash (subst (λ (k : Insert). same_insert i k ≡ true) e (insert-refl i)) other,
        )

    from : ((i : Insert) × (j : Insert) × Memᴰ (insert i) heap × Memᴰ (insert j) heap × (i.id ≡ j.id)
        × (i ≡ j → ⊥))
        → disagreeing (inserts heap) ≡ true
    from w =
        let other = fails (same_insert w.0 w.1) (λ h. w.5 (insert-same w.0 w.1 h)) in
        member_any (λ i. any (disagree i) (inserts heap)) (listed-insert heap w.2)
        (member_any (disagree w.0) (listed-insert heap w.3) (and_intro (eq-same w.4) (not-intro other)))

-- ---- the characters

pub built_as_received : BuiltAsReceived
unfolding built
built_as_received n m heap os h site from ready all =
    let b = built_of n heap h in
    ap (λ (o : BuildOutcome). o.state.characters) b.whole
    ∙ heap_received m heap os site b.well.ranged b.well.agreed b.well.few-inserts from ready all

pub built_as_exhausted : BuiltAsExhausted
unfolding built
built_as_exhausted n m heap os h site from ready rest =
    let b = built_of n heap h in
    let c = agreeing heap b.well.agreed in
    ap (λ (o : BuildOutcome). o.state.characters) b.whole
    ∙ received-built heap c b.well.ranged b.well.few-inserts m site os from ready rest

pub built-sequence : BuiltSequence
unfolding left_out
built-sequence n m heap h site =
    let b = built_of n heap h in
    let c = agreeing heap b.well.agreed in
    let e = heap_ended heap b.well.ranged c in
    subst
    (λ (o : BuildOutcome). FromHeap heap o.integrated ×
    (each_ready (initial m) o.integrated ≡ true) × AllOfHeap heap o.integrated)
    (sym b.whole) (
      λ o k. once-among heap (e.integrated o k).0,
      ready_built heap c b.well.ranged b.well.few-inserts m site,
      λ o k. ⊎_elim (λ v. inl v)
          (λ v. inr (⊎_elim (λ u. Memᴰ.append_left (building heap).discarded u)
          (λ u. Memᴰ.append_right (building heap).pending u) v))
          (e.accounted o (among-once heap k)),
    )

-- ---- what is left out

pub left-out-are : LeftOutAre
unfolding built
left-out-are n heap h o =
    let b = built_of n heap h in
    let c = agreeing heap b.well.agreed in
    subst
    (λ (w : BuildOutcome).
    Memᴰ o (left_out heap)
    ↔ (Memᴰ o heap × ((executable w.state.characters o ≡ false) ⊎ (crossed w.state.characters o ≡ true))))
    (sym b.whole)
    (left-to heap b.well.ranged c o, λ w. left-from heap b.well.ranged c o w.0 w.1)

pub left-out_drags : LeftOutDrags
unfolding executable subject
left-out_drags n heap h i o m k needs =
    let b = built_of n heap h in
    let c = agreeing heap b.well.agreed in
    let absent : held (building heap).characters i.id ≡ false = left_unheld heap b.well.ranged c (insert i) m in
    left-from heap b.well.ranged c o k (inl (unready (building heap).characters o absent needs))
  where
    unready : (cs : List Character) (p : Operation) → held cs i.id ≡ false → Needs p i.id
        → executable cs p ≡ false
    unready cs (insert j) e (inl q) = rw (ap (held cs) q ∙ e)
    unready cs (insert j) e (inr q) =
        fails (held cs j.previous && held cs j.next)
        (λ f. clash (and_right (held cs j.previous) (held cs j.next) f) (ap (held cs) q ∙ e))
    unready cs (toggle t) e q = ap (held cs) q ∙ e

pub toggles-left-out : TogglesLeftOut
unfolding executable crossed
toggles-left-out n heap h t =
    let w = left-out-are n heap h (toggle t) in (
      λ m. let v = w.0 m in (v.0, ⊎_elim (λ e. e) (λ e. clash e refl) v.1),
      λ v. w.1 (v.0, inl v.1),
    )

pub left-out-count : LeftOutCount
left-out-count n heap h = ap (λ (o : BuildOutcome). o.answer) (built_of n heap h).whole

pub left-out-once : LeftOutOnce
unfolding left_out
left-out-once n heap h =
    let b = built_of n heap h in
    let c = agreeing heap b.well.agreed in
    let e = heap_ended heap b.well.ranged c in
    let to = left-to heap b.well.ranged c in (
      left-distinct heap,
      λ o m. (to o m).0,
      λ o m. subst (λ (w : BuildOutcome). (Memᴰ o (left_out heap) → ⊥) ↔ Memᴰ o w.integrated)
          (sym b.whole) (
            λ f. ⊎_elim (λ v. v)
                (λ v. absurd (f (⊎_elim (λ u. Memᴰ.append_left (building heap).discarded u)
                (λ u. Memᴰ.append_right (building heap).pending u) v)))
                (e.accounted o (among-once heap m)),
            λ k l. inside-not e.grown o (e.integrated o k).1 (to o l).1,
          ),
    )

-- ---- heaps that come to the same

pub accepted-whole : (n : ℕ) (heap : List Operation) → Accepted n heap → build n heap ≡ wholly n heap
unfolding build decided build_checks heap_full
accepted-whole n heap a =
    let ranges : (site_number n && every in_range heap) ≡ true = and_intro a.site a.ranged in
    let inserted = le-ltb capacity (length (inserts heap)) a.few-inserts in
    let toggled = le-ltb capacity (length (toggles_among heap)) a.few-toggles in
    let agreed = a.agreed in
    rw (ranges, inserted, toggled, agreed)

-- two that are accepted and have the same operations
alike-whole : (n : ℕ) (heap other : List Operation) → Accepted n heap → Accepted n other → Alike heap other
    → ((build n heap).answer ≡ (build n other).answer) × ((build n heap).state ≡ (build n other).state)
alike-whole n heap other p q a =
    let w = alike-built n heap other p q a in
    let e = accepted-whole n heap p in
    let f = accepted-whole n other q in (
      ap (λ (o : BuildOutcome). o.answer) e ∙ ap (Done 0) w.0 ∙ sym (ap (λ (o : BuildOutcome). o.answer) f),
      ap (λ (o : BuildOutcome). o.state) e ∙ w.1 ∙ sym (ap (λ (o : BuildOutcome). o.state) f),
    )

alike-every : {heap other : List Operation} (p : Operation → Bool) → Alike heap other → every p heap ≡ true
    → every p other ≡ true
alike-every {heap} {other} p a h = member_every p other (λ o m. every_member p h ((a o).1 m))

alike_disagrees : {heap other : List Operation} → Alike heap other → disagreeing (inserts heap) ≡ true
    → disagreeing (inserts other) ≡ true
alike_disagrees {heap} {other} a h =
    let w = (heap_disagrees heap).0 h in
    (heap_disagrees other).1 (w.0, w.1, (a (insert w.0)).0 w.2, (a (insert w.1)).0 w.3, w.4, w.5)

-- ---- in another order

some_member : {A : Type 0} (xs : List A) → 0 < length xs → (x : A) × Memᴰ x xs
some_member [] h = absurd (omega arith)
some_member (x ∷ xs) h = (x, Memᴰ.head refl)

member_some : {A : Type 0} {x : A} (xs : List A) → Memᴰ x xs → 0 < length xs
member_some [] m = absurd (Memᴰ.not-nil m)
member_some (y ∷ ys) m = omega arith

-- as many of every kind, so the same operations
reordered_member : {heap other : List Operation} → Reordered heap other → (o : Operation) → Memᴰ o heap
    → Memᴰ o other
reordered_member {heap} {other} r o m =
    let there = member_some (keep (same_operation o) heap) (member_keep (same_operation o) m (operation_refl o)) in
    let w = some_member (keep (same_operation o) other) (omega (arith, there, r (same_operation o))) in
    let v = keep_member (same_operation o) other w.1 in
    subst (λ p. Memᴰ p other) (sym (operation_same o w.0 v.1)) v.0

reordered_alike : {heap other : List Operation} → Reordered heap other → Alike heap other
reordered_alike r o = (reordered_member r o, reordered_member (λ kind. sym (r kind)) o)

is_insert : Operation → Bool
is_insert (insert i) = true
is_insert (toggle t) = false

inserts_kind : (os : List Operation) → length (keep is_insert os) ≡ length (inserts os)
unfolding is_insert
inserts_kind [] = refl
inserts_kind (insert i ∷ os) = ap suc (inserts_kind os)
inserts_kind (toggle t ∷ os) = inserts_kind os

toggles_kind : (os : List Operation) → length (keep (λ o. not (is_insert o)) os) ≡ length (toggles_among os)
unfolding is_insert
toggles_kind [] = refl
toggles_kind (insert i ∷ os) = toggles_kind os
toggles_kind (toggle t ∷ os) = ap suc (toggles_kind os)

-- so each condition holds of both or of neither
reordered_checks : (n : ℕ) (heap other : List Operation) → Reordered heap other
    → build_checks n heap ≡ build_checks n other
unfolding build_checks heap_full
reordered_checks n heap other r =
    let a : Alike heap other = reordered_alike r in
    let ranges = agree (every in_range heap) (every in_range other) (alike-every in_range a)
    (alike-every in_range (alike-back a)) in
    let inserted = sym (inserts_kind heap) ∙ r is_insert ∙ inserts_kind other in
    let toggled = sym (toggles_kind heap) ∙ r (λ o. not (is_insert o)) ∙ toggles_kind other in
    let agreed = agree (disagreeing (inserts heap)) (disagreeing (inserts other)) (alike_disagrees a)
    (alike_disagrees (alike-back a)) in
    rw (ranges, inserted, toggled, agreed)

pub built_in_any-order : BuiltInAnyOrder
unfolding build decided unbuilt
built_in_any-order n heap other r = go (first (build_checks n heap)) refl (first (build_checks n other)) refl
  where
    alike : first (build_checks n heap) ≡ first (build_checks n other)
    alike = ap first (reordered_checks n heap other r)

    whole : Option Answer → List Operation → BuildOutcome
    whole m os = decided unbuilt m (wholly n os)

    go : (m : Option Answer) → first (build_checks n heap) ≡ m → (k : Option Answer) → first (build_checks n other) ≡ k
        → ((whole m heap).answer ≡ (whole k other).answer) × ((whole m heap).state ≡ (whole k other).state)
    go none e none f =
        let w =
        alike-built n heap other (none-accepted n heap (first-none (build_checks n heap) e))
        (none-accepted n other (first-none (build_checks n other) f)) (reordered_alike r)
        in
        (ap (Done 0) w.0, w.1)
    go none e (some b) f = no-some (sym e ∙ alike ∙ f)
    go (some a) e none f = no-some (sym f ∙ sym alike ∙ e)
    go (some a) e (some b) f = let same_answer = some-eq (sym e ∙ alike ∙ f) in (same_answer, refl)

pub repeats_count-once : RepeatsCountOnce
repeats_count-once n heap repeats from h =
    let a = (built_of n (repeats ++ heap) h).well in
    alike-whole n (repeats ++ heap) heap a (fewer a) alike
  where
    alike : Alike (repeats ++ heap) heap
    alike o =
        (λ m. ⊎_elim (λ k. from o k) (λ k. k) (Memᴰ.append_cases repeats m), λ m. Memᴰ.append_right repeats m)

    fewer : Accepted n (repeats ++ heap) → Accepted n heap
    fewer a =
        record {
          site = a.site;
          ranged = alike-every in_range alike a.ranged;
          few-inserts =
              omega (
                arith,
                a.few-inserts,
                ap length (inserts-append repeats heap),
                length-append (inserts repeats) (inserts heap),
              );
          few-toggles =
              omega (
                arith,
                a.few-toggles,
                ap length (toggles-append repeats heap),
                length-append (toggles_among repeats) (toggles_among heap),
              );
          agreed = fails (disagreeing (inserts heap)) (λ d. clash (alike_disagrees (alike-back alike) d) a.agreed);
        }

-- ---- the state

pub built_clock : BuiltClock
unfolding built initial
built_clock n heap h =
    subst
    (λ (w : BuildOutcome).
    (w.state.site.number ≡ n)
    × ((i : Insert) → Memᴰ (insert i) heap → i.id.site ≡ n → i.id.clock ≤ w.state.site.clock)
    × ((w.state.site.clock ≡ 0)
    ⊎ ((i : Insert) × Memᴰ (insert i) heap × (i.id.site ≡ n) × (w.state.site.clock ≡ i.id.clock))))
    (sym (built_of n heap h).whole) (
      heard-all-number (initial n).site (inserts heap),
      λ i m e. heard-all_most (initial n).site (inserts heap) (listed-insert heap m) e,
      ⊎_elim (λ e. inl e) (λ w. inr (w.0, insert-listed heap w.1, w.2, w.3))
          (heard-all-from (initial n).site (inserts heap)),
    )

pub built-formed : BuiltFormed
unfolding built
built-formed n heap h =
    let b = built_of n heap h in
    let f = heap_formed n heap b.well.site b.well.ranged b.well.agreed b.well.few-inserts in
    subst (λ (w : BuildOutcome). (w.state.pending ≡ []) × (well_formed w.state ≡ true) × Grown
    w.state.characters)
    (sym b.whole) (refl, f.0, f.1)

pub built-nothing : BuiltNothing
unfolding build decided build_checks heap_full disagreeing built building left_out once drain drain_steps drained initial
built-nothing n e = rw e

once-length : (os : List Operation) → length (once os) ≤ length os
unfolding once
once-length [] = omega arith
once-length (o ∷ os) =
    ⊎_elim (λ e. rw e (omega (arith, once-length os))) (λ e. rw e (omega (arith, once-length os)))
    (either (any (same_operation o) os))

left-length : (heap : List Operation) → length (left_out heap) ≤ length heap
unfolding left_out building
left-length heap =
    omega (
      arith,
      length-append (building heap).pending (building heap).discarded,
      drained_balance (draining [] (once heap)),
      once-length heap,
    )

both-kinds : (os : List Operation) → length os ≡ length (inserts os) + length (toggles_among os)
both-kinds [] = refl
both-kinds (insert i ∷ os) = omega (arith, both-kinds os)
both-kinds (toggle t ∷ os) = omega (arith, both-kinds os)

pub build-bounded : BuildBounded
unfolding unbuilt built initial reply
build-bounded n heap = bounded (verdict n heap)
  where
    bounded : {b : BuildOutcome} → Verdict n heap b
        → ((reply b.answer).discarded ≤ 2048) × (length b.state.characters ≤ 1024)
    bounded (turned (Done _ _) t) = elim t [ ]
    bounded (turned Rattle.answers.specs.declared.Answer.TheVariants.Deferred t) = elim t [ ]
    bounded (turned Duplicate t) = (omega arith, omega arith)
    bounded (turned (Refused r) t) = (omega arith, omega arith)
    bounded (accepted a) = (
      omega (arith, left-length heap, both-kinds heap, a.few-inserts, a.few-toggles),
      omega (arith, (heap_ended heap a.ranged (agreeing heap a.agreed)).count, once-inserts heap, a.few-inserts),
    )
