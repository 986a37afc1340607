-- What a heap builds is complete: each of its operations was carried out, crosses or lacks something at the end.
use Prim.Native.Nat.{ℕ}
use native.Mathlib.Omega.{arith}
use mathlib.Core.Path.{◌≡◌, refl, ap, sym, ◌∙◌, subst}
use mathlib.Core.Bool.{Bool, true, false, ◌&&◌, not, cond}
use mathlib.Core.Logic.{◌⊎◌, inl, inr, ⊎_elim}
use mathlib.Core.List.Memᴰ
use mathlib.Core.List.{List, [], ◌∷◌, Memᴰ}
use Rattle.woot.specs.declared.Identifier.{Identifier}
use Rattle.woot.specs.declared.Insert.{Insert}
use Rattle.woot.specs.declared.Operation.{Operation}
use Rattle.woot.specs.declared.Operation.TheVariants.{Insert as insert, Toggle as toggle}
use Rattle.woot.specs.Identifiers.{same}
use Rattle.woot.specs.Operations.{inserts, same_insert, same_operation}
use Rattle.woot.specs.Ranges.{in_range}
use Rattle.woot.specs.Pending.{executable}
use Rattle.lists.specs.Lists.{any, every, distinct}
use Rattle.lists.proofs.Tests.{clash, and_intro, and-false, not-intro, fails}
use Rattle.lists.proofs.Members.{any_member, any_none, none_any, every_member, member_every}
use Rattle.convergence.specs.Invariants.{pending_ids}
use Rattle.convergence.proofs.Identifiers.{same-eq, eq-same}
use Rattle.convergence.proofs.Growth.{grown-empty}
use Rattle.bulk.specs.Building.{once, building, disagree, disagreeing}
use Rattle.convergence.proofs.Equal.{insert-same, operation_same, operation_refl}
use Rattle.convergence.proofs.Unique.{Consistent, Complete}
use Rattle.convergence.proofs.Progress.{completed}
use Rattle.convergence.proofs.Offering.{Offered, Ended, ended}
use Rattle.convergence.proofs.Drains.{draining}
use borrow.Author.Tests.{not-false}

-- ---- the inserts among operations

pub insert-listed : (os : List Operation) {i : Insert} → Memᴰ i (inserts os) → Memᴰ (insert i) os
insert-listed [] {i = i} m = elim m [ ]
insert-listed (insert j ∷ os) (Memᴰ.head e) = Memᴰ.head (ap insert e)
insert-listed (insert j ∷ os) (Memᴰ.tail m) = Memᴰ.tail (insert-listed os m)
insert-listed (toggle t ∷ os) m = Memᴰ.tail (insert-listed os m)

pub listed-insert : (os : List Operation) {i : Insert} → Memᴰ (insert i) os → Memᴰ i (inserts os)
listed-insert [] {i = i} x' = elim x' [ ]
listed-insert (insert j ∷ os) (Memᴰ.head e) = Memᴰ.head (insert-eq e)
  where
    insert-eq : {i j : Insert} → insert i ≡ insert j → i ≡ j
    insert-eq e = cc
listed-insert (insert j ∷ os) (Memᴰ.tail m) = Memᴰ.tail (listed-insert os m)
listed-insert (toggle t ∷ os) (Memᴰ.head e) = absurd (let z : ◌≡◌ {A = ℕ} 0 1 = cc in omega arith)
listed-insert (toggle t ∷ os) (Memᴰ.tail m) = listed-insert os m

-- ---- each once

pub once-among : (os : List Operation) {o : Operation} → Memᴰ o (once os) → Memᴰ o os
unfolding once
once-among [] {o = o} m = elim m [ ]
once-among (p ∷ os) {o} m = go (any (same_operation p) os) refl m (λ n. once-among os n)
  where
    go : (b : Bool) → any (same_operation p) os ≡ b → Memᴰ o (cond b (once os) (p ∷ once os))
        → (Memᴰ o (once os) → Memᴰ o os) → Memᴰ o (p ∷ os)
    go true e n r = Memᴰ.tail (r n)
    go false e n r = ⊎_elim (λ f. Memᴰ.head f) (λ k. Memᴰ.tail (r k)) (Memᴰ.cases_cons n)

pub among-once : (os : List Operation) {o : Operation} → Memᴰ o os → Memᴰ o (once os)
unfolding once
among-once [] {o = o} m = elim m [ ]
among-once (p ∷ os) {o} m = go (any (same_operation p) os) refl (Memᴰ.cases_cons m) (λ n. among-once os n)
  where
    go : (b : Bool) → any (same_operation p) os ≡ b → (o ≡ p) ⊎ Memᴰ o os
        → (Memᴰ o os → Memᴰ o (once os)) → Memᴰ o (cond b (once os) (p ∷ once os))
    go true e (inl f) r =
        let w = any_member (same_operation p) os e in r
        (subst (λ (q : Operation). Memᴰ q os) (sym (f ∙ operation_same p w.0 w.2)) w.1)
    go true e (inr n) r = r n
    go false e (inl f) r = Memᴰ.head f
    go false e (inr n) r = Memᴰ.tail (r n)

insert-of : (os : List Operation) {x : Identifier} → Memᴰ x (pending_ids os)
    → (i : Insert) × Memᴰ (insert i) os × (x ≡ i.id)
insert-of [] m = elim m [ ]
insert-of (insert i ∷ os) (Memᴰ.head e) = (i, Memᴰ.head refl, e)
insert-of (insert i ∷ os) (Memᴰ.tail m) = let w = insert-of os m in (w.0, Memᴰ.tail w.1, w.2)
insert-of (toggle t ∷ os) m = let w = insert-of os m in (w.0, Memᴰ.tail w.1, w.2)

tail_consistent : {o : Operation} {os : List Operation} → Consistent (o ∷ os) → Consistent os
tail_consistent c i j m n e = c i j (Memᴰ.tail m) (Memᴰ.tail n) e

pub once-apart : (os : List Operation) → Consistent os → distinct same (pending_ids (once os)) ≡ true
unfolding once
once-apart [] c = refl
once-apart (insert i ∷ os) c = go (any (same_operation (insert i)) os) refl (once-apart os (tail_consistent c))
  where
    new : any (same_operation (insert i)) os ≡ false → (x : Identifier) → Memᴰ x (pending_ids (once os))
        → same i.id x ≡ false
    new e x m =
        fails (same i.id x) (λ f.
        let w = insert-of (once os) m in
        let n = once-among os w.1 in
        let same-one : i ≡ w.0 = c i w.0 (Memᴰ.head refl) (Memᴰ.tail n) (same-eq i.id x f ∙ w.2) in
        clash (subst (λ (j : Insert). same_operation (insert i) (insert j) ≡ true) same-one (operation_refl (insert i)))
        (any_none (same_operation (insert i)) e n))

    go : (b : Bool) → any (same_operation (insert i)) os ≡ b → distinct same (pending_ids (once os)) ≡ true
        → distinct same (pending_ids (cond b (once os) (insert i ∷ once os))) ≡ true
    go true e r = r
    go false e r = and_intro (not-intro (none_any (same i.id) (pending_ids (once os)) (new e))) r
once-apart (toggle t ∷ os) c = go (any (same_operation (toggle t)) os) (once-apart os (tail_consistent c))
  where
    go : (b : Bool) → distinct same (pending_ids (once os)) ≡ true
        → distinct same (pending_ids (cond b (once os) (toggle t ∷ once os))) ≡ true
    go true r = r
    go false r = r

pub heap_offered : (heap : List Operation) → every in_range heap ≡ true → Consistent heap → Offered [] (once heap)
heap_offered heap r c =
    record {
      ranged = member_every in_range (once heap) (λ o m. every_member in_range r (once-among heap m));
      apart = once-apart heap c;
    }

pub heap_ended : (heap : List Operation) → every in_range heap ≡ true → Consistent heap
    → Ended heap [] (once heap) (building heap)
unfolding building
heap_ended heap r c =
    ended heap (draining [] (once heap)) (heap_offered heap r c) grown-empty (λ o m. once-among heap m)

-- the heap has been carried out as far as it can be
pub built-complete : (heap : List Operation) → every in_range heap ≡ true → Consistent heap
    → Complete heap (building heap).characters
built-complete heap r c =
    let e = heap_ended heap r c in
    completed heap e.grown e.progress
    (λ o m. ⊎_elim (λ s. inl s) (λ n. inr (any_none (executable (building heap).characters) e.unready n))
    (e.settled o (among-once heap m)))

-- ---- refusal 7

pub agreeing : (heap : List Operation) → disagreeing (inserts heap) ≡ false → Consistent heap
unfolding disagreeing disagree
agreeing heap d i j m n e =
    let a = any_none (λ i. any (λ j. same i.id j.id && not (same_insert i j)) (inserts heap)) d
    (listed-insert heap m) in
    let b = any_none (λ j. same i.id j.id && not (same_insert i j)) a (listed-insert heap n) in
    insert-same i j (not-false (same_insert i j)
    (and-false (same i.id j.id) (not (same_insert i j)) b (eq-same e)))
