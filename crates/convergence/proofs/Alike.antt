-- Heaps with the same operations, in whatever order and however often, build the same: the characters by uniqueness,
-- the count since no operation is left out twice, and the clock since it is the largest of the same clocks.
use Prim.Native.Nat.{ℕ, ◌≤◌, ◌<◌, max}
use native.Mathlib.Omega.{arith}
use mathlib.Core.Path.{◌≡◌, refl, sym, ◌∙◌, subst}
use mathlib.Core.Bool.{Bool, true, false, cond}
use mathlib.Core.Logic.{◌↔◌, ◌⊎◌, inl, inr, ⊎_elim}
use mathlib.Core.List.Memᴰ
use mathlib.Core.List.{List, [], ◌∷◌, ◌++◌, append-nil, Memᴰ}
use lib.Dec.{eqb}
use lib.ListN.{length}
use borrow.Author.Tests.{eqb-true}
use Rattle.woot.specs.declared.Insert.{Insert}
use Rattle.woot.specs.declared.Operation.{Operation}
use Rattle.woot.specs.declared.Operation.TheVariants.{Insert as insert, Toggle as toggle}
use Rattle.woot.specs.declared.Character.{Character}
use Rattle.woot.specs.declared.Site.{Site}
use Rattle.woot.specs.Operations.{inserts, same_operation}
use Rattle.woot.specs.State.{initial}
use Rattle.woot.specs.Clock.{own_insert, heard, heard_all}
use Rattle.woot.specs.Pending.{executable, crossed, Drained, and_integrated, and_discarded, drained}
use Rattle.bulk.specs.Building.{once, building, left_out, built}
use Rattle.lists.specs.Lists.{any, distinct}
use Rattle.lists.proofs.Tests.{either, side, agree, and_intro, not-intro}
use Rattle.lists.proofs.Members.{any_none, none_any, every_member}
use Rattle.convergence.proofs.Extract.{Extract, front, extract_append, extract_old, extract_itself, extract_cases, distinct_extract, extract_distinct, no_more}
use Rattle.convergence.proofs.Clocks.{reaches, reaches_clock, heard-number, heard-all-number, heard-all_clock, heard-all_reaches, reached-ids}
use Rattle.convergence.proofs.Drains.{Draining, stop, discard, carry, draining}
use Rattle.convergence.proofs.Equal.{operation_same, operation_refl}
use Rattle.convergence.proofs.Unique.{Complete, complete-unique}
use Rattle.convergence.proofs.Heap.{insert-listed, listed-insert, once-among, agreeing, built-complete}
use Rattle.convergence.proofs.Built.{left-to, left-from}
use Rattle.convergence.proofs.Heaped.{Accepted}

-- ---- none is left out twice

operation_sym : (o p : Operation) → same_operation o p ≡ same_operation p o
operation_sym o p = agree (same_operation o p) (same_operation p o) (turned o p) (turned p o)
  where
    turned : (o p : Operation) → same_operation o p ≡ true → same_operation p o ≡ true
    turned o p h = subst (λ q. same_operation q o ≡ true) (operation_same o p h) (operation_refl o)

once-distinct : (os : List Operation) → distinct same_operation (once os) ≡ true
unfolding once
once-distinct [] = refl
once-distinct (o ∷ os) =
    ⊎_elim (λ e. rw e (once-distinct os))
    (λ e.
    let new = none_any (same_operation o) (once os) (λ p m. any_none (same_operation o) e (once-among os m)) in
    rw e (and_intro (not-intro new) (once-distinct os)))
    (either (any (same_operation o) os))

-- what is left of distinct operations is distinct, and of them
drained-distinct : {cs : List Character} {ps : List Operation} {d : Drained} → Draining cs ps d
    → distinct same_operation ps ≡ true
    → (distinct same_operation (d.pending ++ d.discarded) ≡ true)
    × ((o : Operation) → Memᴰ o (d.pending ++ d.discarded) → Memᴰ o ps)
unfolding drained and_discarded and_integrated
drained-distinct (stop {ps = ps} h) k = (
  subst (λ qs. distinct same_operation qs ≡ true) (sym (append-nil ps)) k,
  λ o m. subst (Memᴰ o) (append-nil ps) m,
)
drained-distinct {ps = ps} (discard {d = d} t f why r) k =
    let v = distinct_extract same_operation operation_sym f.extracted k in
    let w = drained-distinct r v.1 in
    let out : Extract t.operation (d.pending ++ d.discarded)
    (d.pending ++ t.operation ∷ d.discarded) = extract_append d.pending front in
    let new = none_any (same_operation t.operation) (d.pending ++ d.discarded)
    (λ o m. any_none (same_operation t.operation) v.0 (w.1 o m)) in (
      extract_distinct same_operation operation_sym out new w.0,
      λ o m. ⊎_elim (λ e. subst (λ p. Memᴰ p ps) (sym e) (extract_itself f.extracted))
          (λ n. extract_old f.extracted (w.1 o n)) (extract_cases out m),
    )
drained-distinct (carry t f uncrossed placeable r) k =
    let w = drained-distinct r (distinct_extract same_operation operation_sym f.extracted k).1 in
    (w.0, λ o m. extract_old f.extracted (w.1 o m))

pub left-distinct : (heap : List Operation) → distinct same_operation (left_out heap) ≡ true
unfolding left_out building
left-distinct heap = (drained-distinct (draining [] (once heap)) (once-distinct heap)).0

-- ---- the clock

-- one insert that is heard leaves it, or is an own one and gives its clock
heard-from : (t : Site) (i : Insert)
    → ((heard t i).clock ≡ t.clock) ⊎ ((i.id.site ≡ t.number) × ((heard t i).clock ≡ i.id.clock))
unfolding heard own_insert
heard-from t i = go (eqb i.id.site t.number) refl (side t.clock i.id.clock)
  where
    go : (b : Bool) → eqb i.id.site t.number ≡ b
        → (t.clock ≤ i.id.clock) ⊎ (i.id.clock < t.clock)
        → let u = cond b (record { number = t.number; clock = max t.clock i.id.clock }) t in
        (u.clock ≡ t.clock) ⊎ ((i.id.site ≡ t.number) × (u.clock ≡ i.id.clock))
    go true e (inl h) = inr (eqb-true i.id.site t.number e, omega arith)
    go true e (inr h) = inl (omega arith)
    go false e h = inl refl

-- it is the clock of one of the own inserts, or what it was
pub heard-all-from : (t : Site) (is : List Insert)
    → ((heard_all t is).clock ≡ t.clock)
    ⊎ ((i : Insert) × Memᴰ i is × (i.id.site ≡ t.number) × ((heard_all t is).clock ≡ i.id.clock))
heard-all-from t [] = inl refl
heard-all-from t (i ∷ is) =
    ⊎_elim (λ e. ⊎_elim (λ k. inl (e ∙ k)) (λ w. inr (i, Memᴰ.head refl, w.0, e ∙ w.1)) (heard-from t i))
    (λ w. inr (w.0, Memᴰ.tail w.1, w.2 ∙ heard-number t i, w.3))
    (heard-all-from (heard t i) is)

-- and not below any of theirs
pub heard-all_most : (t : Site) (is : List Insert) {i : Insert} → Memᴰ i is → i.id.site ≡ t.number
    → i.id.clock ≤ (heard_all t is).clock
heard-all_most t is {i} m e =
    let u = heard_all t is in
    let all = sym (reached-ids u is) ∙ heard-all_reaches t is in
    reaches_clock u i.id (every_member (reaches u) all (Memᴰ.map (λ (j : Insert). j.id) m))
    (e ∙ sym (heard-all-number t is))

-- ---- the same operations

abbrev pub Alike : List Operation → List Operation → Type 0
Alike heap other = (o : Operation) → Memᴰ o heap ↔ Memᴰ o other

pub alike-back : {heap other : List Operation} → Alike heap other → Alike other heap
alike-back a o = ((a o).1, (a o).0)

complete-alike : {heap other : List Operation} → Alike heap other → (cs : List Character) → Complete heap cs
    → Complete other cs
complete-alike a cs p =
    record {
      grown = p.grown;
      among = λ i m. (a (insert i)).0 (p.among i m);
      closed = λ i m b. p.closed i ((a (insert i)).1 m) b;
      at_least = λ t m c n e. p.at_least t ((a (toggle t)).1 m) c n e;
      attained =
          λ c m. ⊎_elim (λ z. inl z) (λ w. inr (w.0, (a (toggle w.0)).0 w.1, w.2, w.3)) (p.attained c m);
    }

-- no own insert is heard that the other does not have
clock_below : (t : Site) (is js : List Insert) → ((i : Insert) → Memᴰ i is → Memᴰ i js)
    → t.clock ≤ (heard_all t js).clock → (heard_all t is).clock ≤ (heard_all t js).clock
clock_below t is js f low =
    ⊎_elim (λ e. omega (arith, e, low)) (λ w. omega (arith, w.3, heard-all_most t js (f w.0 w.1) w.2))
    (heard-all-from t is)

module _ (n : ℕ) (heap other : List Operation) (p : Accepted n heap) (q : Accepted n other) (a : Alike heap other) where
  alike-characters : (building heap).characters ≡ (building other).characters
  alike-characters =
      let c = agreeing other q.agreed in
      complete-unique other c (building heap).characters (building other).characters
      (complete-alike a (building heap).characters (built-complete heap p.ranged (agreeing heap p.agreed)))
      (built-complete other q.ranged c)

pub alike-left : (n : ℕ) (heap other : List Operation) → Accepted n heap → Accepted n other → Alike heap other
    → (o : Operation) → Memᴰ o (left_out heap) → Memᴰ o (left_out other)
alike-left n heap other p q a o m =
    let w = left-to heap p.ranged (agreeing heap p.agreed) o m in
    left-from other q.ranged (agreeing other q.agreed) o ((a o).0 w.0)
    (subst (λ cs. (executable cs o ≡ false) ⊎ (crossed cs o ≡ true)) (alike-characters n heap other p q a) w.1)

alike-inserts : {heap other : List Operation} → Alike heap other → (i : Insert) → Memᴰ i (inserts heap)
    → Memᴰ i (inserts other)
alike-inserts {heap} {other} a i m = listed-insert other ((a (insert i)).0 (insert-listed heap m))

alike-site : (t : Site) (heap other : List Operation) → Alike heap other
    → heard_all t (inserts heap) ≡ heard_all t (inserts other)
alike-site t heap other a =
    let e : (heard_all t (inserts heap)).clock ≡ (heard_all t (inserts other)).clock = omega (
      arith,
      clock_below t (inserts heap) (inserts other) (alike-inserts a) (heard-all_clock t (inserts other)),
      clock_below t (inserts other) (inserts heap) (alike-inserts (alike-back a)) (heard-all_clock t (inserts heap)),
    ) in
    let f : (heard_all t (inserts heap)).number ≡ (heard_all t (inserts other)).number = heard-all-number t (inserts heap)
    ∙ sym (heard-all-number t (inserts other)) in
    λ k. record { number = f k; clock = e k }

pub alike-built : (n : ℕ) (heap other : List Operation) → Accepted n heap → Accepted n other → Alike heap other
    → (length (left_out heap) ≡ length (left_out other)) × (built n heap ≡ built n other)
unfolding built
alike-built n heap other p q a = (
  omega (
    arith,
    no_more same_operation operation_refl (left_out heap) (left_out other) (left-distinct heap)
        (alike-left n heap other p q a),
    no_more same_operation operation_refl (left_out other) (left_out heap) (left-distinct other)
        (alike-left n other heap q p (alike-back a)),
  ),
  λ k. record {
    site = alike-site (initial n).site heap other a k;
    characters = alike-characters n heap other p q a k;
    pending = [];
  },
)
