-- Places that are looked at one after another, and keys that rise from one to the next.
use Prim.Native.Nat.{ℕ, zero, suc, ◌+◌, ◌-◌, ◌≤◌, ◌<◌}
use native.Mathlib.Omega.{arith}
use mathlib.Core.Path.{◌≡◌, refl, ap, sym, ◌∙◌, subst}
use mathlib.Core.Bool.{true, false, not}
use mathlib.Core.Logic.{◌⊎◌, inl, inr, ⊎_elim}
use mathlib.Core.List.{List, [], ◌∷◌, Memᴰ}
use lib.Dec.{eqb, ltb}
use lib.ListN.{length, get_or, set, drop, replicate, length-set, length-drop, length-replicate, get_or-replicate}
use lib.Seq.{get_or-set_same, get_or-set_other, drop-cons}
use borrow.Author.Tests.{eqb-true, eqb-false, eq-eqb, lt-ltb, le-ltb, not-true}
use Rattle.lists.specs.Lists.{any, distinct}
use Rattle.lists.specs.Sorting.{rises_by}
use Rattle.lists.proofs.Tests.{either, side, clash, fails, and_left_lem, and_right, and_intro, not-intro}
use Rattle.lists.proofs.Members.{get_member, every_member, member_every, any_none, none_any}
use Rattle.woot.specs.Ranges.{within}
use Rattle.bulk.specs.Archiving.{each_once}
use Rattle.convergence.proofs.Ranges.{within_low, within-high, to-within}
use Rattle.arranging.specs.Order.{LeadsBack}

-- ---- numbers by their indices

-- where a member stands
pub member_index : {x : ℕ} {xs : List ℕ} → Memᴰ x xs → (j : ℕ) × (j < length xs) × (get_or xs j 0 ≡ x)
member_index (Memᴰ.head e) = (zero, omega arith, sym e)
member_index (Memᴰ.tail m) = let r = member_index m in (suc r.0, omega (arith, r.1), r.2)

distinct-index : (ns : List ℕ) → distinct eqb ns ≡ true → (j i : ℕ) → j < i → i < length ns → get_or ns j 0 ≡ get_or ns i 0 → ⊥
distinct-index [] d j i h k e = omega arith
distinct-index (n ∷ ns) d zero zero h k e = omega arith
distinct-index (n ∷ ns) d zero (suc i) h k e =
    clash (eq-eqb n (get_or ns i 0) e)
    (any_none (λ x. eqb n x) (not-true (any (eqb n) ns) (and_left_lem (not (any (eqb n) ns)) (distinct eqb ns) d)) (get_member ns i 0 (omega arith)))
distinct-index (n ∷ ns) d (suc j) zero h k e = omega arith
distinct-index (n ∷ ns) d (suc j) (suc i) h k e =
    distinct-index ns (and_right (not (any (eqb n) ns)) (distinct eqb ns) d) j i (omega arith) (omega arith) e

index-distinct : (ns : List ℕ) → ((j i : ℕ) → j < i → i < length ns → get_or ns j 0 ≡ get_or ns i 0 → ⊥) → distinct eqb ns ≡ true
index-distinct [] f = refl
index-distinct (n ∷ ns) f =
    and_intro
    (not-intro (none_any (eqb n) ns (λ x m.
    let r = member_index m in
    fails (eqb n x) (λ e. f zero (suc r.0) (omega arith) (omega (arith, r.1)) (eqb-true n x e ∙ sym r.2)))))
    (index-distinct ns (λ j i h k. f (suc j) (suc i) (omega arith) (omega arith)))

-- ---- places

-- how far the rows of the places have been found
pub record Finding (ns order : List ℕ) (i : ℕ) : Type 0 where
  pub reached : i ≤ length ns
  pub size : length order ≡ length ns
  pub ranged : (j : ℕ) → j < i → (1 ≤ get_or ns j 0) × (get_or ns j 0 ≤ length ns)
  pub found : (j : ℕ) → j < i → get_or order (get_or ns j 0 - 1) 0 ≡ j + 1
  pub free : (k : ℕ) → k < length ns → (get_or order k 0 ≡ 0) ⊎ ((j : ℕ) × (j < i) × (get_or ns j 0 ≡ k + 1))

pub finding_none : (ns order : List ℕ) → order ≡ replicate (length ns) 0 → Finding ns order 0
finding_none ns order e =
    record {
      reached = omega arith;
      size = ap length e ∙ length-replicate {A = ℕ} (length ns) 0;
      ranged = λ j h. absurd (omega (arith, h));
      found = λ j h. absurd (omega (arith, h));
      free = λ k h. inl (ap (λ (o : List ℕ). get_or o k 0) e ∙ get_or-replicate (length ns) k 0 0 h);
    }

module _ (ns order : List ℕ) (i : ℕ) (s : Finding ns order i) (more : i < length ns) where
  in-range : within 1 (length ns) (get_or ns i 0) ≡ false → each_once ns ≡ false
  unfolding each_once
  in-range h = fails _ (λ e. clash (every_member (within 1 (length ns)) (and_right (distinct eqb ns) _ e) (get_member ns i 0 more)) h)

  pub too_low : get_or ns i 0 < 1 → each_once ns ≡ false
  too_low h = in-range (fails _ (λ e. omega (arith, h, within_low 1 (length ns) (get_or ns i 0) e)))

  pub too_high : length ns < get_or ns i 0 → each_once ns ≡ false
  too_high h = in-range (fails _ (λ e. omega (arith, h, within-high 1 (length ns) (get_or ns i 0) e)))

  module _ (low : 1 ≤ get_or ns i 0) (high : get_or ns i 0 ≤ length ns) where
    pub taken : (get_or order (get_or ns i 0 - 1) 0 ≡ 0 → ⊥) → each_once ns ≡ false
    unfolding each_once
    taken h =
        ⊎_elim (λ e. absurd (h e))
        (λ r.
        let same : get_or ns r.0 0 ≡ get_or ns i 0 = omega (arith, r.2, low) in
        fails _ (λ e. distinct-index ns (and_left_lem (distinct eqb ns) _ e) r.0 i r.1 more same))
        (s.free (get_or ns i 0 - 1) (omega (arith, low, high)))

    pub finding_more : get_or order (get_or ns i 0 - 1) 0 ≡ 0 → Finding ns (set order (get_or ns i 0 - 1) (i + 1)) (i + 1)
    finding_more z =
        record {
          reached = omega (arith, more);
          size = length-set order (get_or ns i 0 - 1) (i + 1) ∙ s.size;
          ranged = λ j h. ⊎_elim (λ l. s.ranged j l) (λ l. own_range j (omega (arith, h, l))) (before j);
          found = λ j h. ⊎_elim (λ l. older j l) (λ l. own j (omega (arith, h, l))) (before j);
          free = opened;
        }
      where
        before : (j : ℕ) → (j < i) ⊎ (i ≤ j)
        before j = ⊎_elim (λ l. inr l) (λ l. inl l) (side i j)

        own_range : (j : ℕ) → j ≡ i → (1 ≤ get_or ns j 0) × (get_or ns j 0 ≤ length ns)
        own_range j e = subst (λ (k : ℕ). (1 ≤ get_or ns k 0) × (get_or ns k 0 ≤ length ns)) (sym e) (low, high)

        own : (j : ℕ) → j ≡ i → get_or (set order (get_or ns i 0 - 1) (i + 1)) (get_or ns j 0 - 1) 0 ≡ j + 1
        own j e =
            subst (λ (k : ℕ). get_or (set order (get_or ns i 0 - 1) (i + 1)) (get_or ns k 0 - 1) 0 ≡ k + 1) (sym e)
            (get_or-set_same order (get_or ns i 0 - 1) (i + 1) 0 (omega (arith, s.size, low, high)))

        older : (j : ℕ) → j < i → get_or (set order (get_or ns i 0 - 1) (i + 1)) (get_or ns j 0 - 1) 0 ≡ j + 1
        older j l =
            get_or-set_other order (get_or ns i 0 - 1) (get_or ns j 0 - 1) (i + 1) 0 (λ e.
            let r : get_or order (get_or ns j 0 - 1) 0 ≡ 0 = ap (λ (k : ℕ). get_or order k 0) e ∙ z in
            omega (arith, r, s.found j l))
            ∙ s.found j l

        opened : (k : ℕ) → k < length ns → (get_or (set order (get_or ns i 0 - 1) (i + 1)) k 0 ≡ 0) ⊎ ((j : ℕ) × (j < i + 1) × (get_or ns j 0 ≡ k + 1))
        opened k h = go (either (eqb k (get_or ns i 0 - 1)))
          where
            go : (eqb k (get_or ns i 0 - 1) ≡ true) ⊎ (eqb k (get_or ns i 0 - 1) ≡ false)
                → (get_or (set order (get_or ns i 0 - 1) (i + 1)) k 0 ≡ 0) ⊎ ((j : ℕ) × (j < i + 1) × (get_or ns j 0 ≡ k + 1))
            go (inl e) = inr (i, omega arith, omega (arith, eqb-true k (get_or ns i 0 - 1) e, low))
            go (inr e) =
                ⊎_elim (λ f. inl (get_or-set_other order (get_or ns i 0 - 1) k (i + 1) 0 (eqb-false k (get_or ns i 0 - 1) e) ∙ f))
                (λ r. inr (r.0, omega (arith, r.1), r.2)) (s.free k h)

pub finding_all : (ns order : List ℕ) (i : ℕ) → Finding ns order i → length ns ≤ i → (each_once ns ≡ true) × LeadsBack ns order
unfolding each_once LeadsBack
finding_all ns order i s h = (
  and_intro
      (index-distinct ns (λ j k l m e.
      let p = s.found j (omega (arith, l, m, h)) in
      let q = s.found k (omega (arith, m, h)) in
      let same : get_or order (get_or ns j 0 - 1) 0 ≡ get_or order (get_or ns k 0 - 1) 0 = ap (λ (n : ℕ). get_or order (n - 1) 0) e in
      omega (arith, p, q, same, l)))
      (member_every (within 1 (length ns)) ns (λ x m.
      let r = member_index m in
      let w = s.ranged r.0 (omega (arith, r.1, h)) in
      to-within 1 (length ns) x (omega (arith, w.0, r.2)) (omega (arith, w.1, r.2)))),
  λ j l. s.found j (omega (arith, l, h)),
)

-- ---- keys

module _ (ks : List ℕ) (i : ℕ) where
  two : i + 1 < length ks → drop i ks ≡ get_or ks i 0 ∷ get_or ks (i + 1) 0 ∷ drop (i + 2) ks
  two h =
      let e : suc i ≡ i + 1 = omega arith in
      let f : suc (i + 1) ≡ i + 2 = omega arith in
      drop-cons ks i 0 (omega arith)
      ∙ ap (λ (l : List ℕ). get_or ks i 0 ∷ l) (ap (λ (n : ℕ). drop n ks) e ∙ drop-cons ks (i + 1) 0 h ∙ ap (λ (n : ℕ). get_or ks (i + 1) 0 ∷ drop n ks) f)

  next : i + 1 < length ks → drop (i + 1) ks ≡ get_or ks (i + 1) 0 ∷ drop (i + 2) ks
  next h = let f : suc (i + 1) ≡ i + 2 = omega arith in drop-cons ks (i + 1) 0 h ∙ ap (λ (n : ℕ). get_or ks (i + 1) 0 ∷ drop n ks) f

  pub rises-on : (n : ℕ) → n ≡ i + 1 → n < length ks → get_or ks i 0 < get_or ks n 0 → rises_by ltb (drop i ks) ≡ rises_by ltb (drop n ks)
  rises-on n e h l = rw (e, two (rw e at h), next (rw e at h), lt-ltb (get_or ks i 0) (get_or ks (i + 1) 0) (rw e at l))

  pub rises-not : (n : ℕ) → n ≡ i + 1 → n < length ks → get_or ks n 0 ≤ get_or ks i 0 → rises_by ltb (drop i ks) ≡ false
  rises-not n e h l = rw (two (rw e at h), le-ltb (get_or ks i 0) (get_or ks (i + 1) 0) (rw e at l))

  pub rises-end : length ks ≤ i + 1 → rises_by ltb (drop i ks) ≡ true
  rises-end h = short (drop i ks) (omega (arith, length-drop i ks))
    where
      short : (l : List ℕ) → length l ≤ 1 → rises_by ltb l ≡ true
      short [] k = refl
      short (x ∷ []) k = refl
      short (x ∷ y ∷ l) k = absurd (omega arith)
