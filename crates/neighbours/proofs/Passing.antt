-- A row that is taken away while it is free belongs to no knot: a knot holds a neighbour of each of its rows. What a
-- pass comes to is what its steps come to, one after another.
use Prim.Native.Nat.{ℕ, zero, suc, ◌+◌, ◌-◌, ◌≤◌, ◌<◌}
use native.Mathlib.Omega.{arith}
use mathlib.Core.Path.{◌≡◌, refl, sym, ap, ap₂, ◌∙◌, subst}
use mathlib.Core.Bool.{Bool, true, false, ◌||◌, not, cond}
use mathlib.Core.List.{List}
use mathlib.Core.Logic.{◌⊎◌, inl, inr, ⊎_elim}
use borrow.Author.Tests.{ltb-false, eqb-true, eqb-false, eq-eqb, not-true}
use lib.Dec.{eqb, ltb}
use lib.ListN.{length, get_or, set, length-set, replicate, get_or-replicate}
use lib.Seq.{get_or-set_same, get_or-set_other}
use Rattle.lists.proofs.Tests.{side, either, clash, fails, and_intro, and_left_lem, and_right, or_cases, or_left, or_right}
use Rattle.lists.proofs.Tests.{not-intro}
use Rattle.neighbours.specs.Steps.{settled, free_at, unflagged, remaining, Knotted, Spared, Passed}
use Rattle.neighbours.specs.Steps.{Unknotted, Knot}

pub or-rest : (a b : Bool) → a || b ≡ true → a ≡ false → b ≡ true
or-rest a b h e = ⊎_elim (λ f. clash f e) (λ f. f) (or_cases a b h)

pub positive : (p : ℕ) → eqb p 0 ≡ false → 0 < p
positive zero e = clash (eq-eqb 0 0 refl) e
positive (suc p) e = omega arith

-- ---- fewer rows

-- what is settled stays so when fewer rows are left
narrower : (n : ℕ) (left wide : ℕ → Bool) → ((k : ℕ) → k < n → left k ≡ true → wide k ≡ true) → (p : ℕ)
    → settled wide n p ≡ true → settled left n p ≡ true
unfolding settled
narrower n left wide w p h = go (either (eqb p 0)) (either (ltb n p))
  where
    go : (eqb p 0 ≡ true) ⊎ (eqb p 0 ≡ false) → (ltb n p ≡ true) ⊎ (ltb n p ≡ false)
        → eqb p 0 || (ltb n p || not (left (p - 1))) ≡ true
    go (inl e) f = or_left (eqb p 0) (ltb n p || not (left (p - 1))) e
    go (inr e) (inl f) =
        or_right (eqb p 0) (ltb n p || not (left (p - 1))) (or_left (ltb n p) (not (left (p - 1))) f)
    go (inr e) (inr f) =
        let gone : wide (p - 1) ≡ false =
        not-true (wide (p - 1))
        (or-rest (ltb n p) (not (wide (p - 1))) (or-rest (eqb p 0) (ltb n p || not (wide (p - 1))) h e) f) in
        let inside : p - 1 < n = omega (arith, positive p e, ltb-false n p f) in
        or_right (eqb p 0) (ltb n p || not (left (p - 1)))
        (or_right (ltb n p) (not (left (p - 1)))
        (not-intro (fails (left (p - 1)) (λ g. clash (w (p - 1) inside g) gone))))

-- ---- one flag more

unflagged-other : (flags : List ℕ) (k j : ℕ) → (j ≡ k → ⊥) → unflagged (set flags k 1) j ≡ unflagged flags j
unfolding unflagged
unflagged-other flags k j n = ap (λ (x : ℕ). eqb x 0) (get_or-set_other flags k j 1 0 n)

flagged_here : (flags : List ℕ) (k : ℕ) → k < length flags → unflagged (set flags k 1) k ≡ false
unfolding unflagged
flagged_here flags k h = ap (λ (x : ℕ). eqb x 0) (get_or-set_same flags k 1 0 h)

abbrev one : Bool → ℕ
one b = cond b 1 0

remaining-before : (flags : List ℕ) (k n : ℕ) → n ≤ k → remaining (set flags k 1) n ≡ remaining flags n
unfolding remaining
remaining-before flags k zero h = refl
remaining-before flags k (suc n) h =
    ap₂ (λ (a b : ℕ). a + b) (remaining-before flags k n (omega arith))
    (ap one (unflagged-other flags k n (λ e. omega (arith, e))))

-- one row less is left
remaining-less : (flags : List ℕ) (k n : ℕ) → k < length flags → unflagged flags k ≡ true → k < n
    → remaining (set flags k 1) n + 1 ≡ remaining flags n
unfolding remaining
remaining-less flags k zero l o h = absurd (omega arith)
remaining-less flags k (suc n) l o h = ⊎_elim here (λ g. later g (remaining-less flags k n l o g)) (side n k)
  where
    here : n ≤ k → remaining (set flags k 1) (suc n) + 1 ≡ remaining flags (suc n)
    here g =
        let e : k ≡ n = omega arith in
        let before = remaining-before flags k n g in
        let after : one (unflagged (set flags k 1) n) ≡ 0 =
        ap one (subst (λ (j : ℕ). unflagged (set flags k 1) j ≡ false) e (flagged_here flags k l)) in
        let now : one (unflagged flags n) ≡ 1 = ap one (subst (λ (j : ℕ). unflagged flags j ≡ true) e o) in
        omega (arith, before, after, now)

    later : k < n → remaining (set flags k 1) n + 1 ≡ remaining flags n
        → remaining (set flags k 1) (suc n) + 1 ≡ remaining flags (suc n)
    later g before =
        let same : one (unflagged (set flags k 1) n) ≡ one (unflagged flags n) =
        ap one (unflagged-other flags k n (λ e. omega (arith, e))) in
        omega (arith, before, same)

-- ---- how many are left

one-few : (b : Bool) → one b ≤ 1
one-few true = omega arith
one-few false = omega arith

pub remaining-few : (flags : List ℕ) (n : ℕ) → remaining flags n ≤ n
unfolding remaining
remaining-few flags zero = omega arith
remaining-few flags (suc n) = omega (arith, remaining-few flags n, one-few (unflagged flags n))

-- at first all
pub unflagged-first : (m k : ℕ) → k < m → unflagged (replicate m 0) k ≡ true
unfolding unflagged
unflagged-first m k h = eq-eqb _ 0 (get_or-replicate m k 0 0 h)

pub remaining-first : (m n : ℕ) → n ≤ m → remaining (replicate m 0) n ≡ n
unfolding remaining
remaining-first m zero h = refl
remaining-first m (suc n) h =
    let e : one (unflagged (replicate m 0) n) ≡ 1 = ap one (unflagged-first m n (omega arith)) in
    omega (arith, e, remaining-first m n (omega arith))

-- where any is left it is one of them
pub remaining-some : (flags : List ℕ) (n : ℕ) → 0 < remaining flags n
    → (k : ℕ) × (k < n) × (unflagged flags k ≡ true)
unfolding remaining
remaining-some flags zero h = absurd (omega arith)
remaining-some flags (suc n) h = go (either (unflagged flags n)) (remaining-some flags n)
  where
    go : (unflagged flags n ≡ true) ⊎ (unflagged flags n ≡ false)
        → (0 < remaining flags n → (k : ℕ) × (k < n) × (unflagged flags k ≡ true))
        → (k : ℕ) × (k < suc n) × (unflagged flags k ≡ true)
    go (inl e) rest = (n, omega arith, e)
    go (inr e) rest =
        let z : one (unflagged flags n) ≡ 0 = ap one e in
        let r = rest (omega (arith, z, h)) in
        (r.0, omega (arith, r.1), r.2)

-- and else none of them is
pub remaining-none : (flags : List ℕ) (n : ℕ) → remaining flags n ≡ 0 → (k : ℕ) → k < n → unflagged flags k ≡ false
unfolding remaining
remaining-none flags zero z k h = absurd (omega arith)
remaining-none flags (suc n) z k h = ⊎_elim here (remaining-none flags n (omega (arith, z)) k) (side n k)
  where
    last : unflagged flags n ≡ false
    last = fails (unflagged flags n) (λ e. let f : one (unflagged flags n) ≡ 1 = ap one e in omega (arith, f, z))

    here : n ≤ k → unflagged flags k ≡ false
    here g = let e : n ≡ k = omega arith in subst (λ (j : ℕ). unflagged flags j ≡ false) e last

-- ---- steps and passes

module _ (above below : List ℕ) (n : ℕ) where
  -- a row that is taken away already, or not free
  pub stays : (k : ℕ) (flags : List ℕ)
      → (unflagged flags k ≡ true → free_at above below n (unflagged flags) k ≡ false)
      → Passed above below n (λ j. j ≡ k) flags flags 0
  stays k flags h =
      record {
        size = refl;
        spares = λ rows r w. w;
        counted = omega arith;
        same = λ e. refl;
        stuck = λ e j s o.
            subst (λ (i : ℕ). free_at above below n (unflagged flags) i ≡ false) (sym s)
            (h (subst (λ (i : ℕ). unflagged flags i ≡ true) s o));
      }

  -- one that is free
  pub goes : (k : ℕ) (flags : List ℕ) → k < n → n ≤ length flags → unflagged flags k ≡ true
      → free_at above below n (unflagged flags) k ≡ true → Passed above below n (λ j. j ≡ k) flags (set flags k 1) 1
  unfolding free_at
  goes k flags h l o f =
      record {
        size = length-set flags k 1;
        spares = spared;
        counted = remaining-less flags k n (omega arith) o h;
        same = λ e. absurd (omega (arith, e));
        stuck = λ e j s p. absurd (omega (arith, e));
      }
    where
      spared : (rows : ℕ → Bool) → Knotted above below n rows → Spared n rows flags → Spared n rows (set flags k 1)
      spared rows knot w j i r = ⊎_elim here other (either (eqb j k))
        where
          first : settled (unflagged flags) n (get_or above k 0) ≡ true
          first = and_left_lem (settled (unflagged flags) n (get_or above k 0))
              (settled (unflagged flags) n (get_or below k 0)) f

          second : settled (unflagged flags) n (get_or below k 0) ≡ true
          second = and_right (settled (unflagged flags) n (get_or above k 0))
              (settled (unflagged flags) n (get_or below k 0)) f

          here : eqb j k ≡ true → unflagged (set flags k 1) j ≡ true
          here e =
              let there : rows k ≡ true = subst (λ (i : ℕ). rows i ≡ true) (eqb-true j k e) r in
              clash
              (and_intro (narrower n rows (unflagged flags) w (get_or above k 0) first)
              (narrower n rows (unflagged flags) w (get_or below k 0) second))
              (knot k h there)

          other : eqb j k ≡ false → unflagged (set flags k 1) j ≡ true
          other e = unflagged-other flags k j (eqb-false j k e) ∙ w j i r

  -- a pass that has seen none
  pub begun : (flags : List ℕ) (Seen : ℕ → Type 0) → ((k : ℕ) → Seen k → ⊥) → Passed above below n Seen flags flags 0
  begun flags Seen h =
      record {
        size = refl;
        spares = λ rows r w. w;
        counted = omega arith;
        same = λ e. refl;
        stuck = λ e j s o. absurd (h j s);
      }

  -- one after another
  pub joined : {P Q S : ℕ → Type 0} {flags between after : List ℕ} {t u : ℕ}
      → Passed above below n P flags between t → Passed above below n Q between after u
      → ((k : ℕ) → S k → P k ⊎ Q k) → Passed above below n S flags after (t + u)
  joined {P} {Q} {S} {flags} {between} {after} {t} {u} p q s =
      record {
        size = q.size ∙ p.size;
        spares = λ rows r w. q.spares rows r (p.spares rows r w);
        counted = omega (arith, p.counted, q.counted);
        same = λ e. q.same (omega (arith, e)) ∙ p.same (omega (arith, e));
        stuck = λ e k i o. ⊎_elim (λ j. p.stuck (omega (arith, e)) k j o) (λ j. second e k j o) (s k i);
      }
    where
      second : t + u ≡ 0 → (k : ℕ) → Q k → unflagged flags k ≡ true
          → free_at above below n (unflagged flags) k ≡ false
      second e k j o =
          let same : between ≡ flags = p.same (omega (arith, e)) in
          subst (λ (fs : List ℕ). free_at above below n (unflagged fs) k ≡ false) same
          (q.stuck (omega (arith, e)) k j (subst (λ (fs : List ℕ). unflagged fs k ≡ true) (sym same) o))

  -- seen at other words
  pub seen : {P S : ℕ → Type 0} {flags after : List ℕ} {t : ℕ} → ((k : ℕ) → S k → P k)
      → Passed above below n P flags after t → Passed above below n S flags after t
  seen s p =
      record {
        size = p.size;
        spares = p.spares;
        counted = p.counted;
        same = p.same;
        stuck = λ e k i o. p.stuck e k (s k i) o;
      }

  -- no more are taken than are left
  pub taken-few : {P : ℕ → Type 0} {flags after : List ℕ} {t : ℕ} → Passed above below n P flags after t → t ≤ n
  taken-few {P} {flags} p = omega (arith, p.counted, remaining-few flags n)

  -- ---- what many passes tell

  -- every knot is spared
  abbrev pub AllSpared : List ℕ → Type 0
  AllSpared flags = (rows : ℕ → Bool) → Knotted above below n rows → Spared n rows flags

  pub spared_first : n ≤ 1024 → AllSpared (replicate 1024 0)
  spared_first h rows r k i o = unflagged-first 1024 k (omega arith)

  pub none_left : (flags : List ℕ) → AllSpared flags → remaining flags n ≡ 0 → Unknotted above below n
  none_left flags w z rows r k h =
      fails (rows k) (λ o. clash (w rows r k h o) (remaining-none flags n z k h))

  pub some_stuck : {flags after : List ℕ} {t : ℕ} → Passed above below n (λ j. j < n) flags after t → t ≡ 0
      → 0 < remaining flags n → Knot above below n
  some_stuck {flags} p e h =
      let r = remaining-some flags n h in
      record {
        rows = unflagged flags;
        knotted = λ k i o. p.stuck e k i o;
        one = r.0;
        within = r.1;
        there = r.2;
      }
