-- A table that finds each key at its own index looks up what a plain search finds. The table of distinct keys is such: a key
-- that is entered is found at once, and those before it as they were, since their links are kept.
use Prim.Native.Nat.{ℕ, zero, suc, ◌-◌, ◌≤◌, ◌<◌}
use native.Mathlib.Nat.{not-suc-le-zero, le_of_suc-le-suc}
use native.Mathlib.Omega.{arith}
use mathlib.Core.Path.{◌≡◌, refl, ap, sym, ◌∙◌, subst}
use mathlib.Core.Bool.{Bool, true, false, not, cond, false≢true}
use mathlib.Core.List.{List, [], ◌∷◌}
use mathlib.Core.Option.{Option, none, some, some-ne-none, some-injective}
use mathlib.Core.Logic.{⊎_elim}
use borrow.Author.Tests.{eq-eqb, ne_eqb, eqb-true, eqb-false, not-true}
use lib.Dec.{eqb}
use lib.ListN.{length, take, get_or, set}
use lib.Seq.{length-take-le, get_or-set_same, get_or-set_other, get_or-take, take-length}
use Rattle.lists.specs.Lists.{any, distinct}
use Rattle.lists.proofs.Tests.{either, side, clash, and_intro, and_left_lem, and_right, or_left, or_right, or-false, not-intro, no-some}
use Rattle.lists.proofs.Throughout.{throughout-at, throughout-all}
use Rattle.woot.specs.declared.Table.{Table}
use Rattle.woot.specs.Table.{chain_of, leads, walk, free_slot, lookup, searched, is_at, found_at, agrees, entered, table_of}
use Rattle.index.specs.Theorems.{LookupIsSearch, AgreeingApart, TableAgrees}
use Rattle.chains.proofs.Walks.{leads-later, leads-within, walk_ends, walk-sound, walk_here}
use Rattle.chains.proofs.Slots.{Free, Kept, free-slot, free-low, free-kept, walk_kept, walk-free}
use Rattle.chains.specs.Sizes.{Sized}
use Rattle.chains.proofs.Tables.{head, chain-low, entered_linked, entered_headed, table_more, table_sized}

-- ---- an index that is found

pub is-at : (i : ℕ) (w : Option ℕ) → is_at i w ≡ true → w ≡ some i
unfolding is_at
is-at i none e = absurd (false≢true e)
is-at i (some j) e = ap some (eqb-true j i e)

pub at-is : (i : ℕ) (w : Option ℕ) → w ≡ some i → is_at i w ≡ true
unfolding is_at
at-is i w e = rw (e, eq-eqb i i refl)

-- ---- the plain search

searched-at : (k : ℕ) (ks : List ℕ) (i : ℕ) → searched k ks ≡ some i → (i < length ks) × (get_or ks i 0 ≡ k)
unfolding searched
searched-at k [] i e = absurd (some-ne-none i (sym e))
searched-at k (x ∷ ks) i e = go (eqb k x) refl (searched k ks) (λ j f. searched-at k ks j f) e
  where
    go : (b : Bool) → eqb k x ≡ b → (w : Option ℕ) → ((j : ℕ) → w ≡ some j → (j < length ks) × (get_or ks j 0 ≡ k)) → cond b (some 0) (elim w [ none ↦ none | some j ↦ some (suc j) ]) ≡ some i → (i < suc (length ks)) × (get_or (x ∷ ks) i 0 ≡ k)
    go true p w r f = let here : 0 ≡ i = some-injective 0 i f in rw (← here) (omega arith, sym (eqb-true k x p))
    go false p none r f = absurd (some-ne-none i (sym f))
    go false p (some j) r f =
        let later : suc j ≡ i = some-injective (suc j) i f in
        let s = r j refl in
        rw (← later) (omega (arith, s.0), s.1)

searched-none : (k : ℕ) (ks : List ℕ) → searched k ks ≡ none → (j : ℕ) → j < length ks → get_or ks j 0 ≡ k → ⊥
unfolding searched
searched-none k [] e j h f = not-suc-le-zero h
searched-none k (x ∷ ks) e j h f = go (eqb k x) refl (searched k ks) (λ p i g q. searched-none k ks p i g q) e j h f
  where
    go : (b : Bool) → eqb k x ≡ b → (w : Option ℕ) → (w ≡ none → (i : ℕ) → i < length ks → get_or ks i 0 ≡ k → ⊥) → ◌≡◌ {A = Option ℕ} (cond b (some 0) (elim w [ none ↦ none | some i ↦ some (suc i) ])) none → (j : ℕ) → j < suc (length ks) → get_or (x ∷ ks) j 0 ≡ k → ⊥
    go true p w r f j h q = some-ne-none 0 f
    go false p (some i) r f j h q = some-ne-none (suc i) f
    go false p none r f zero h q = eqb-false k x p (sym q)
    go false p none r f (suc j) h q = r refl j (le_of_suc-le-suc h) q

-- ---- a table that agrees

module _ (t : Table) (ks : List ℕ) (h : agrees t ks ≡ true) where
  own : (i : ℕ) → i < length ks → lookup t ks (get_or ks i 0) ≡ some i
  unfolding agrees
  own i g = is-at i _ (throughout-at (found_at t ks) (length ks) i g h)

  sound : (k j : ℕ) → lookup t ks k ≡ some j → (j < length ks) × (get_or ks j 0 ≡ k)
  unfolding lookup
  sound k j f = walk-sound t.links ks k _ _ _ _ j f

  looked-up : (k : ℕ) → lookup t ks k ≡ searched k ks
  looked-up k = go (searched k ks) refl (lookup t ks k) refl
    where
      go : (w : Option ℕ) → searched k ks ≡ w → (v : Option ℕ) → lookup t ks k ≡ v → lookup t ks k ≡ searched k ks
      go (some i) e v f =
          let s = searched-at k ks i e in
          subst (λ (x : ℕ). lookup t ks x ≡ some i) s.1 (own i s.0) ∙ sym e
      go none e none f = f ∙ sym e
      go none e (some j) f = let s = sound k j f in absurd (searched-none k ks e j s.0 s.1)

pub lookup-is-search : LookupIsSearch
lookup-is-search = looked-up

-- ---- keys that are distinct

-- no key is equal to a later one
abbrev Apart : List ℕ → Type 0
Apart ks = (i j : ℕ) → i < j → j < length ks → get_or ks i 0 ≡ get_or ks j 0 → ⊥

any_at : (p : ℕ → Bool) (ks : List ℕ) (i : ℕ) → i < length ks → p (get_or ks i 0) ≡ true → any p ks ≡ true
any_at p [] i h e = absurd (not-suc-le-zero h)
any_at p (x ∷ ks) zero h e = or_left (p x) (any p ks) e
any_at p (x ∷ ks) (suc i) h e = or_right (p x) (any p ks) (any_at p ks i (le_of_suc-le-suc h) e)

none-at : (p : ℕ → Bool) (ks : List ℕ) → ((i : ℕ) → i < length ks → p (get_or ks i 0) ≡ false) → any p ks ≡ false
none-at p [] f = refl
none-at p (x ∷ ks) f = or-false (f 0 (omega arith)) (none-at p ks (λ i h. f (suc i) (omega arith)))

distinct_apart : (ks : List ℕ) → distinct eqb ks ≡ true → Apart ks
distinct_apart [] e i j h g f = not-suc-le-zero g
distinct_apart (x ∷ ks) e i zero h g f = not-suc-le-zero h
distinct_apart (x ∷ ks) e zero (suc j) h g f =
    clash (any_at (eqb x) ks j (le_of_suc-le-suc g) (eq-eqb x _ f)) (not-true _ (and_left_lem (not (any (eqb x) ks)) _ e))
distinct_apart (x ∷ ks) e (suc i) (suc j) h g f =
    distinct_apart ks (and_right (not (any (eqb x) ks)) _ e) i j (le_of_suc-le-suc h) (le_of_suc-le-suc g) f

apart_distinct : (ks : List ℕ) → Apart ks → distinct eqb ks ≡ true
apart_distinct [] f = refl
apart_distinct (x ∷ ks) f =
    and_intro (not-intro (none-at (eqb x) ks (λ i h. ne_eqb x _ (λ e. f 0 (suc i) (omega arith) (omega arith) e))))
    (apart_distinct ks (λ i j h g e. f (suc i) (suc j) (omega arith) (omega arith) e))

pub agreeing_apart : AgreeingApart
agreeing_apart t ks h =
    apart_distinct ks (λ i j p q e. differ i j p (some-injective i j (sym (own t ks h i (omega arith)) ∙ ap (lookup t ks) e ∙ own t ks h j q)))
  where
    differ : (i j : ℕ) → i < j → i ≡ j → ⊥
    differ i j p e = omega arith

-- ---- the table of keys

-- one key more, x with the index n, in a table t of the first n keys
module _ (ks : List ℕ) (n : ℕ) (h : n < length ks) (t : Table) (sized : Sized t) (room : n < 1024) where
  abbrev x : ℕ
  x = get_or ks n 0

  abbrev more : Table
  more = entered t n x

  size : length (take (suc n) ks) ≡ suc n
  size = length-take-le (suc n) ks h

  fewer : length (take n ks) ≡ n
  fewer = length-take-le n ks (omega arith)

  last : get_or (take (suc n) ks) n 0 ≡ x
  last = get_or-take (suc n) ks n 0 (omega arith)

  -- what was found is found, where the links that lead on are kept
  kept : (others : List ℕ) → Kept t.links others n → (k p i : ℕ) → walk (length (take n ks)) t.links (take n ks) k k 0 p ≡ some i → walk (length (take (suc n) ks)) others (take (suc n) ks) k k 0 p ≡ some i
  kept others f k p i e =
      walk_kept (take n ks) (take (suc n) ks) t.links others k (omega (arith, size, fewer)) (λ j l. get_or-take n ks j 0 (omega (arith, fewer)) ∙ sym (get_or-take (suc n) ks j 0 (omega (arith, fewer)))) (rw fewer f) (length (take n ks)) (length (take (suc n) ks)) k 0 p i (omega (arith, size, fewer)) e

  -- it is linked at its free slot
  module _ (on : leads n 0 (head t n x) ≡ true) where
    abbrev free : ℕ
    free = free_slot n t.links n x (head t n x)

    is_free : Free t.links n free
    is_free = free-slot t.links n n x (head t n x) (omega arith) (leads-later n 0 (head t n x) on) (leads-within n 0 (head t n x) on)

    linked_new : ((j : ℕ) → j < n → get_or ks j 0 ≡ x → ⊥) → lookup more (take (suc n) ks) x ≡ some n
    unfolding lookup
    linked_new apart =
        rw (entered_linked t n x on, size)
        (walk-free (take (suc n) ks) t.links n x free size last (λ j l e. apart j l (sym (get_or-take (suc n) ks j 0 (omega arith)) ∙ e)) (omega (arith, free-low t.links n is_free, sized.links)) (free-kept t.links n (suc n) is_free) (suc n) n x 0 (head t n x) (omega arith) (leads-later n 0 (head t n x) on) (leads-within n 0 (head t n x) on) (omega arith) refl)

    linked_old : (k i : ℕ) → lookup t (take n ks) k ≡ some i → lookup more (take (suc n) ks) k ≡ some i
    unfolding lookup
    linked_old k i e =
        rw (entered_linked t n x on) (kept (set t.links free (suc n)) (free-kept t.links n (suc n) is_free) k (get_or t.heads (chain_of k) 0) i e)

  -- it becomes the head of its chain
  module _ (off : leads n 0 (head t n x) ≡ false) where
    headed_new : lookup more (take (suc n) ks) x ≡ some n
    unfolding lookup
    headed_new =
        let back : suc n - 1 ≡ n = omega arith in
        rw (entered_headed t n x off, get_or-set_same t.heads (chain_of x) (suc n) 0 (omega (arith, chain-low x, sized.heads)))
        (walk_here t.links (take (suc n) ks) x (length (take (suc n) ks)) x 0 (suc n) (omega arith) (omega arith) (omega (arith, size)) (rw back last) ∙ ap some back)

    headed_old : (k i : ℕ) → lookup t (take n ks) k ≡ some i → lookup more (take (suc n) ks) k ≡ some i
    unfolding lookup
    headed_old k i e = ⊎_elim (λ f. same (eqb-true _ _ f)) (λ f. other (eqb-false _ _ f)) (either (eqb (chain_of k) (chain_of x)))
      where
        same : chain_of k ≡ chain_of x → lookup more (take (suc n) ks) k ≡ some i
        same f = no-some (sym (walk_ends t.links (take n ks) k (length (take n ks)) k 0 (head t n x) (rw fewer off)) ∙ (rw f at e))

        other : (chain_of k ≡ chain_of x → ⊥) → lookup more (take (suc n) ks) k ≡ some i
        other f = rw (entered_headed t n x off, get_or-set_other t.heads (chain_of x) (chain_of k) (suc n) 0 f) (kept t.links (λ at rest l g. refl) k (get_or t.heads (chain_of k) 0) i e)

  new : ((j : ℕ) → j < n → get_or ks j 0 ≡ x → ⊥) → lookup more (take (suc n) ks) x ≡ some n
  new apart = ⊎_elim (λ e. linked_new e apart) (λ e. headed_new e) (either (leads n 0 (head t n x)))

  old : (k i : ℕ) → lookup t (take n ks) k ≡ some i → lookup more (take (suc n) ks) k ≡ some i
  old k i f = ⊎_elim (λ e. linked_old e k i f) (λ e. headed_old e k i f) (either (leads n 0 (head t n x)))

module _ (ks : List ℕ) (few : length ks ≤ 1024) (apart : Apart ks) where
  each : (n : ℕ) → n ≤ length ks → (i : ℕ) → i < n → lookup (table_of (take n ks)) (take n ks) (get_or ks i 0) ≡ some i
  each zero h i l = absurd (not-suc-le-zero l)
  each (suc n) h i l =
      rw (table_more ks n h)
      (⊎_elim
      (λ e. let last : i ≡ n = omega arith in rw last (new ks n h (table_of (take n ks)) (table_sized (take n ks)) (omega arith) (λ j m. apart j n m h)))
      (λ e. old ks n h (table_of (take n ks)) (table_sized (take n ks)) (omega arith) (get_or ks i 0) i (each n (omega arith) i e))
      (side n i))

pub table-agrees : TableAgrees
unfolding agrees
table-agrees ks h few =
    throughout-all (found_at (table_of ks) ks) (length ks) (λ i l. at-is i _ (subst (λ (ls : List ℕ). lookup (table_of ls) ls (get_or ks i 0) ≡ some i) (take-length ks) (each ks few (distinct_apart ks h) (length ks) (omega arith) i l)))
