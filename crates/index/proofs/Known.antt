-- A table that agrees with its keys and has no entry besides theirs is the table of them: without the entry of the last
-- key it is that of the others, and to enter the key is to put its entry back.
use Prim.Native.Nat.{ℕ, zero, suc, ◌+◌, ◌-◌, ◌/◌, ◌≤◌, ◌<◌}
use native.Mathlib.Nat.{not-suc-le-zero}
use native.Mathlib.Omega.{arith}
use mathlib.Core.Path.{◌≡◌, refl, ap, sym, ◌∙◌, subst}
use mathlib.Core.Bool.{Bool, true, false, cond}
use mathlib.Core.List.{List, [], ◌∷◌}
use mathlib.Core.Option.{none, some}
use mathlib.Core.Logic.{◌⊎◌, inl, inr, ⊎_elim}
use borrow.Author.Tests.{eqb-true, eqb-false}
use lib.Dec.{eqb}
use lib.ListN.{length, take, get_or, set, replicate, length-set, get_or-eq_default}
use lib.Seq.{get_or-set_same, get_or-set_other, set-get_or, set-set, get_or-take, length-take-le, take-length}
use Rattle.lists.proofs.Tests.{side, no-some, some-eq}
use Rattle.lists.proofs.Throughout.{throughout-at}
use Rattle.woot.specs.declared.Table.{Table}
use Rattle.woot.specs.Table.{chain_of, slot, leads, walk, free_slot, lookup, found_at, agrees}
use Rattle.woot.specs.Table.{no_table, entered, entered_all, table_of}
use Rattle.index.specs.Entries.{entries}
use Rattle.index.specs.Theorems.{TableKnown}
use Rattle.chains.proofs.Walks.{leads-on, leads-later, leads-within, leads_nowhere, walk_here, walk-on}
use Rattle.chains.proofs.Slots.{free-here, free_on}
use Rattle.chains.specs.Sizes.{Sized}
use Rattle.chains.proofs.Tables.{head, entered_linked, entered_headed, table_more}
use Rattle.index.proofs.Agreeing.{is-at}

-- ---- entries

no-entries : (xs : List ℕ) → entries xs ≡ 0 → xs ≡ replicate (length xs) 0
unfolding entries
no-entries [] e = refl
no-entries (zero ∷ xs) e = ap (λ (r : List ℕ). 0 ∷ r) (no-entries xs (omega arith))
no-entries (suc x ∷ xs) e = absurd (omega arith)

one_fewer : (xs : List ℕ) (s : ℕ) → 0 < get_or xs s 0 → entries xs ≡ suc (entries (set xs s 0))
unfolding entries
one_fewer [] s h = absurd (not-suc-le-zero h)
one_fewer (zero ∷ xs) zero h = absurd (not-suc-le-zero h)
one_fewer (suc x ∷ xs) zero h = omega arith
one_fewer (x ∷ xs) (suc s) h = let r = one_fewer xs s h in omega arith

-- an entry taken out and put back
put_back : (xs : List ℕ) (s v : ℕ) → get_or xs s 0 ≡ v → set (set xs s 0) s v ≡ xs
put_back xs s v e = set-set xs s 0 v ∙ ap (λ (w : ℕ). set xs s w) (sym e) ∙ set-get_or xs s 0

taken_out : (xs : List ℕ) (s : ℕ) → 0 < get_or xs s 0 → get_or (set xs s 0) s 0 ≡ 0
taken_out xs s h =
    ⊎_elim (λ out. absurd (omega (arith, h, get_or-eq_default {A = ℕ} xs 0 {n = s} out)))
    (λ inside. get_or-set_same xs s 0 0 inside) (side (length xs) s)

-- ---- a walk that comes to its key

module _ (links ks : List ℕ) (k : ℕ) where
  -- it comes to it at once, or goes on
  record Step (m rest at next i : ℕ) : Type 0 where
    later : at < next
    within : next ≤ length ks
    comes : ((get_or ks (next - 1) 0 ≡ k) × (next - 1 ≡ i))
        ⊎ ((get_or ks (next - 1) 0 ≡ k → ⊥)
        × (walk m links ks k (rest / 2) next (get_or links (slot next rest) 0) ≡ some i))

  walk_step : (m rest at next i : ℕ) → walk (suc m) links ks k rest at next ≡ some i → Step m rest at next i
  unfolding walk
  walk_step m rest at next i e =
      go (leads (length ks) at next) (eqb (get_or ks (next - 1) 0) k) refl refl e
    where
      go : (a b : Bool) → leads (length ks) at next ≡ a → eqb (get_or ks (next - 1) 0) k ≡ b
          → cond a (cond b (some (next - 1)) (walk m links ks k (rest / 2) next (get_or links (slot next rest) 0))) none
          ≡ some i
          → Step m rest at next i
      go false b p q f = no-some f
      go true true p q f =
          record {
            later = leads-later (length ks) at next p;
            within = leads-within (length ks) at next p;
            comes = inl (eqb-true _ _ q, some-eq f);
          }
      go true false p q f =
          record {
            later = leads-later (length ks) at next p;
            within = leads-within (length ks) at next p;
            comes = inr (eqb-false _ _ q, f);
          }

  walk-leads : (m rest at next i : ℕ) → walk m links ks k rest at next ≡ some i → (at < next) × (next ≤ length ks)
  unfolding walk
  walk-leads zero rest at next i e = no-some e
  walk-leads (suc m) rest at next i e = let s = walk_step m rest at next i e in (s.later, s.within)

  -- it ends before the last key where its own stands before that
  walk_early : (n m rest at next i : ℕ) → length ks ≡ suc n → i < n → walk m links ks k rest at next ≡ some i → next ≤ n
  unfolding walk
  walk_early n zero rest at next i size h e = no-some e
  walk_early n (suc m) rest at next i size h e =
      let s = walk_step m rest at next i e in
      ⊎_elim (λ w. omega (arith, s.later, w.1))
      (λ w.
      let on = walk-leads m (rest / 2) next (get_or links (slot next rest) 0) i w.1 in
      omega (arith, on.0, on.1))
      s.comes

-- ---- without the entry of the last key

-- the keys before the last are found as they were
module _ (ls ks links others : List ℕ) (n k : ℕ) (few : length ls ≡ n) (size : length ks ≡ suc n)
    (same : (j : ℕ) → j < n → get_or ls j 0 ≡ get_or ks j 0)
    (kept : (s : ℕ) → get_or links s 0 ≤ n → get_or others s 0 ≡ get_or links s 0) where
  walk-back : (m l rest at next i : ℕ) → i < n → n ≤ l + at → walk m links ks k rest at next ≡ some i
      → walk l others ls k rest at next ≡ some i
  unfolding walk
  walk-back zero l rest at next i h g e = no-some e
  walk-back (suc m) l rest at next i h g e =
      let s = walk_step links ks k m rest at next i e in
      let low = walk_early links ks k n (suc m) rest at next i size h e in
      let there : get_or ls (next - 1) 0 ≡ get_or ks (next - 1) 0 = same (next - 1) (omega (arith, s.later)) in
      ⊎_elim
      (λ w. walk_here others ls k l rest at next (omega arith) s.later (omega arith) (there ∙ w.0) ∙ ap some w.1)
      (λ w.
      let next_low = walk_early links ks k n m (rest / 2) next (get_or links (slot next rest) 0) i size h w.1 in
      walk-on others ls k l rest at next (omega arith) s.later (omega arith) n (omega arith)
      (λ f. w.0 (sym there ∙ f))
      ∙ rw (kept (slot next rest) next_low)
      (walk-back m n (rest / 2) next (get_or links (slot next rest) 0) i h (omega arith) w.1))
      s.comes

-- the walk of the last key ends at a link that leads to it, which without it is the key's free slot
module _ (links ks : List ℕ) (n k : ℕ) (size : length ks ≡ suc n) where
  record Last (rest next : ℕ) : Type 0 where
    at : ℕ
    entry : get_or links at 0 ≡ suc n
    free : (l : ℕ) → n ≤ l + next → free_slot l (set links at 0) n rest next ≡ at

  walk-last : (m rest at next : ℕ) → next ≤ n → walk m links ks k rest at next ≡ some n → Last rest next
  unfolding walk
  walk-last zero rest at next h e = no-some e
  walk-last (suc m) rest at next h e =
      let s = walk_step links ks k m rest at next n e in
      ⊎_elim (λ w. absurd (omega (arith, s.later, w.1)))
      (λ w. go w.1 (λ g. walk-last m (rest / 2) next (get_or links (slot next rest) 0) g w.1)) s.comes
    where
      v : ℕ
      v = get_or links (slot next rest) 0

      go : walk m links ks k (rest / 2) next v ≡ some n → (v ≤ n → Last (rest / 2) v) → Last rest next
      go f deeper = ⊎_elim here on (side (suc n) v)
        where
          leads-there : (next < v) × (v ≤ length ks)
          leads-there = walk-leads links ks k m (rest / 2) next v n f

          here : suc n ≤ v → Last rest next
          here g =
              record {
                at = slot next rest;
                entry = omega (arith, leads-there.1);
                free = λ l p. free-here (set links (slot next rest) 0) n l rest next
                    (leads_nowhere n next _ (λ a b. omega (arith, a, taken_out links (slot next rest) (omega arith))));
              }

          on : v < suc n → Last rest next
          on g =
              let r = deeper (omega arith) in
              let kept : get_or (set links r.at 0) (slot next rest) 0 ≡ v =
              get_or-set_other links r.at (slot next rest) 0 0
              (λ q. omega (arith, g, r.entry, ap (λ (j : ℕ). get_or links j 0) q)) in
              record {
                at = r.at;
                entry = r.entry;
                free = λ l p.
                    free_on (set links r.at 0) n l n rest next p (omega arith)
                    (rw kept (leads-on n next v leads-there.0 (omega arith)))
                    ∙ rw kept (r.free n (omega arith));
              }

-- ---- the table of keys

module _ (ks : List ℕ) where
  -- each of the first n keys is found
  abbrev Finds : Table → ℕ → Type 0
  Finds t n = (i : ℕ) → i < n → lookup t (take n ks) (get_or ks i 0) ≡ some i

  -- a table into which the last of the keys was entered
  record Before (t : Table) (n : ℕ) : Type 0 where
    table : Table
    sized : Sized table
    finds : Finds table n
    count : entries t.heads + entries t.links ≡ suc (entries table.heads + entries table.links)
    last : t ≡ entered table n (get_or ks n 0)

  module _ (t : Table) (n : ℕ) (s : Sized t) (f : Finds t (suc n)) (h : n < length ks) where
    abbrev x : ℕ
    x = get_or ks n 0

    size : length (take (suc n) ks) ≡ suc n
    size = length-take-le (suc n) ks h

    fewer : length (take n ks) ≡ n
    fewer = length-take-le n ks (omega arith)

    -- what is found by links of which only those to the last key changed
    back : (others : List ℕ) → ((j : ℕ) → get_or t.links j 0 ≤ n → get_or others j 0 ≡ get_or t.links j 0)
        → (i : ℕ) → i < n
        → walk (length (take n ks)) others (take n ks) (get_or ks i 0) (get_or ks i 0) 0
        (get_or t.heads (chain_of (get_or ks i 0)) 0) ≡ some i
    unfolding lookup
    back others kept i l =
        walk-back (take n ks) (take (suc n) ks) t.links others n (get_or ks i 0) fewer size
        (λ j m. get_or-take n ks j 0 m ∙ sym (get_or-take (suc n) ks j 0 (omega arith))) kept
        (length (take (suc n) ks)) (length (take n ks)) (get_or ks i 0) 0 _ i l (omega (arith, fewer))
        (f i (omega arith))

    -- the last key is the head of its chain
    headed : head t n x ≡ suc n → Before t n
    unfolding lookup
    headed e =
        record {
          table = without;
          sized = record { heads = length-set t.heads (chain_of x) 0 ∙ s.heads; links = s.links };
          finds = λ i l.
              rw (get_or-set_other t.heads (chain_of x) (chain_of (get_or ks i 0)) 0 0 (other i l))
              (back t.links (λ j m. refl) i l);
          count = omega (arith, one_fewer t.heads (chain_of x) above);
          last = sym (entered_headed without n x
              (leads_nowhere n 0 (head without n x) (λ a b. omega (arith, a, taken_out t.heads (chain_of x) above)))
              ∙ ap (λ (hs : List ℕ). record { heads = hs; links = t.links })
              (put_back t.heads (chain_of x) (suc n) e));
        }
      where
        without : Table
        without = record { heads = set t.heads (chain_of x) 0; links = t.links }

        above : 0 < head t n x
        above = omega (arith, e)

        other : (i : ℕ) → i < n → chain_of (get_or ks i 0) ≡ chain_of x → ⊥
        other i l q =
            let low =
            walk_early t.links (take (suc n) ks) (get_or ks i 0) n _ (get_or ks i 0) 0
            (get_or t.heads (chain_of (get_or ks i 0)) 0) i size l (f i (omega arith)) in
            omega (arith, e, low, ap (λ (c : ℕ). get_or t.heads c 0) q)

    -- it is linked
    linked : head t n x ≤ n → Before t n
    unfolding lookup
    linked low =
        record {
          table = without;
          sized = record { heads = s.heads; links = length-set t.links r.at 0 ∙ s.links };
          finds = λ i l. back (set t.links r.at 0)
              (λ j m. get_or-set_other t.links r.at j 0 0
              (λ q. omega (arith, m, r.entry, ap (λ (p : ℕ). get_or t.links p 0) q))) i l;
          count = omega (arith, one_fewer t.links r.at (omega (arith, r.entry)));
          last = sym (entered_linked without n x (leads-on n 0 (head t n x) leads-first.0 low)
              ∙ rw (r.free n (omega arith))
              (ap (λ (ls : List ℕ). record { heads = t.heads; links = ls })
              (put_back t.links r.at (suc n) r.entry)));
        }
      where
        found : walk (length (take (suc n) ks)) t.links (take (suc n) ks) x x 0 (head t n x) ≡ some n
        found = f n (omega arith)

        leads-first : (0 < head t n x) × (head t n x ≤ length (take (suc n) ks))
        leads-first = walk-leads t.links (take (suc n) ks) x _ x 0 (head t n x) n found

        r : Last t.links (take (suc n) ks) n x size x (head t n x)
        r = walk-last t.links (take (suc n) ks) n x size _ x 0 (head t n x) low found

        without : Table
        without = record { heads = t.heads; links = set t.links r.at 0 }

    before : Before t n
    unfolding lookup
    before =
        ⊎_elim
        (λ g.
        let first = walk-leads t.links (take (suc n) ks) x _ x 0 (head t n x) n (f n (omega arith)) in
        headed (omega (arith, g, size, first.1)))
        (λ g. linked (omega arith))
        (side (suc n) (head t n x))

  known : (n : ℕ) → n ≤ length ks → (t : Table) → Sized t → Finds t n
      → entries t.heads + entries t.links ≡ n → t ≡ table_of (take n ks)
  unfolding table_of entered_all no_table
  known zero h t s f e =
      let hs = no-entries t.heads (omega arith) ∙ ap (λ (m : ℕ). replicate m 0) s.heads in
      let ls = no-entries t.links (omega arith) ∙ ap (λ (m : ℕ). replicate m 0) s.links in
      λ i. record { heads = hs i; links = ls i }
  known (suc n) h t s f e =
      let b = before t n s f h in
      b.last
      ∙ ap (λ (u : Table). entered u n (get_or ks n 0))
      (known n (omega arith) b.table b.sized b.finds (omega (arith, b.count)))
      ∙ sym (table_more ks n h)

pub table-known : TableKnown
unfolding agrees
table-known t ks hs ls few a e =
    subst (λ (js : List ℕ). t ≡ table_of js) (take-length ks)
    (known ks (length ks) (omega arith) t (record { heads = hs; links = ls })
    (λ i l. subst (λ (js : List ℕ). lookup t js (get_or ks i 0) ≡ some i) (sym (take-length ks))
    (is-at i _ (throughout-at (found_at t ks) (length ks) i l a))) e)
