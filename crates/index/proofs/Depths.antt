-- Walks are short: a key agrees with each key on its way in as many bits as that one lies deep, so that one of 24 bits is
-- reached, or missed, after 25 steps at most.
use Prim.Native.Nat.{ℕ, zero, suc, ◌+◌, ◌-◌, ◌*◌, ◌/◌, ◌%◌, ◌≤◌, ◌<◌}
use native.Mathlib.Omega.{arith}
use mathlib.Core.Path.{◌≡◌, refl, ap, sym, ◌∙◌, subst}
use mathlib.Core.Bool.{Bool, true, false, cond}
use mathlib.Core.List.{List}
use mathlib.Core.Option.{Option, none, some}
use mathlib.Core.Logic.{◌⊎◌, inl, inr, ⊎_elim}
use borrow.Author.Tests.{eq-eqb, ne_eqb, eqb-true, eqb-false}
use lib.Dec.{eqb}
use lib.ListN.{length, take, get_or, set, replicate, length-replicate, get_or-replicate, get_or-eq_default}
use lib.Seq.{get_or-set_same, get_or-set_other, take-length}
use Rattle.lists.proofs.Tests.{either, side}
use Rattle.woot.specs.declared.Table.{Table}
use Rattle.woot.specs.Table.{chain_of, slot, leads, walk, lookup, free_slot, no_table, entered, entered_all, table_of}
use Rattle.index.specs.Theorems.{WalksShort}
use Rattle.chains.proofs.Walks.{leads-later, leads-within, leads-none, walk_ends, walk-enough}
use Rattle.chains.proofs.Slots.{Free, free-low, slot-place}
use Rattle.chains.specs.Sizes.{Sized}
use Rattle.chains.proofs.Tables.{head, chain-low, entered_linked, entered_headed, table_more, table_sized}

-- ---- bits

-- without the lowest d bits
shifted : ℕ → ℕ → ℕ
shifted zero k = k
shifted (suc d) k = shifted d k / 2

-- the lowest d bits are the same
Alike : ℕ → ℕ → ℕ → Type 0
Alike zero x k = Unit {0}
Alike (suc d) x k = Alike d x k × (shifted d x % 2 ≡ shifted d k % 2)

alike-back : (d x k : ℕ) → Alike d x k → Alike d k x
unfolding Alike
alike-back zero x k a = a
alike-back (suc d) x k a = (alike-back d x k a.0, sym a.1)

alike-through : (d x y k : ℕ) → Alike d x y → Alike d y k → Alike d x k
unfolding Alike
alike-through zero x y k a b = a
alike-through (suc d) x y k a b = (alike-through d x y k a.0 b.0, a.1 ∙ b.1)

alike_same : (d x k : ℕ) → Alike d x k → shifted d x ≡ shifted d k → x ≡ k
unfolding Alike shifted
alike_same zero x k a e = e
alike_same (suc d) x k a e = alike_same d x k a.0 (omega (arith, a.1))

-- b, doubled d times
doubled : ℕ → ℕ → ℕ
doubled zero b = b
doubled (suc d) b = doubled d (2 * b)

shifted-low : (d b k : ℕ) → k < doubled d b → shifted d k < b
unfolding shifted doubled
shifted-low zero b k h = h
shifted-low (suc d) b k h = let l = shifted-low d (2 * b) k h in omega arith

-- keys of 24 bits, all of which are the same
bits_same : (x k : ℕ) → x < 16777216 → k < 16777216 → Alike 24 x k → x ≡ k
unfolding doubled
bits_same x k h g a =
    let p : shifted 24 x < 1 = shifted-low 24 1 x h in
    let q : shifted 24 k < 1 = shifted-low 24 1 k g in
    alike_same 24 x k a (omega arith)

-- ---- how deep each key lies

-- the place at is on the way of the key x, d places below the head of its chain, with the rest of its bits to choose by
record OnWay (ks : List ℕ) (x d at rest : ℕ) : Type 0 where
  alike : Alike d x (get_or ks (at - 1) 0)
  bits : rest ≡ shifted d x

-- a link leads one deeper, to a key with the same bits so far, the next of which is that of the link
record Link (ks : List ℕ) (depth : ℕ → ℕ) (at rest next : ℕ) : Type 0 where
  below : depth next ≡ suc (depth at)
  shared : Alike (depth at) (get_or ks (at - 1) 0) (get_or ks (next - 1) 0)
  chosen : rest % 2 ≡ shifted (depth at) (get_or ks (next - 1) 0) % 2

-- each of n places has a depth
record Graded (t : Table) (ks : List ℕ) (n : ℕ) : Type 0 where
  depth : ℕ → ℕ
  heads-low : (c : ℕ) → get_or t.heads c 0 ≤ n
  links-low : (j : ℕ) → get_or t.links j 0 ≤ n
  at_head : (c : ℕ) → 0 < get_or t.heads c 0 → depth (get_or t.heads c 0) ≡ 0
  linked : (at rest : ℕ) → 0 < at → at < get_or t.links (slot at rest) 0 → Link ks depth at rest (get_or t.links (slot at rest) 0)

module _ {t : Table} {ks : List ℕ} {n : ℕ} (g : Graded t ks n) (x : ℕ) where
  abbrev on : ℕ → ℕ → ℕ
  on rest at = get_or t.links (slot at rest) 0

  way-starts : (c : ℕ) → 0 < get_or t.heads c 0 → OnWay ks x (g.depth (get_or t.heads c 0)) (get_or t.heads c 0) x
  unfolding Alike shifted
  way-starts c h = rw (g.at_head c h) (record { alike = tt; bits = refl })

  way_on : (at rest : ℕ) → 0 < at → at < on rest at → OnWay ks x (g.depth at) at rest → OnWay ks x (g.depth (on rest at)) (on rest at) (rest / 2)
  unfolding Alike shifted
  way_on at rest h l w =
      let link = g.linked at rest h l in
      rw link.below
      (record {
        alike = (alike-through (g.depth at) x _ _ w.alike link.shared, ap (λ (r : ℕ). r % 2) (sym w.bits) ∙ link.chosen);
        bits = ap (λ (r : ℕ). r / 2) w.bits;
      })

-- ---- a walk is short

module _ {t : Table} {ks : List ℕ} {n : ℕ} (g : Graded t ks n) (small : (i : ℕ) → i < length ks → get_or ks i 0 < 16777216) (k : ℕ) (low : k < 16777216) where
  -- a key on the way that is another lies less than 24 deep
  shallow : (at rest : ℕ) → 0 < at → at ≤ length ks → g.depth at ≤ 24 → OnWay ks k (g.depth at) at rest → (get_or ks (at - 1) 0 ≡ k → ⊥) → g.depth at < 24
  shallow at rest h l d w other = ⊎_elim (λ e. absurd (other (sym (bits_same k _ low (small (at - 1) (omega arith)) (subst (λ (m : ℕ). Alike m k (get_or ks (at - 1) 0)) (deep e) w.alike))))) (λ e. e) (side 24 (g.depth at))
    where
      deep : 24 ≤ g.depth at → g.depth at ≡ 24
      deep e = omega arith

  -- on the way at a depth from which m steps, or l, are enough
  record Near (m l rest next : ℕ) : Type 0 where
    way : OnWay ks k (g.depth next) next rest
    deep : g.depth next ≤ 24
    enough : 25 ≤ m + g.depth next
    as-well : 25 ≤ l + g.depth next

  walk-short : (m l rest at next : ℕ) → (leads (length ks) at next ≡ true → Near m l rest next) → walk m t.links ks k rest at next ≡ walk l t.links ks k rest at next
  unfolding walk
  walk-short zero l rest at next w =
      ⊎_elim (λ e. absurd (omega (arith, (w e).deep, (w e).enough))) (λ e. sym (walk_ends t.links ks k l rest at next e)) (either (leads (length ks) at next))
  walk-short (suc m) zero rest at next w =
      ⊎_elim (λ e. absurd (omega (arith, (w e).deep, (w e).as-well))) (λ e. walk_ends t.links ks k (suc m) rest at next e) (either (leads (length ks) at next))
  walk-short (suc m) (suc l) rest at next w =
      go (leads (length ks) at next) (eqb (get_or ks (next - 1) 0) k) refl refl (λ p q. walk-short m l (rest / 2) next (get_or t.links (slot next rest) 0) (nearer p q))
    where
      nearer : leads (length ks) at next ≡ true → eqb (get_or ks (next - 1) 0) k ≡ false → leads (length ks) next (get_or t.links (slot next rest) 0) ≡ true → Near m l (rest / 2) (get_or t.links (slot next rest) 0)
      nearer p q e =
          let here = w p in
          let above : 0 < next = omega (arith, leads-later (length ks) at next p) in
          let later = leads-later (length ks) next (get_or t.links (slot next rest) 0) e in
          let less = shallow next rest above (leads-within (length ks) at next p) here.deep here.way (eqb-false _ _ q) in
          let more = (g.linked next rest above later).below in
          record {
            way = way_on g k next rest above later here.way;
            deep = omega arith;
            enough = omega (arith, here.enough);
            as-well = omega (arith, here.as-well);
          }

      go : (a b : Bool) {v w : Option ℕ} → leads (length ks) at next ≡ a → eqb (get_or ks (next - 1) 0) k ≡ b → (leads (length ks) at next ≡ true → eqb (get_or ks (next - 1) 0) k ≡ false → v ≡ w) → cond a (cond b (some (next - 1)) v) none ≡ cond a (cond b (some (next - 1)) w) none
      go false b p q r = refl
      go true true p q r = refl
      go true false p q r = r p q

-- ---- one key more

module _ {t : Table} {ks : List ℕ} {n : ℕ} (g : Graded t ks n) where
  -- a key's free slot is of a place on its way
  record Ended (x s : ℕ) : Type 0 where
    free : Free t.links n s
    way : OnWay ks x (g.depth free.place) free.place free.rest

  way-ends : (x m rest at : ℕ) → n ≤ m + at → 0 < at → at ≤ n → OnWay ks x (g.depth at) at rest → Ended x (free_slot m t.links n rest at)
  unfolding free_slot
  way-ends x zero rest at h a l w =
      record { free = record { place = at; rest = rest; is = refl; above = a; within = l; ends = leads-none n at _ (omega arith) }; way = w }
  way-ends x (suc m) rest at h a l w =
      ⊎_elim
      (λ e. let later = leads-later n at (on g x rest at) e in rw e (way-ends x m (rest / 2) (on g x rest at) (omega arith) (omega arith) (leads-within n at (on g x rest at) e) (way_on g x at rest a later w)))
      (λ e. rw e (record { free = record { place = at; rest = rest; is = refl; above = a; within = l; ends = e }; way = w }))
      (either (leads n at (on g x rest at)))

-- the depth of the place p is d, and that of every other as it was
deepened : ℕ → ℕ → (ℕ → ℕ) → ℕ → ℕ
deepened p d depth q = cond (eqb q p) d (depth q)

deepened_there : (p d : ℕ) (depth : ℕ → ℕ) → deepened p d depth p ≡ d
unfolding deepened
deepened_there p d depth = rw (eq-eqb p p refl)

deepened_else : (p d : ℕ) (depth : ℕ → ℕ) (q : ℕ) → q < p → deepened p d depth q ≡ depth q
unfolding deepened
deepened_else p d depth q h = rw (ne_eqb q p (λ e. omega arith))

link_kept : (ks : List ℕ) (p d : ℕ) (depth : ℕ → ℕ) {at rest next : ℕ} → at < p → next < p → Link ks depth at rest next → Link ks (deepened p d depth) at rest next
link_kept ks p d depth {at} {rest} {next} h l k =
    let here = deepened_else p d depth at h in
    record {
      below = deepened_else p d depth next l ∙ k.below ∙ ap suc (sym here);
      shared = rw here k.shared;
      chosen = rw here k.chosen;
    }

-- what stands in a list where one number is set
set-either : (l : List ℕ) (s v j : ℕ) → s < length l → ((j ≡ s) × (get_or (set l s v) j 0 ≡ v)) ⊎ (get_or (set l s v) j 0 ≡ get_or l j 0)
set-either l s v j h = ⊎_elim (λ e. inl (eqb-true _ _ e, (let same : j ≡ s = eqb-true _ _ e in rw same (get_or-set_same l s v 0 h)))) (λ e. inr (get_or-set_other l s j v 0 (eqb-false _ _ e))) (either (eqb j s))

module _ {t : Table} {ks : List ℕ} {n : ℕ} (g : Graded t ks n) (sized : Sized t) where
  graded_linked : (s : ℕ) → s < 2048 → Ended g (get_or ks n 0) s → Graded (record { heads = t.heads; links = set t.links s (suc n) }) ks (suc n)
  graded_linked s room e =
      record {
        depth = deeper;
        heads-low = λ c. omega (arith, g.heads-low c);
        links-low = λ j. ⊎_elim (λ w. omega (arith, w.1)) (λ w. omega (arith, w, g.links-low j)) (set-either t.links s (suc n) j fits);
        at_head = λ c h. deepened_else (suc n) d g.depth _ (omega (arith, g.heads-low c)) ∙ g.at_head c h;
        linked = λ at rest a l. ⊎_elim (λ w. rw w.1 (new at rest a w.0)) (λ w. rw w (old at rest a (omega (arith, w, l)))) (set-either t.links s (suc n) (slot at rest) fits);
      }
    where
      fits : s < length t.links
      fits = omega (arith, sized.links)

      d : ℕ
      d = suc (g.depth e.free.place)

      deeper : ℕ → ℕ
      deeper = deepened (suc n) d g.depth

      old : (at rest : ℕ) → 0 < at → at < get_or t.links (slot at rest) 0 → Link ks deeper at rest (get_or t.links (slot at rest) 0)
      old at rest a l = let low = g.links-low (slot at rest) in link_kept ks (suc n) d g.depth (omega arith) (omega arith) (g.linked at rest a l)

      new : (at rest : ℕ) → 0 < at → slot at rest ≡ s → Link ks deeper at rest (suc n)
      new at rest a f =
          let q = e.free.place in
          let same : at ≡ q = slot-place at q rest e.free.rest a e.free.above (f ∙ e.free.is) in
          let bit : rest % 2 ≡ e.free.rest % 2 = omega (arith, e.free.is) in
          let here : deeper q ≡ g.depth q = deepened_else (suc n) d g.depth q (omega (arith, e.free.within)) in
          let back : suc n - 1 ≡ n = omega arith in
          rw same
          (record {
            below = deepened_there (suc n) d g.depth ∙ ap suc (sym here);
            shared = rw (here, back) (alike-back (g.depth q) (get_or ks n 0) (get_or ks (q - 1) 0) e.way.alike);
            chosen = rw (here, back) (bit ∙ ap (λ (r : ℕ). r % 2) e.way.bits);
          })

  graded_headed : (c : ℕ) → c < 1024 → Graded (record { heads = set t.heads c (suc n); links = t.links }) ks (suc n)
  graded_headed c room =
      record {
        depth = deeper;
        heads-low = λ j. ⊎_elim (λ w. omega (arith, w.1)) (λ w. omega (arith, w, g.heads-low j)) (set-either t.heads c (suc n) j fits);
        links-low = λ j. omega (arith, g.links-low j);
        at_head = λ j h. ⊎_elim (λ w. rw w.1 (deepened_there (suc n) 0 g.depth)) (λ w. rw w (deepened_else (suc n) 0 g.depth _ (omega (arith, g.heads-low j)) ∙ g.at_head j (omega (arith, w, h)))) (set-either t.heads c (suc n) j fits);
        linked = λ at rest a l. let low = g.links-low (slot at rest) in link_kept ks (suc n) 0 g.depth (omega arith) (omega arith) (g.linked at rest a l);
      }
    where
      fits : c < length t.heads
      fits = omega (arith, sized.heads)

      deeper : ℕ → ℕ
      deeper = deepened (suc n) 0 g.depth

  graded_entered : n < 1024 → Graded (entered t n (get_or ks n 0)) ks (suc n)
  graded_entered room = ⊎_elim linked (λ e. rw (entered_headed t n x e) (graded_headed (chain_of x) (chain-low x))) (either (leads n 0 (head t n x)))
    where
      x : ℕ
      x = get_or ks n 0

      linked : leads n 0 (head t n x) ≡ true → Graded (entered t n x) ks (suc n)
      linked e =
          let above = leads-later n 0 (head t n x) e in
          let end = way-ends g x n x (head t n x) (omega arith) above (leads-within n 0 (head t n x) e) (way-starts g x (chain_of x) above) in
          rw (entered_linked t n x e) (graded_linked _ (omega (arith, free-low t.links n end.free)) end)

-- ---- the table of keys

blank : (m j : ℕ) → ◌≡◌ {A = ℕ} (get_or (replicate m 0) j 0) 0
blank m j = ⊎_elim (λ l. get_or-eq_default {A = ℕ} (replicate m 0) 0 {n = j} (omega (arith, length-replicate {A = ℕ} m 0))) (λ l. get_or-replicate {A = ℕ} m j 0 0 l) (side m j)

module _ (ks : List ℕ) (few : length ks ≤ 1024) where
  graded : (n : ℕ) → n ≤ length ks → Graded (table_of (take n ks)) ks n
  unfolding table_of entered_all no_table
  graded zero h =
      record {
        depth = λ q. 0;
        heads-low = λ c. omega (arith, blank 1024 c);
        links-low = λ j. omega (arith, blank 2048 j);
        at_head = λ c l. refl;
        linked = λ at rest a l. absurd (omega (arith, l, blank 2048 (slot at rest)));
      }
  graded (suc n) h = rw (table_more ks n h) (graded_entered (graded n (omega arith)) (table_sized (take n ks)) (omega arith))

pub walks_short : WalksShort
unfolding lookup
walks_short ks small few k low =
    walk-short g small k low 25 (length ks + 25) k 0 (get_or t.heads (chain_of k) 0) near
    ∙ walk-enough t.links ks k (length ks + 25) (length ks) k 0 (get_or t.heads (chain_of k) 0) (omega arith) (omega arith)
  where
    t : Table
    t = table_of ks

    g : Graded t ks (length ks)
    g = subst (λ (ls : List ℕ). Graded (table_of ls) ks (length ks)) (take-length ks) (graded ks few (length ks) (omega arith))

    near : leads (length ks) 0 (get_or t.heads (chain_of k) 0) ≡ true → Near g small k low 25 (length ks + 25) k (get_or t.heads (chain_of k) 0)
    near e =
        let above = leads-later (length ks) 0 (get_or t.heads (chain_of k) 0) e in
        let top = g.at_head (chain_of k) above in
        record { way = way-starts g k (chain_of k) above; deep = omega arith; enough = omega arith; as-well = omega arith }
