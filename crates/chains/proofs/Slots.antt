-- The way of a key to a free slot, and what a link put there changes: links that led on are kept, so that what was found is
-- found, and the key's own walk comes to it.
use Prim.Native.Nat.{ℕ, zero, suc, ◌+◌, ◌-◌, ◌*◌, ◌/◌, ◌≤◌, ◌<◌}
use native.Mathlib.Nat.{not-suc-le-zero}
use native.Mathlib.Omega.{arith}
use mathlib.Core.Path.{◌≡◌, refl, ap, sym, ◌∙◌}
use mathlib.Core.Bool.{Bool, true, false, cond}
use mathlib.Core.List.{List}
use mathlib.Core.Option.{none, some}
use mathlib.Core.Logic.{⊎_elim}
use lib.Dec.{eqb}
use lib.ListN.{length, get_or, set}
use lib.Seq.{get_or-set_same, get_or-set_other}
use Rattle.lists.proofs.Tests.{either, clash, no-some}
use Rattle.woot.specs.Table.{slot, leads, walk, free_slot}
use Rattle.chains.proofs.Walks.{leads-on, leads-later, leads-within, leads-none, walk_ends, walk_here, walk-on}

-- a slot is of one place
pub slot-place : (p q a b : ℕ) → 0 < p → 0 < q → slot p a ≡ slot q b → p ≡ q
slot-place p q a b h g e = omega arith

-- ---- the way to a free slot

-- a slot of one of n places, whose link leads to none of them
pub record Free (links : List ℕ) (n s : ℕ) : Type 0 where
  pub place : ℕ
  pub rest : ℕ
  pub is : s ≡ slot place rest
  pub above : 0 < place
  pub within : place ≤ n
  pub ends : leads n place (get_or links s 0) ≡ false

module _ (links : List ℕ) (n : ℕ) where
  abbrev linked : ℕ → ℕ → ℕ
  linked rest at = get_or links (slot at rest) 0

  pub free-here : (m rest at : ℕ) → leads n at (linked rest at) ≡ false → free_slot m links n rest at ≡ slot at rest
  unfolding free_slot
  free-here zero rest at e = refl
  free-here (suc m) rest at e = rw e

  pub free-enough : (m l rest at : ℕ) → n ≤ m + at → n ≤ l + at → free_slot m links n rest at ≡ free_slot l links n rest at
  unfolding free_slot
  free-enough zero l rest at h g = sym (free-here l rest at (leads-none n at (linked rest at) (omega arith)))
  free-enough (suc m) zero rest at h g = free-here (suc m) rest at (leads-none n at (linked rest at) (omega arith))
  free-enough (suc m) (suc l) rest at h g =
      ⊎_elim
      (λ e. let later = leads-later n at (linked rest at) e in rw e (free-enough m l (rest / 2) (linked rest at) (omega arith) (omega arith)))
      (λ e. free-here (suc m) rest at e ∙ sym (free-here (suc l) rest at e))
      (either (leads n at (linked rest at)))

  pub free_on : (m l rest at : ℕ) → n ≤ m + at → n ≤ l + linked rest at → leads n at (linked rest at) ≡ true → free_slot m links n rest at ≡ free_slot l links n (rest / 2) (linked rest at)
  unfolding free_slot
  free_on zero l rest at h g e = absurd (omega (arith, leads-later n at (linked rest at) e, leads-within n at (linked rest at) e))
  free_on (suc m) l rest at h g e =
      let later = leads-later n at (linked rest at) e in
      rw e (free-enough m l (rest / 2) (linked rest at) (omega arith) g)

  pub free-slot : (m rest at : ℕ) → n ≤ m + at → 0 < at → at ≤ n → Free links n (free_slot m links n rest at)
  unfolding free_slot
  free-slot zero rest at h g f = record { place = at; rest = rest; is = refl; above = g; within = f; ends = leads-none n at (linked rest at) (omega arith) }
  free-slot (suc m) rest at h g f =
      ⊎_elim
      (λ e. let later = leads-later n at (linked rest at) e in rw e (free-slot m (rest / 2) (linked rest at) (omega arith) (omega arith) (leads-within n at (linked rest at) e)))
      (λ e. rw e (record { place = at; rest = rest; is = refl; above = g; within = f; ends = e }))
      (either (leads n at (linked rest at)))

  pub free-low : {s : ℕ} → Free links n s → s < 2 * n
  free-low f = omega (arith, f.is, f.above, f.within)

-- ---- a link more

-- links that lead on among n places are kept
abbrev pub Kept : List ℕ → List ℕ → ℕ → Type 0
Kept links others n = (at rest : ℕ) → 0 < at → leads n at (get_or links (slot at rest) 0) ≡ true → get_or others (slot at rest) 0 ≡ get_or links (slot at rest) 0

pub free-kept : (links : List ℕ) (n v : ℕ) {s : ℕ} → Free links n s → Kept links (set links s v) n
free-kept links n v {s} f at rest h e = get_or-set_other links s (slot at rest) v 0 other
  where
    other : slot at rest ≡ s → ⊥
    other g =
        let same : at ≡ f.place = slot-place at f.place rest f.rest h f.above (g ∙ f.is) in
        clash e (rw (← same, ← g) at f.ends)

-- what was found among the first keys is found among more
module _ (ls ks links others : List ℕ) (k : ℕ) (more : length ls ≤ length ks) (same : (j : ℕ) → j < length ls → get_or ls j 0 ≡ get_or ks j 0) (kept : Kept links others (length ls)) where
  pub walk_kept : (n m rest at next i : ℕ) → n ≤ m → walk n links ls k rest at next ≡ some i → walk m others ks k rest at next ≡ some i
  unfolding walk
  walk_kept zero m rest at next i h e = no-some e
  walk_kept (suc n) zero rest at next i h e = absurd (not-suc-le-zero h)
  walk_kept (suc n) (suc m) rest at next i h e =
      go (leads (length ls) at next) (eqb (get_or ls (next - 1) 0) k) refl refl (walk_kept n m (rest / 2) next (get_or links (slot next rest) 0) i (omega arith)) e
    where
      -- where the walk went on, it goes on alike
      on : 0 < next → (walk n links ls k (rest / 2) next (get_or links (slot next rest) 0) ≡ some i → walk m others ks k (rest / 2) next (get_or links (slot next rest) 0) ≡ some i) → walk n links ls k (rest / 2) next (get_or links (slot next rest) 0) ≡ some i → walk m others ks k (rest / 2) next (get_or others (slot next rest) 0) ≡ some i
      on h r f =
          ⊎_elim (λ l. rw (kept next rest h l) (r f))
          (λ l. no-some (sym (walk_ends links ls k n (rest / 2) next (get_or links (slot next rest) 0) l) ∙ f))
          (either (leads (length ls) next (get_or links (slot next rest) 0)))

      go : (a b : Bool) → leads (length ls) at next ≡ a → eqb (get_or ls (next - 1) 0) k ≡ b → (walk n links ls k (rest / 2) next (get_or links (slot next rest) 0) ≡ some i → walk m others ks k (rest / 2) next (get_or links (slot next rest) 0) ≡ some i) → cond a (cond b (some (next - 1)) (walk n links ls k (rest / 2) next (get_or links (slot next rest) 0))) none ≡ some i → cond (leads (length ks) at next) (cond (eqb (get_or ks (next - 1) 0) k) (some (next - 1)) (walk m others ks k (rest / 2) next (get_or others (slot next rest) 0))) none ≡ some i
      go false b p q r f = no-some f
      go true b p q r f =
          let later = leads-later (length ls) at next p in
          let within = leads-within (length ls) at next p in
          rw (leads-on (length ks) at next later (omega arith), ← same (next - 1) (omega arith), q) (pick b (omega arith) r f)
        where
          pick : (b : Bool) → 0 < next → (walk n links ls k (rest / 2) next (get_or links (slot next rest) 0) ≡ some i → walk m others ks k (rest / 2) next (get_or links (slot next rest) 0) ≡ some i) → cond b (some (next - 1)) (walk n links ls k (rest / 2) next (get_or links (slot next rest) 0)) ≡ some i → cond b (some (next - 1)) (walk m others ks k (rest / 2) next (get_or others (slot next rest) 0)) ≡ some i
          pick true h r f = f
          pick false h r f = on h r f

-- the walk of the last key comes to the slot where it is linked
module _ (ks links : List ℕ) (n k s : ℕ) (size : length ks ≡ suc n) (last : get_or ks n 0 ≡ k) (apart : (j : ℕ) → j < n → get_or ks j 0 ≡ k → ⊥) (room : s < length links) (kept : Kept links (set links s (suc n)) n) where
  pub walk-free : (m l rest at next : ℕ) → suc n ≤ m + at → at < next → next ≤ n → n ≤ l + next → free_slot l links n rest next ≡ s → walk m (set links s (suc n)) ks k rest at next ≡ some n
  walk-free zero l rest at next h later within g f = absurd (omega arith)
  walk-free (suc m) l rest at next h later within g f =
      walk-on (set links s (suc n)) ks k (suc m) rest at next (omega arith) later (omega arith) m (omega arith) (apart (next - 1) (omega arith))
      ∙ ⊎_elim
      (λ e. rw (kept next rest (omega arith) e) (walk-free m n (rest / 2) next (get_or links (slot next rest) 0) (omega arith) (leads-later n next _ e) (leads-within n next _ e) (omega arith) (sym (free_on links n l n rest next g (omega arith) e) ∙ f)))
      here
      (either (leads n next (get_or links (slot next rest) 0)))
    where
      here : leads n next (get_or links (slot next rest) 0) ≡ false → walk m (set links s (suc n)) ks k (rest / 2) next (get_or (set links s (suc n)) (slot next rest) 0) ≡ some n
      here e =
          let at_slot : slot next rest ≡ s = sym (free-here links n l rest next e) ∙ f in
          let back : suc n - 1 ≡ n = omega arith in
          rw (at_slot, get_or-set_same links s (suc n) 0 room)
          (walk_here (set links s (suc n)) ks k m (rest / 2) next (suc n) (omega arith) (omega arith) (omega arith) (rw back last) ∙ ap some back)
