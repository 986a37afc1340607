-- A walk down a chain, step by step: each leads to a later place, so as many steps as there are keys are enough.
use Prim.Native.Nat.{ℕ, zero, suc, ◌+◌, ◌-◌, ◌/◌, ◌≤◌, ◌<◌}
use native.Mathlib.Omega.{arith}
use mathlib.Core.Path.{◌≡◌, refl, ap, sym, ◌∙◌}
use mathlib.Core.Bool.{Bool, true, false, cond}
use mathlib.Core.List.{List}
use mathlib.Core.Option.{Option, none, some}
use mathlib.Core.Logic.{⊎_elim}
use borrow.Author.Tests.{eq-eqb, ne_eqb, eqb-true, le-leb, leb-true, lt-ltb, ltb-true}
use lib.Dec.{eqb, leb, ltb}
use lib.ListN.{length, get_or}
use Rattle.lists.proofs.Tests.{either, and_intro, and_left_lem, and_right, no-some, some-eq}
use Rattle.woot.specs.Table.{slot, leads, walk}

-- ---- whether a link leads on

module _ (n at next : ℕ) where
  pub leads-on : at < next → next ≤ n → leads n at next ≡ true
  leads-on h g = and_intro (lt-ltb at next h) (le-leb next n g)

  pub leads-later : leads n at next ≡ true → at < next
  leads-later e = ltb-true at next (and_left_lem (ltb at next) (leb next n) e)

  pub leads-within : leads n at next ≡ true → next ≤ n
  leads-within e = leb-true next n (and_right (ltb at next) (leb next n) e)

  pub leads-none : n ≤ at → leads n at next ≡ false
  leads-none h = ⊎_elim (λ e. absurd (omega (arith, leads-later e, leads-within e))) (λ e. e) (either (leads n at next))

  pub leads_nowhere : (at < next → next ≤ n → ⊥) → leads n at next ≡ false
  leads_nowhere f = ⊎_elim (λ e. absurd (f (leads-later e) (leads-within e))) (λ e. e) (either (leads n at next))

-- ---- a walk

module _ (links ks : List ℕ) (k : ℕ) where
  -- what one step makes of what the next ones find
  abbrev step : ℕ → ℕ → Option ℕ → Option ℕ
  step at next w = cond (leads (length ks) at next) (cond (eqb (get_or ks (next - 1) 0) k) (some (next - 1)) w) none

  pub walk_ends : (n rest at next : ℕ) → leads (length ks) at next ≡ false → walk n links ks k rest at next ≡ none
  unfolding walk
  walk_ends zero rest at next e = refl
  walk_ends (suc n) rest at next e = rw e

  pub walk-enough : (n m rest at next : ℕ) → length ks ≤ n + at → length ks ≤ m + at → walk n links ks k rest at next ≡ walk m links ks k rest at next
  unfolding walk
  walk-enough zero m rest at next h g = sym (walk_ends m rest at next (leads-none (length ks) at next (omega arith)))
  walk-enough (suc n) zero rest at next h g = walk_ends (suc n) rest at next (leads-none (length ks) at next (omega arith))
  walk-enough (suc n) (suc m) rest at next h g =
      ⊎_elim
      (λ e. let later = leads-later (length ks) at next e in ap (step at next) (walk-enough n m (rest / 2) next (get_or links (slot next rest) 0) (omega arith) (omega arith)))
      (λ e. walk_ends (suc n) rest at next e ∙ sym (walk_ends (suc m) rest at next e))
      (either (leads (length ks) at next))

  module _ (n rest at next : ℕ) (enough : length ks ≤ n + at) (later : at < next) (within : next ≤ length ks) where
    pub walk_here : get_or ks (next - 1) 0 ≡ k → walk n links ks k rest at next ≡ some (next - 1)
    unfolding walk
    walk_here e = go n enough
      where
        go : (n : ℕ) → length ks ≤ n + at → walk n links ks k rest at next ≡ some (next - 1)
        go zero h = absurd (omega arith)
        go (suc n) h = rw (leads-on (length ks) at next later within, eq-eqb (get_or ks (next - 1) 0) k e)

    pub walk-on : (m : ℕ) → length ks ≤ m + next → (get_or ks (next - 1) 0 ≡ k → ⊥) → walk n links ks k rest at next ≡ walk m links ks k (rest / 2) next (get_or links (slot next rest) 0)
    unfolding walk
    walk-on m h other = go n enough
      where
        go : (n : ℕ) → length ks ≤ n + at → walk n links ks k rest at next ≡ walk m links ks k (rest / 2) next (get_or links (slot next rest) 0)
        go zero g = absurd (omega arith)
        go (suc n) g =
            rw (leads-on (length ks) at next later within, ne_eqb (get_or ks (next - 1) 0) k other)
            (walk-enough n m (rest / 2) next (get_or links (slot next rest) 0) (omega arith) (omega arith))

  -- what is found is there
  pub walk-sound : (n rest at next i : ℕ) → walk n links ks k rest at next ≡ some i → (i < length ks) × (get_or ks i 0 ≡ k)
  unfolding walk
  walk-sound zero rest at next i e = no-some e
  walk-sound (suc n) rest at next i e =
      go (leads (length ks) at next) (eqb (get_or ks (next - 1) 0) k) refl refl (walk-sound n (rest / 2) next (get_or links (slot next rest) 0) i) e
    where
      go : (a b : Bool) {w : Option ℕ} → leads (length ks) at next ≡ a → eqb (get_or ks (next - 1) 0) k ≡ b → (w ≡ some i → (i < length ks) × (get_or ks i 0 ≡ k)) → cond a (cond b (some (next - 1)) w) none ≡ some i → (i < length ks) × (get_or ks i 0 ≡ k)
      go false b p q r f = no-some f
      go true true p q r f =
          let same : next - 1 ≡ i = some-eq f in
          rw (← same) (omega (arith, leads-later (length ks) at next p, leads-within (length ks) at next p), eqb-true _ _ q)
      go true false p q r f = r f
