-- What a flag tells of a place, and what is left once the flag of a row is put out.
use Prim.Native.Nat.{ℕ, ◌+◌, ◌<◌}
use native.Mathlib.Omega.{arith}
use mathlib.Core.Path.{◌≡◌, ap, sym, ◌∙◌}
use mathlib.Core.Bool.{true, false, not}
use mathlib.Core.List.{List}
use borrow.Author.Tests.{eq-eqb, ne_eqb}
use lib.Dec.{eqb}
use lib.ListN.{length, get_or, set}
use lib.Seq.{get_or-set_same, get_or-set_other}
use Rattle.sequencing.specs.Steps.{left_at, RowsAlone}

module _ (flags : List ℕ) (p : ℕ) where
  pub flagged : (get_or flags p 0 ≡ 0 → ⊥) → left_at flags p ≡ true
  unfolding left_at
  flagged h = ap not (ne_eqb (get_or flags p 0) 0 h)

  pub unflagged : get_or flags p 0 ≡ 0 → left_at flags p ≡ false
  unfolding left_at
  unflagged h = ap not (eq-eqb (get_or flags p 0) 0 h)

-- one flag is changed, and no other
module _ (flags : List ℕ) (q v : ℕ) where
  pub left_other : (p : ℕ) → (q ≡ p → ⊥) → left_at (set flags q v) p ≡ left_at flags p
  unfolding left_at
  left_other p h = ap (λ (k : ℕ). not (eqb k 0)) (get_or-set_other flags q p v 0 (λ e. h (sym e)))

  pub left-set : q < length flags → left_at (set flags q v) q ≡ not (eqb v 0)
  unfolding left_at
  left-set h = ap (λ (k : ℕ). not (eqb k 0)) (get_or-set_same flags q v 0 h)

-- a row's flag is changed, so that the others stay as they are
pub still_alone : {flags : List ℕ} {n : ℕ} (k v : ℕ) → k < n → RowsAlone flags n → RowsAlone (set flags (k + 1) v) n
still_alone {flags} k v h a =
    record {
      begin = left_other flags (k + 1) v 0 (λ e. omega (arith, e)) ∙ a.begin;
      behind = λ p g. left_other flags (k + 1) v p (λ e. omega (arith, e, g, h)) ∙ a.behind p g;
    }
