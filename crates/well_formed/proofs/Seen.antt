-- Whether a key has a place, by what a search finds: what is found has one, the end mark has one, and else there is none.
use Prim.Native.Nat.{ℕ, suc, ◌≤◌, ◌<◌}
use native.Mathlib.Omega.{arith}
use mathlib.Core.Path.{◌≡◌, refl}
use mathlib.Core.Bool.{true, false}
use mathlib.Core.List.{List, []}
use borrow.Author.Tests.{ne_eqb, le-leb, lt-leb}
use lib.ListN.{length}
use Rattle.std.proofs.Common.{Option, Some, None}
use Rattle.index.specs.Keys.{index_in, found, place_in}
use Rattle.index.proofs.Indices.{index-here, index-later}
use Rattle.index.proofs.Searches.{first_says, later-place}
use Rattle.pending.specs.Ready.{held_in}
use Rattle.well_formed.specs.PendingForm.{unheld_key}

module _ (ks : List ℕ) (k : ℕ) where
  placed : (k ≡ 0 → ⊥) → place_in ks k ≤ suc (length ks) → unheld_key ks k ≡ false
  unfolding unheld_key held_in
  placed n h = rw (ne_eqb k 0 n, le-leb (place_in ks k) (suc (length ks)) h)

  nowhere : (k ≡ 0 → ⊥) → suc (length ks) < place_in ks k → unheld_key ks k ≡ true
  unfolding unheld_key held_in
  nowhere n h = rw (ne_eqb k 0 n, lt-leb (place_in ks k) (suc (length ks)) h)

  pub found-held : (j : ℕ) → (k ≡ 0 → ⊥) → found k ks ≡ Some j → unheld_key ks k ≡ false
  unfolding found
  found-held j n e = let f = first_says _ ks e in placed n (omega (arith, later-place ks k n e, f.within))

  pub nothing_unheld : (k ≡ 0 → ⊥) → (k ≡ 1 → ⊥) → found k ks ≡ None → unheld_key ks k ≡ true
  unfolding index_in
  nothing_unheld n m e = nowhere n (omega (arith, later-place ks k n e, index-later k 1 [] m))

-- the end mark has a place among any keys
pub end-held : (ks : List ℕ) (k : ℕ) → k ≡ 1 → unheld_key ks k ≡ false
end-held ks k e = go (found k ks) refl
  where
    later : k ≡ 0 → ⊥
    later f = omega arith

    go : (r : Option ℕ) → found k ks ≡ r → unheld_key ks k ≡ false
    go (Some j) f = found-held ks k j later f
    go None f = placed ks k later (omega (arith, later-place ks k later f, index-here k 1 [] e))
