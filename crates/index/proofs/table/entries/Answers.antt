-- `index::table::entries` meets its contract. The loop's invariant: the count is that of the first i slots.
use Prim.Native.Nat.{ℕ, ◌+◌, ◌<◌}
use native.Mathlib.Numerals.{add-one}
use native.Mathlib.Omega.{arith}
use mathlib.Core.Path.{◌≡◌, refl, ap, ◌∙◌}
use mathlib.Core.List.{List, [], ◌∷◌, ◌++◌}
use lib.ListN.{length, take, get_or}
use lib.Seq.{take-suc, take_all}
use Rattle.index.specs.Entries.{filled, entries}
use Rattle.index.proofs.table.entries.Goals as goal

entries-last : (xs : List ℕ) (x : ℕ) → entries (xs ++ x ∷ []) ≡ entries xs + filled x
unfolding entries
entries-last [] x = omega arith
entries-last (y ∷ xs) x = let r = entries-last xs x in omega arith

entries-more : (xs : List ℕ) (i : ℕ) → i < length xs
    → entries (take (i + 1) xs) ≡ entries (take i xs) + filled (get_or xs i 0)
entries-more xs i h = rw (add-one i, take-suc xs i 0 h) (entries-last (take i xs) (get_or xs i 0))

pub loop-slot-init : goal.loop-slot-init
unfolding entries
loop-slot-init c = (omega arith, refl)

pub loop-slot-preserved : goal.loop-slot-preserved
loop-slot-preserved c =
    let l = c.loop-slot in
    let more = entries-more c.args.slots.now l.slot-index (omega arith) in
    (omega (arith, c.filled-count.ensures.upper_bound), omega (arith, l.invariant.1, c.filled-count.ensures.value, more))

pub returns : goal.returns
returns c =
    let l = c.loop-slot in
    record {
      value = l.invariant.1 ∙ ap entries (take_all l.slot-index _ (omega arith));
      upper_bound = omega arith;
    }
