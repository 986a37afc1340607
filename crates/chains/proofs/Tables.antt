-- The table of one key more: the key is entered in the table of those before it, as a chain's head or at its free slot.
use Prim.Native.Nat.{ℕ, suc, ◌+◌, ◌<◌}
use native.Mathlib.Nat.{mod-lt}
use native.Mathlib.Numerals.{add-one}
use native.Mathlib.Omega.{arith}
use mathlib.Core.Path.{◌≡◌, ap, sym, ◌∙◌}
use mathlib.Core.Bool.{true, false}
use mathlib.Core.List.{List, [], ◌∷◌, ◌++◌}
use mathlib.Core.Logic.{⊎_elim}
use lib.ListN.{length, take, get_or, set, length-set, length-replicate}
use lib.Seq.{take-suc, length-take-le}
use Rattle.lists.proofs.Tests.{either}
use Rattle.woot.specs.declared.Table.{Table}
use Rattle.chains.specs.Sizes.{Sized}
use Rattle.woot.specs.Table.{chain_of, leads, free_slot, no_table, entered, entered_all, table_of}

-- ---- a key entered

pub chain-low : (k : ℕ) → chain_of k < 1024
unfolding chain_of
chain-low k = mod-lt _ (omega arith)

module _ (t : Table) (i k : ℕ) where
  -- the head of the key's chain
  abbrev pub head : ℕ
  head = get_or t.heads (chain_of k) 0

  pub entered_linked : leads i 0 head ≡ true → entered t i k ≡ record { heads = t.heads; links = set t.links (free_slot i t.links i k head) (suc i) }
  unfolding entered
  entered_linked e = rw e

  pub entered_headed : leads i 0 head ≡ false → entered t i k ≡ record { heads = set t.heads (chain_of k) (suc i); links = t.links }
  unfolding entered
  entered_headed e = rw e

-- ---- the table of keys

entered-last : (t : Table) (i : ℕ) (ks : List ℕ) (k : ℕ) → entered_all t i (ks ++ k ∷ []) ≡ entered (entered_all t i ks) (i + length ks) k
unfolding entered_all
entered-last t i [] k = let same : i ≡ i + 0 = omega arith in ap (λ (j : ℕ). entered t j k) same
entered-last t i (x ∷ ks) k = let same : suc i + length ks ≡ i + suc (length ks) = omega arith in entered-last (entered t i x) (suc i) ks k ∙ ap (λ (j : ℕ). entered (entered_all (entered t i x) (suc i) ks) j k) same

pub table_more : (ks : List ℕ) (i : ℕ) → i < length ks → table_of (take (suc i) ks) ≡ entered (table_of (take i ks)) i (get_or ks i 0)
unfolding table_of
table_more ks i h =
    let few : length (take i ks) ≡ i = length-take-le i ks (omega arith) in
    let same : 0 + i ≡ i = omega arith in
    rw (take-suc ks i 0 h, entered-last no_table 0 (take i ks) (get_or ks i 0), few, same)

-- what the code stores for one key more
pub enter : (ks : List ℕ) (i : ℕ) {t r : Table} → i < length ks → t ≡ table_of (take i ks) → entered t i (get_or ks i 0) ≡ r → r ≡ table_of (take (i + 1) ks)
enter ks i h f e = rw (add-one i) (sym e ∙ ap (λ (t : Table). entered t i (get_or ks i 0)) f ∙ sym (table_more ks i h))

-- ---- its arrays have their sizes

entered_sized : (t : Table) (i k : ℕ) → Sized t → Sized (entered t i k)
entered_sized t i k s =
    ⊎_elim (λ e. rw (entered_linked t i k e) (record { heads = s.heads; links = length-set t.links _ (suc i) ∙ s.links }))
    (λ e. rw (entered_headed t i k e) (record { heads = length-set t.heads (chain_of k) (suc i) ∙ s.heads; links = s.links }))
    (either (leads i 0 (head t i k)))

all_sized : (t : Table) (i : ℕ) (ks : List ℕ) → Sized t → Sized (entered_all t i ks)
unfolding entered_all
all_sized t i [] s = s
all_sized t i (k ∷ ks) s = all_sized (entered t i k) (suc i) ks (entered_sized t i k s)

pub table_sized : (ks : List ℕ) → Sized (table_of ks)
unfolding table_of no_table
table_sized ks = all_sized no_table 0 ks (record { heads = length-replicate {A = ℕ} 1024 0; links = length-replicate {A = ℕ} 2048 0 })
