-- By a table that agrees, what is looked up is what a plain search finds, and such is the table of characters.
use Prim.Native.Nat.{ℕ, zero, suc, ◌-◌, ◌≤◌, ◌<◌}
use native.Mathlib.Omega.{arith}
use mathlib.Core.Path.{◌≡◌, refl, ap, sym, ◌∙◌}
use mathlib.Core.Bool.{Bool, true, false, cond}
use mathlib.Core.List.{List, [], ◌∷◌}
use mathlib.Core.Option.{Option as Maybe, none, some}
use lib.Dec.{eqb}
use lib.ListN.{length, get_or, length-map}
use Rattle.lists.specs.Lists.{distinct}
use Rattle.lists.proofs.Throughout.{throughout-at}
use Rattle.woot.specs.declared.Table.{Table}
use Rattle.woot.specs.declared.Character.{Character}
use Rattle.woot.specs.Identifiers.{same}
use Rattle.woot.specs.Placing.{identifiers}
use Rattle.woot.specs.Table.{lookup, searched, found_at, agrees, key, keys, table_of}
use Rattle.chains.specs.Places.{place_found}
use Rattle.chains.proofs.Tables.{table_sized}
use Rattle.index.proofs.Agreeing.{table-agrees}
use Rattle.std.proofs.Common.{Option, Some, None}
use Rattle.index.specs.Keys.{AllSmall, further, first_index, found, place_in}
use Rattle.index.specs.Tabled.{Tabled}
use Rattle.index.proofs.Indices.{distinct-keys}
use Rattle.index.proofs.Searches.{later-place}
pub use Rattle.index.proofs.Agreeing.{is-at, at-is, lookup-is-search, agreeing_apart}

-- ---- what the code finds

-- the index before a place, and none before 0
abbrev found_before : ℕ → Option ℕ
found_before zero = None
found_before (suc i) = Some i

search-found : (k : ℕ) (ks : List ℕ) → found_before (place_found (searched k ks)) ≡ found k ks
unfolding searched found first_index
search-found k [] = refl
search-found k (x ∷ ks) = go (eqb k x) (searched k ks) (search-found k ks)
  where
    go : (b : Bool) (w : Maybe ℕ) {r : Option ℕ} → found_before (place_found w) ≡ r → found_before (place_found (cond b (some 0) (elim w [ none ↦ none | some i ↦ some (suc i) ]))) ≡ cond b (Some 0) (further 1 r)
    go true w e = refl
    go false none e = rw (← e)
    go false (some i) e = rw (← e) (ap Some (omega arith))

module _ {t : Table} {ks : List ℕ} (h : Tabled t ks) (k p : ℕ) (e : p ≡ place_found (lookup t ks k)) where
  tabled_found : found_before p ≡ found k ks
  tabled_found = rw e (ap (λ (w : Maybe ℕ). found_before (place_found w)) (lookup-is-search t ks h.agree k) ∙ search-found k ks)

  pub tabled_none : p ≡ 0 → None ≡ found k ks
  tabled_none f = rw f at tabled_found

  pub tabled_some : (p ≡ 0 → ⊥) → Some (p - 1) ≡ found k ks
  tabled_some f = go p f tabled_found
    where
      go : (p : ℕ) → (p ≡ 0 → ⊥) → found_before p ≡ found k ks → Some (p - 1) ≡ found k ks
      go zero f g = absurd (f refl)
      go (suc i) f g = let back : suc i - 1 ≡ i = omega arith in rw back g

-- ---- a place that is looked at first

own-place : {t : Table} {ks : List ℕ} → Tabled t ks → (i : ℕ) → i < length ks → lookup t ks (get_or ks i 0) ≡ some i
unfolding agrees
own-place {t} {ks} h i g = is-at i _ (throughout-at (found_at t ks) (length ks) i g h.agree)

-- where a key stands, the table has it
pub near_place : {t : Table} {ks : List ℕ} → Tabled t ks → (near k : ℕ) → 0 < near → near ≤ length ks → get_or ks (near - 1) 0 ≡ k → (k ≡ 0 → ⊥)
    → near ≡ place_in ks k
near_place {t} {ks} h near k a b e later =
    let looked : lookup t ks k ≡ some (near - 1) = ap (lookup t ks) (sym e) ∙ own-place h (near - 1) (omega arith) in
    let same : near ≡ suc (near - 1) = omega arith in
    let at : Some (near - 1) ≡ found k ks = tabled_some h k near (same ∙ ap place_found (sym looked)) (λ z. omega (arith, a, z)) in
    omega (arith, a, later-place ks k later (sym at))

-- ---- the table of characters

-- the table of distinct keys
pub tabled : (ks : List ℕ) → distinct eqb ks ≡ true → length ks ≤ 1024 → Tabled (table_of ks) ks
tabled ks h few = record { heads = (table_sized ks).heads; links = (table_sized ks).links; few = few; agree = table-agrees ks h few }

-- the table of characters in range, none of whose identifiers stands twice
pub tabled_characters : (cs : List Character) → AllSmall cs → distinct same (identifiers cs) ≡ true → length cs ≤ 1024 → Tabled (table_of (keys cs)) (keys cs)
tabled_characters cs s h few = tabled (keys cs) (distinct-keys cs s ∙ h) (omega (arith, length-map cs (λ (c : Character). key c.id)))
