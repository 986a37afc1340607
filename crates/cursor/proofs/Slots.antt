-- A cursor by the columns of the characters: what was found in a slot is what it keeps to, and the characters through a
-- key are a beginning of the arrays.
use Prim.Native.Nat.{ℕ, ◌+◌, ◌-◌, ◌≤◌, ◌<◌, min}
use native.Mathlib.Omega.{arith}
use mathlib.Core.Path.{◌≡◌, ap, sym, ◌∙◌}
use mathlib.Core.Bool.{Bool, true, false}
use mathlib.Core.List.{List, []}
use borrow.Author.Tests.{lt-ltb, le-ltb}
use lib.Dec.{eqb, ltb}
use lib.ListN.{length, take, get_or, length-map}
use lib.Seq.{take-take, length-take-le}
use Rattle.lists.proofs.Indices.{take-map}
use Rattle.lists.proofs.Members.{keep-length}
use Rattle.lists.proofs.Padding.{first-or-all}
use Rattle.woot.specs.declared.Character.{Character}
use Rattle.woot.specs.Operations.{is_visible}
use Rattle.woot.specs.Placing.{place_of}
use Rattle.woot.specs.Calls.{visibles}
use Rattle.woot.specs.Cursor.{left_of, through, visible_through}
use Rattle.woot.specs.Table.{key, keys}
use Rattle.woot.specs.Memory.{identifier, characters_of, toggle_counts}
use Rattle.memory.proofs.Characters.{key-identifier, identifier-small, rows-length, rows-toggles}
use Rattle.std.proofs.Common.{Some, None}
use Rattle.index.specs.Keys.{AllSmall, found, place_in}
use Rattle.index.proofs.Keys.{key-begin}
use Rattle.index.proofs.Indices.{place-keys}
use Rattle.index.proofs.Searches.{begin-place, later-place, first_says}
use Rattle.visible.specs.Shown.{nth_index}
use Rattle.visible.proofs.Visibility.{visibles-length}
use Rattle.visible.proofs.Shown.{nth-says, slot-key, key-none, left_key}
use Rattle.cursor.specs.Steps.{anchor_of}

-- ---- what a cursor keeps to

module _ (cs : List Character) (g : ℕ) where
  anchor : (k : ℕ) → k ≡ key (left_of cs g) → {b : Bool} → b ≡ ltb (length (visibles cs)) g → record { left = k; beyond = b } ≡ anchor_of cs g
  unfolding anchor_of
  anchor k e f = rw (e, f)

  pub top_anchor : g ≡ 0 → record { left = 0; beyond = false } ≡ anchor_of cs g
  top_anchor e = anchor 0 (rw e (sym key-begin)) (sym (le-ltb (length (visibles cs)) g (omega (arith, e))))

  module _ (some : g ≡ 0 → ⊥) where
    pub found_anchor : (ids : List ℕ) (n i : ℕ) → keys cs ≡ take n ids → nth_index is_visible cs (g - 1) ≡ Some i → i < n
        → record { left = get_or ids i 0; beyond = false } ≡ anchor_of cs g
    found_anchor ids n i e f h =
        anchor (get_or ids i 0) (slot-key cs ids n (g - 1) i 0 e f h ∙ left_key (visibles cs) g some)
        (sym (le-ltb (length (visibles cs)) g (omega (arith, (nth-says is_visible cs (g - 1) f).counted, visibles-length cs))))

    pub no_anchor : nth_index is_visible cs (g - 1) ≡ None → record { left = 0; beyond = true } ≡ anchor_of cs g
    no_anchor f =
        anchor 0 (key-none cs (g - 1) 0 f ∙ left_key (visibles cs) g some)
        (sym (lt-ltb (length (visibles cs)) g (omega (arith, nth-says is_visible cs (g - 1) f, visibles-length cs, some))))

-- ---- the characters through a key

-- as a search among the keys tells
module _ (ks : List ℕ) (k : ℕ) {n : ℕ} (many : length ks ≡ n) where
  pub through-begin : k ≡ 0 → 0 ≡ min (place_in ks k) n
  through-begin e = omega (arith, begin-place ks k e)

  module _ (some : k ≡ 0 → ⊥) where
    pub through-found : (i : ℕ) → found k ks ≡ Some i → i + 1 ≡ min (place_in ks k) n
    unfolding found
    through-found i e = omega (arith, later-place ks k some e, (first_says (λ x. eqb k x) ks e).within, many)

    pub through-all : found k ks ≡ None → n ≡ min (place_in ks k) n
    through-all e = omega (arith, later-place ks k some e, many)

-- so many are visible
pub count-few : (ts : List ℕ) (m : ℕ) {r : ℕ} → m ≤ length ts → ((cs : List Character) → toggle_counts cs ≡ take m ts → r ≡ length (visibles cs)) → r ≤ m
count-few ts m h f =
    let rows = characters_of [] [] [] [] ts m in
    omega (arith, f rows (rows-toggles [] [] [] [] ts m h), visibles-length rows, keep-length is_visible rows, rows-length [] [] [] [] ts m)

module _ (cs : List Character) (ids ts : List ℕ) (n k : ℕ) {last : ℕ} (e : last ≡ min (place_in (take n ids) k) n) where
  pub first_counts : toggle_counts cs ≡ take n ts → toggle_counts (take last cs) ≡ take last ts
  first_counts t = sym (take-map (λ (c : Character). c.toggles) last cs) ∙ ap (take last) t ∙ take-take last n ts (omega (arith, e))

  pub first-through : n ≤ length ids → keys cs ≡ take n ids → AllSmall cs → length (visibles (take last cs)) ≡ visible_through cs (identifier k)
  unfolding visible_through through
  first-through h ks small =
      ap (λ (ds : List Character). length (visibles ds))
      (ap (λ (m : ℕ). take m cs) e ∙ first-or-all cs (place_in (take n ids) k) n many ∙ ap (λ (m : ℕ). take m cs) place)
    where
      many : length cs ≡ n
      many = sym (length-map cs (λ (c : Character). key c.id)) ∙ ap length ks ∙ length-take-le n ids h

      place : place_in (take n ids) k ≡ place_of cs (identifier k)
      place = rw (← ks) (ap (place_in (keys cs)) (sym (key-identifier k)) ∙ place-keys (identifier k) (identifier-small k) cs small)
