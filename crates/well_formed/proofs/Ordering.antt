-- A character stands between its neighbours where its place stands between theirs, which are found by their keys.
use Prim.Native.Nat.{ℕ, suc, ◌+◌, ◌≤◌, ◌<◌}
use native.Mathlib.Numerals.{add-one}
use native.Mathlib.Omega.{arith}
use mathlib.Core.Path.{◌≡◌, refl, sym, ap, ap₂, ◌∙◌}
use mathlib.Core.Bool.{Bool, true, ◌&&◌, and-true}
use mathlib.Core.List.{List, [], ◌∷◌, ◌++◌}
use borrow.Author.Tests.{le-leb}
use lib.Dec.{eqb, leb, ltb}
use lib.ListN.{length, take, get_or}
use lib.Seq.{length-take-le}
use Rattle.lists.specs.Lists.{every, distinct, throughout}
use Rattle.lists.proofs.Throughout.{throughout_cong}
use Rattle.lists.proofs.Members.{get_member, every_member}
use Rattle.lists.proofs.Indices.{every-throughout, element_at}
use Rattle.woot.specs.declared.Table.{Table}
use Rattle.woot.specs.declared.Identifier.{Identifier}
use Rattle.woot.specs.declared.Character.{Character}
use Rattle.woot.specs.Identifiers.{begin, end, same}
use Rattle.woot.specs.Operations.{origin}
use Rattle.woot.specs.Placing.{identifiers, sequence, place_of, held, above}
use Rattle.woot.specs.Ranges.{character_id, character_in_range}
use Rattle.woot.specs.State.{blank_character}
use Rattle.woot.specs.Form.{ordered}
use Rattle.woot.specs.Memory.{identifier, character_of, character_at, characters_of}
use Rattle.convergence.proofs.Ranges.{in-range, origin_ranged}
use Rattle.convergence.proofs.Places.{index-later, not-begin}
use Rattle.convergence.proofs.Characters.{located-index, located-at}
use Rattle.index.specs.Keys.{place_in}
use Rattle.index.specs.Tabled.{Tabled}
use Rattle.index.proofs.Indices.{place-keys, distinct-keys}
use Rattle.index.proofs.Agreement.{agreeing_apart}
use Rattle.memory.proofs.Characters.{key-identifier, identifier-small, rows-length, rows-small, rows-keys, rows_at}
use Rattle.well_formed.specs.Order.{stands_between, between_at}

-- ---- by places

module _ (cs : List Character) (ranges : every character_in_range cs ≡ true) (apart : distinct same (identifiers cs) ≡ true) where
  -- the character at an index
  abbrev at : ℕ → Character
  at i = get_or cs i blank_character

  id_in_range : (i : ℕ) → i < length cs → character_id (at i).id ≡ true
  unfolding origin
  id_in_range i h = (in-range (origin (at i)) (origin_ranged (at i) (every_member character_in_range ranges (get_member cs i blank_character h)))).id

  own-place : (i : ℕ) → i < length cs → place_of cs (at i).id ≡ i + 1
  unfolding place_of sequence
  own-place i h =
      omega (
        arith,
        index-later (at i).id begin (identifiers cs ++ end ∷ []) (not-begin (at i).id (id_in_range i h)),
        located-index 1 cs (end ∷ []) apart (located-at 1 i blank_character cs h),
      )

  ordered_at : (i : ℕ) → i < length cs → ordered cs (at i) ≡ stands_between (length cs) i (place_of cs (at i).previous) (place_of cs (at i).next)
  unfolding ordered above held stands_between
  ordered_at i h =
      let inside : leb (i + 1) (suc (length cs)) ≡ true = le-leb (i + 1) (suc (length cs)) (omega arith) in
      rw (own-place i h, add-one (length cs), inside)
      (ap (λ (b : Bool). b && (ltb (i + 1) (place_of cs (at i).next) && leb (place_of cs (at i).next) (suc (length cs))))
      (and-true (ltb (place_of cs (at i).previous) (i + 1))))

-- ---- by keys

module _ (is ps ns points ts : List ℕ) (n : ℕ) (hi : n ≤ length is) where
  abbrev rows : List Character
  rows = characters_of is ps ns points ts n

  -- where a neighbour of a character stands
  neighbour : (f : Character → Identifier) (xs : List ℕ) → ((i : ℕ) → f (character_at is ps ns points ts i) ≡ identifier (get_or xs i 0)) → (i : ℕ) → i < n
      → place_of rows (f (get_or rows i blank_character)) ≡ place_in (take n is) (get_or xs i 0)
  neighbour f xs e i h =
      ap (place_of rows) (ap f (rows_at is ps ns points ts n i blank_character h) ∙ e i)
      ∙ sym (place-keys (identifier (get_or xs i 0)) (identifier-small (get_or xs i 0)) rows (rows-small is ps ns points ts n))
      ∙ ap₂ place_in (rows-keys is ps ns points ts n hi) (key-identifier (get_or xs i 0))

  -- no key stands twice
  rows_apart : {t : Table} → Tabled t (take n is) → distinct same (identifiers rows) ≡ true
  rows_apart {t} h =
      sym (distinct-keys rows (rows-small is ps ns points ts n))
      ∙ ap (distinct eqb) (rows-keys is ps ns points ts n hi)
      ∙ agreeing_apart t (take n is) h.agree

  rows-order : {t : Table} → Tabled t (take n is) → every character_in_range rows ≡ true
      → throughout (between_at (take n is) ps ns) (length (take n is)) ≡ every (ordered rows) rows
  unfolding between_at character_of
  rows-order h ranges =
      let many : length (take n is) ≡ n = length-take-le n is hi in
      let size : length rows ≡ n = rows-length is ps ns points ts n in
      sym (every-throughout (ordered rows) rows blank_character
      ∙ ap (throughout (element_at (ordered rows) rows blank_character)) (size ∙ sym many)
      ∙ throughout_cong _ (between_at (take n is) ps ns) (length (take n is))
      (λ i k.
      let g : i < n = omega arith in
      ordered_at rows ranges (rows_apart h) i (omega arith)
      ∙ rw (size, many, neighbour (λ c. c.previous) ps (λ j. refl) i g, neighbour (λ c. c.next) ns (λ j. refl) i g)))

  -- what a test by places says
  pub rows-ordered : {t : Table} → Tabled t (take n is) → {b : Bool} → b ≡ throughout (between_at (take n is) ps ns) (length (take n is))
      → every character_in_range rows ≡ true → b ≡ every (ordered rows) rows
  rows-ordered h e ranges = e ∙ rows-order h ranges
