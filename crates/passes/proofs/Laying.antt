-- A document that holds characters and nothing else: what is in use of its arrays, and that its table finds the
-- keys.
use Prim.Native.Nat.{ℕ, ◌+◌, ◌≤◌, ◌<◌}
use native.Mathlib.Omega.{arith}
use mathlib.Core.Path.{◌≡◌, sym, ◌∙◌}
use mathlib.Core.List.{List, []}
use lib.ListN.{take}
use lib.Seq.{take-take}
use Rattle.lists.proofs.Tests.{or_left, or_right, or-false}
use Rattle.slots.specs.Slots.{put_at}
use Rattle.woot.specs.declared.Insert.{Insert}
use Rattle.woot.specs.declared.Character.{Character}
use Rattle.woot.specs.declared.Table.{Table}
use Rattle.woot.specs.declared.Operation.TheVariants.{Insert as insert}
use Rattle.woot.specs.Pending.{crossed}
use Rattle.woot.specs.Table.{key, keys, table_of}
use Rattle.woot.specs.Memory.{previous_keys, next_keys, key_column, previous_column, next_column, code_point_column}
use Rattle.memory.specs.Columns.{Document}
use Rattle.memory.specs.Lent.{Slots}
use Rattle.memory.proofs.Stored.{Parts, document-path, document-parts}
use Rattle.index.specs.Keys.{AllSmall}
use Rattle.index.specs.Tabled.{Tabled}
use Rattle.index.proofs.Agreement.{tabled_characters}
use Rattle.integration.specs.declared.Placement.{Placement}
use Rattle.integration.specs.declared.Placement.TheVariants.{Missing, Crossed, Unplaceable, Below}
use Rattle.integration.specs.Placements.{placement_of}
use Rattle.integration.proofs.Placements.{says}
use Rattle.delivery.proofs.Works.{parts-slots, parts_swept, used}
use Rattle.delivery.proofs.Changes.{placed-parts}
use Rattle.passes.specs.declared.Taken.TheVariants.{Placed, Lacking, Dropped}
use Rattle.passes.specs.Steps.{laid_as, Laid, TakenAs}

module _ {d : Document} {cs : List Character} (l : Laid d cs) where
  pub laid_parts : Parts d cs []
  laid_parts = document-parts l.tidy

  kept : Tabled (table_of (keys cs)) (keys cs)
  kept = tabled_characters cs l.small l.apart l.few

  pub laid_count : d.length ≤ 1024
  laid_count = omega (arith, laid_parts.length-is, l.few)

  pub laid_slots : Slots d
  laid_slots = parts-slots cs [] l.few (omega arith) laid_parts kept

  -- the columns in use
  pub laid_keys : take d.length d.ids ≡ keys cs
  laid_keys = used 1024 _ cs d.length laid_parts.ids laid_parts.length-is

  pub laid_previous : take d.length d.previous ≡ previous_keys cs
  laid_previous = used 1024 _ cs d.length laid_parts.previous laid_parts.length-is

  pub laid_next : take d.length d.next ≡ next_keys cs
  laid_next = used 1024 _ cs d.length laid_parts.next laid_parts.length-is

  pub laid_tabled : Tabled d.table (take d.length d.ids)
  laid_tabled = rw (laid_keys, laid_parts.table) kept

-- the keys in use at the front of the array are those of its first column
pub front : (xs : List ℕ) (n : ℕ) → n ≤ 1024 → take n xs ≡ take n (take 1024 xs)
front xs n h = sym (take-take n 1024 xs h)

-- ---- an insert that is offered

-- what is found for it on the arrays
abbrev pub Found : Document → Insert → Placement → Type 0
Found d i p = (cs : List Character) → take d.length d.ids ≡ keys cs → take d.length d.previous ≡ previous_keys cs
    → take d.length d.next ≡ next_keys cs → AllSmall cs → p ≡ placement_of cs i

module _ (characters : List ℕ) {toggles : List ℕ} {n : ℕ} {table : Table} {cs : List Character}
    (l : Laid (laid_as characters toggles n table) cs) (i : Insert) (p : Placement)
    (f : Found (laid_as characters toggles n table) i p) where
  sought : placement_of cs i ≡ p
  sought = sym (f cs (laid_keys l) (laid_previous l) (laid_next l) l.small)

  pub taken_lacking : p ≡ Missing → TakenAs cs i characters toggles n table Lacking
  unfolding TakenAs
  taken_lacking e = (l.tidy, says cs i Missing (sought ∙ e))

  pub taken-crossed : p ≡ Crossed → TakenAs cs i characters toggles n table Dropped
  unfolding TakenAs
  taken-crossed e =
      let s = says cs i Crossed (sought ∙ e) in
      (l.tidy, s.0, or_left (crossed cs (insert i)) _ s.1)

  pub taken-unplaceable : p ≡ Unplaceable → TakenAs cs i characters toggles n table Dropped
  unfolding TakenAs
  taken-unplaceable e =
      let s = says cs i Unplaceable (sought ∙ e) in
      (l.tidy, s.0, or_right (crossed cs (insert i)) _ s.2)

  module _ (k : ℕ) (e : p ≡ Below k) where
    pub below-within : k ≤ n
    below-within = omega (arith, (says cs i (Below k) (sought ∙ e)).4, (laid_parts l).length-is)

    pub taken-placed : n < 1024 → (xs : List ℕ) {ts : List ℕ} {made : Table}
        → key_column xs ≡ put_at n k (key i.id) (key_column characters)
        → previous_column xs ≡ put_at n k (key i.previous) (previous_column characters)
        → next_column xs ≡ put_at n k (key i.next) (next_column characters)
        → code_point_column xs ≡ put_at n k i.code_point (code_point_column characters)
        → ts ≡ put_at n k 0 toggles
        → made ≡ table_of (take (n + 1) (key_column xs))
        → TakenAs cs i xs ts n made Placed
    unfolding TakenAs
    taken-placed room xs a b c g t h =
        let s = says cs i (Below k) (sought ∙ e) in
        let q = document-path (placed-parts (parts_swept (laid_parts l)) k i room a b c g t h) in
        (rw s.3 q, s.0, or-false s.1 s.2)
