-- The lengths of the arrays in a document, from what owning it tells, and those of its columns.
use Prim.Native.Nat.{ℕ, ◌+◌, ◌*◌, ◌≤◌}
use native.Mathlib.Omega.{arith}
use mathlib.Core.Path.{◌≡◌}
use mathlib.Core.List.{List}
use mir.Val.{Val}
use denote.Laws.{Is}
use lib.ListN.{length, drop, length-drop}
use lib.Seq.{length-take-le}
use Rattle.woot.specs.declared.Document.{Document as InMemory}
use Rattle.woot.specs.declared.Replica.{Replica as ReplicaInMemory}
use Rattle.woot.specs.Memory.{column}
use Rattle.woot.specs.contracts.Document as document
use Rattle.woot.specs.contracts.Replica as replica
use Rattle.memory.specs.Lent.{Sized, Slots, columns_as, view}

-- the arrays of a document in memory
abbrev pub FullArrays : InMemory → Type 0
FullArrays d = Sized d.characters d.toggles d.pending d.table.heads d.table.links

pub full_arrays : {d : InMemory} {vs : List Val} → Is document.the_row d vs → FullArrays d
full_arrays g =
    record {
      characters = g.1.1.0.1.0.1;
      toggles = g.1.1.1.0.1.0.1;
      pending = g.1.1.1.1.1.0.1.0.1;
      heads = g.1.1.1.1.1.1.1.0.1.1.0.1.0.1;
      links = g.1.1.1.1.1.1.1.0.1.1.1.0.1.0.1;
    }

pub full-replica : {r : ReplicaInMemory} {vs : List Val} → Is replica.the_row r vs → FullArrays r.document
full-replica g = full_arrays g.1.1.1.0

-- the columns of arrays of their lengths
pub column-length : (m j : ℕ) (xs : List ℕ) → j * m + m ≤ length xs → length (column m j xs) ≡ m
column-length m j xs h = length-take-le m (drop (j * m) xs) (omega (arith, length-drop (j * m) xs))

-- where a column begins and ends in an array of four, for the steps that lend it
pub begins : (m j : ℕ) → j * m ≤ j * m + m
begins m j = omega arith

pub record Ends (m : ℕ) (xs : List ℕ) : Type 0 where
  pub first : 1 * m ≤ length xs
  pub second : 2 * m ≤ length xs
  pub third : 3 * m ≤ length xs
  pub fourth : 4 * m ≤ length xs

pub ends : (m : ℕ) {xs : List ℕ} → length xs ≡ 4 * m → Ends m xs
ends m h = record { first = omega arith; second = omega arith; third = omega arith; fourth = omega arith }

-- as many as the slots of a column can be in use of each
pub in-columns : (m : ℕ) {xs : List ℕ} {n : ℕ} → Ends m xs → n ≤ m
    → (n ≤ length (column m 0 xs)) × ((n ≤ length (column m 1 xs)) × ((n ≤ length (column m 2 xs)) × (n ≤ length (column m 3 xs))))
in-columns m {xs} {n} e h =
    (at 0 (omega (arith, e.first)), (at 1 (omega (arith, e.second)), (at 2 (omega (arith, e.third)), at 3 (omega (arith, e.fourth)))))
  where
    at : (j : ℕ) → j * m + m ≤ length xs → n ≤ length (column m j xs)
    at j f = omega (arith, column-length m j xs f)

pub sized_slots : {characters toggles pending heads links : List ℕ} (n w : ℕ) → Sized characters toggles pending heads links
    → Slots (columns_as characters toggles n pending w heads links)
sized_slots {characters} {toggles} {pending} n w s =
    record {
      ids = column-length 1024 0 characters (omega (arith, s.characters));
      previous = column-length 1024 1 characters (omega (arith, s.characters));
      next = column-length 1024 2 characters (omega (arith, s.characters));
      points = column-length 1024 3 characters (omega (arith, s.characters));
      toggles = s.toggles;
      own = column-length 512 0 pending (omega (arith, s.pending));
      firstKeys = column-length 512 1 pending (omega (arith, s.pending));
      secondKeys = column-length 512 2 pending (omega (arith, s.pending));
      values = column-length 512 3 pending (omega (arith, s.pending));
      heads = s.heads;
      links = s.links;
    }

pub full-view : (d : InMemory) → FullArrays d → Slots (view d)
full-view d f = sized_slots d.length d.waiting f
