-- For the proofs of the code alone: a document at work in a call, what carrying out operations on it needs, and what it
-- leaves.
use Rattle.std.specs.Prelude.{ℕ, ◌+◌, ◌^◌, ◌≤◌, ◌<◌, ◌≡◌, true, ◌||◌, cond, List, map, length, take}
use Rattle.std.proofs.Math.Option.{Option as Maybe, none, some}
use Rattle.lists.specs.Lists.{every, distinct}
use Rattle.lists.specs.Padding.{pad}
use Rattle.woot.specs.declared.Insert.{Insert}
use Rattle.woot.specs.declared.Toggle.{Toggle}
use Rattle.woot.specs.declared.Operation.{Operation}
use Rattle.woot.specs.declared.Character.{Character}
use Rattle.memory.specs.Columns.{Document}
use Rattle.woot.specs.Identifiers.{same}
use Rattle.woot.specs.Limits.{capacity}
use Rattle.woot.specs.Table.{keys, chains, table_links}
use Rattle.woot.specs.Memory.{character_slots, pending_slots, previous_keys, next_keys, code_points_of, toggle_counts}
use Rattle.woot.specs.Memory.{own_key, first_key, second_key, value_of}
use Rattle.woot.specs.Operations.{character}
use Rattle.woot.specs.Ranges.{in_range}
use Rattle.memory.specs.Columns.{characters_in, operations_in, document_of}
use Rattle.woot.specs.Placing.{identifiers, insert_at, integrate_insert}
use Rattle.woot.specs.Pending.{executable, crossed, unplaceable, integrate, Extracted, earliest, Drained, drain}
use Rattle.convergence.specs.Invariants.{Sound}
use Rattle.std.specs.Prelude.{Option, Some}
use Rattle.index.specs.Keys.{first_index}
use Rattle.index.specs.Tabled.{Tabled}
use Rattle.woot.specs.declared.Document.{Document as InMemory}
use Rattle.memory.specs.Lent.{columns_as, view, Slots}
use Rattle.delivery.specs.declared.Counts.{Counts}

-- ---- lent arrays

-- each array of a document in memory is as long as in another
pub record SameLengths (d e : InMemory) : Type 0 where
  pub characters : length d.characters ≡ length e.characters
  pub toggles : length d.toggles ≡ length e.toggles
  pub pending : length d.pending ≡ length e.pending
  pub heads : length d.table.heads ≡ length e.table.heads
  pub links : length d.table.links ≡ length e.table.links

-- the columns of a document in memory with another table, which is not told to find its keys
abbrev pub with_table : InMemory → List ℕ → List ℕ → Document
with_table d heads links = columns_as d.characters d.toggles d.length d.pending d.waiting heads links

-- the counts are within the slots, the numbers of the pending operations are theirs, and the table finds the keys
pub record Lent (d : Document) : Type 0 where
  pub slots : Slots d
  pub few : d.length ≤ 1024
  pub few-pending : d.waiting ≤ 512
  pub ranged : every in_range (operations_in d) ≡ true
  pub tabled : Tabled d.table (take d.length d.ids)

-- the document is determined by its lists
abbrev pub TidyDocument : Document → Type 0
TidyDocument d = d ≡ document_of (characters_in d) (operations_in d)

-- ---- a document at work

-- with how many operations were carried out so far and how many discarded
pub record Work : Type 0 where
  pub document : Document
  pub integrated : ℕ
  pub discarded : ℕ

abbrev pub work_in : InMemory → Counts → Work
work_in d c = record { document = view d; integrated = c.integrated; discarded = c.discarded }

unfoldable pub work_of : List Character → List Operation → ℕ → ℕ → Work
work_of cs ps n m = record { document = document_of cs ps; integrated = n; discarded = m }

abbrev pub characters_at : Work → List Character
characters_at w = characters_in w.document

abbrev pub pending_at : Work → List Operation
pending_at w = operations_in w.document

-- what draining needs: sound lists in a tidy document, and counts that fit whatever becomes of what is pending
pub record Workable (w : Work) : Type 0 where
  pub tidy : TidyDocument w.document
  pub sound : Sound (characters_at w) (pending_at w)
  pub integrated-fits : w.integrated + w.document.waiting < 2 ^ 64
  pub discarded-fits : w.discarded + w.document.waiting < 2 ^ 64

-- o carried out, or discarded where condition 8 or 9 holds
unfoldable pub dealt_with : List Character → List Operation → ℕ → ℕ → Operation → Work
dealt_with cs ps n m o =
    cond (crossed cs o || unplaceable cs o) (work_of cs ps n (m + 1)) (work_of (integrate cs o) ps (n + 1) m)

-- one step of draining: the operation that was taken out is carried out or discarded
unfoldable pub stepped : List Character → List Operation → ℕ → ℕ → Maybe Extracted → Work
stepped cs ps n m none = work_of cs ps n m
stepped cs ps n m (some t) = dealt_with cs t.others n m t.operation

-- what draining leaves, with what it carried out and discarded counted
unfoldable pub finished : List Character → List Operation → ℕ → ℕ → Work
finished cs ps n m =
    let d : Drained = drain cs ps in
    work_of d.characters d.pending (n + length d.integrated) (m + length d.discarded)

-- ---- the same on a document at work

-- the index of the earliest pending operation that is executable, and what the rules take out
abbrev pub due_in : Work → Option ℕ
due_in w = first_index (executable (characters_at w)) (pending_at w)

abbrev pub taken_from : Work → Maybe Extracted
taken_from w = earliest (executable (characters_at w)) (pending_at w)

abbrev pub stepped_in : Work → Work
stepped_in w = stepped (characters_at w) (pending_at w) w.integrated w.discarded (taken_from w)

abbrev pub finished_in : Work → Work
finished_in w = finished (characters_at w) (pending_at w) w.integrated w.discarded

-- ---- the insert that is carried out first

-- the slots of a document hold two lists, with zeros behind them; its table may be any
pub record Swept (d : Document) (cs : List Character) (ps : List Operation) : Type 0 where
  pub ids : d.ids ≡ pad character_slots 0 (keys cs)
  pub previous : d.previous ≡ pad character_slots 0 (previous_keys cs)
  pub next : d.next ≡ pad character_slots 0 (next_keys cs)
  pub points : d.code_points ≡ pad character_slots 0 (code_points_of cs)
  pub toggles : d.toggles ≡ pad character_slots 0 (toggle_counts cs)
  pub length-is : d.length ≡ length cs
  pub own : d.own ≡ pad pending_slots 0 (map own_key ps)
  pub firstKeys : d.firstKeys ≡ pad pending_slots 0 (map first_key ps)
  pub secondKeys : d.secondKeys ≡ pad pending_slots 0 (map second_key ps)
  pub values : d.values ≡ pad pending_slots 0 (map value_of ps)
  pub waiting-is : d.waiting ≡ length ps

-- an insert that goes in after the first k of the characters that a document holds, and leaves the lists sound
pub record PlacedAs (d : Document) (i : Insert) (k : ℕ) (cs : List Character) (ps : List Operation) : Type 0 where
  pub swept : Swept d cs ps
  pub toggles : length d.toggles ≡ character_slots
  pub heads : length d.table.heads ≡ chains
  pub links : length d.table.links ≡ table_links
  pub place : k ≤ d.length
  pub room : d.length < capacity
  pub result : integrate_insert cs i ≡ insert_at k (character i) cs
  pub sound : Sound (integrate_insert cs i) ps

-- there are such lists
pub record Insertable (d : Document) (i : Insert) (k : ℕ) : Type 0 where
  pub characters : List Character
  pub pending : List Operation
  pub placed : PlacedAs d i k characters pending

-- the same of a document with anything in the slots that are not in use
pub record Placed (d : Document) (i : Insert) (k : ℕ) : Type 0 where
  pub lent : Lent d
  pub place : k ≤ d.length
  pub room : d.length < capacity
  pub result : integrate_insert (characters_in d) i ≡ insert_at k (character i) (characters_in d)
  pub sound : Sound (integrate_insert (characters_in d) i) (operations_in d)

-- a toggle whose target stands in the slot k, the only one that has its identifier
pub record Targeted (d : Document) (t : Toggle) (k : ℕ) : Type 0 where
  pub lent : Lent d
  pub place : first_index (λ c. same t.target c.id) (characters_in d) ≡ Some k
  pub apart : distinct same (identifiers (characters_in d)) ≡ true
