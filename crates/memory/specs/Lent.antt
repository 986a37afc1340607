-- For the proofs of the code alone: the document that lent arrays and counts make, and their lengths.
use Rattle.std.specs.Prelude.{ℕ, ◌≡◌, List, length}
use Rattle.woot.specs.declared.Site.{Site}
use Rattle.woot.specs.declared.Document.{Document as InMemory}
use Rattle.woot.specs.declared.Replica.{Replica as ReplicaInMemory}
use Rattle.woot.specs.Table.{chains, table_links}
use Rattle.woot.specs.Memory.{character_numbers, character_slots, pending_numbers, pending_slots}
use Rattle.woot.specs.Memory.{key_column, previous_column, next_column, code_point_column, own_column, first_column}
use Rattle.woot.specs.Memory.{second_column, value_column}
use Rattle.memory.specs.Columns.{Document, Replica}

-- the arrays of the characters and how many they are, those of the pending operations and how many, and the table's
abbrev pub document_as :
    List ℕ → List ℕ → List ℕ → List ℕ → List ℕ → ℕ → List ℕ → List ℕ → List ℕ → List ℕ → ℕ → List ℕ → List ℕ → Document
document_as ids previous next points toggles n own first second values w heads links =
    record {
      ids = ids;
      previous = previous;
      next = next;
      code_points = points;
      toggles = toggles;
      length = n;
      own = own;
      firstKeys = first;
      secondKeys = second;
      values = values;
      waiting = w;
      table = record { heads = heads; links = links };
    }

-- the same of the arrays as they are lent, in which columns lie one behind another
abbrev pub columns_as : List ℕ → List ℕ → ℕ → List ℕ → ℕ → List ℕ → List ℕ → Document
columns_as characters toggles n pending w heads links =
    document_as (key_column characters) (previous_column characters) (next_column characters) (code_point_column characters)
    toggles n (own_column pending) (first_column pending) (second_column pending) (value_column pending) w heads links

-- and with the site: the replica with these lent arrays
abbrev pub replica_as : Site → List ℕ → List ℕ → ℕ → List ℕ → ℕ → List ℕ → List ℕ → Replica
replica_as site characters toggles n pending w heads links =
    record { site = site; document = columns_as characters toggles n pending w heads links }

-- the lengths of the arrays as they are lent: of characters, toggles, pending, heads and links
pub record Sized (cs ts ps hs ls : List ℕ) : Type 0 where
  pub characters : length cs ≡ character_numbers
  pub toggles : length ts ≡ character_slots
  pub pending : length ps ≡ pending_numbers
  pub heads : length hs ≡ chains
  pub links : length ls ≡ table_links

-- the same of a document in memory, of which a reference does not tell it, and of a replica
abbrev pub FullDocument : InMemory → Type 0
FullDocument d = Sized d.characters d.toggles d.pending d.table.heads d.table.links

abbrev pub Full : ReplicaInMemory → Type 0
Full r = FullDocument r.document

-- and of their columns, each with its slots
pub record Slots (d : Document) : Type 0 where
  pub ids : length d.ids ≡ character_slots
  pub previous : length d.previous ≡ character_slots
  pub next : length d.next ≡ character_slots
  pub points : length d.code_points ≡ character_slots
  pub toggles : length d.toggles ≡ character_slots
  pub own : length d.own ≡ pending_slots
  pub firstKeys : length d.firstKeys ≡ pending_slots
  pub secondKeys : length d.secondKeys ≡ pending_slots
  pub values : length d.values ≡ pending_slots
  pub heads : length d.table.heads ≡ chains
  pub links : length d.table.links ≡ table_links

-- the columns of a document in memory, and of a replica
abbrev pub view : InMemory → Document
view d =
    columns_as d.characters d.toggles d.length d.pending d.waiting d.table.heads d.table.links

abbrev pub viewed : ReplicaInMemory → Replica
viewed r = record { site = r.site; document = view r.document }
