-- For the proofs of the code alone: a document and a replica as the columns of their arrays, and what they stand for.
-- The text of the definitions is that of `woot`'s Memory, over columns.
use Rattle.std.specs.Prelude.{ℕ, Bool, ◌&&◌, List, map, leb, length}
use Rattle.lists.specs.Padding.{pad}
use Rattle.woot.specs.declared.Site.{Site}
use Rattle.woot.specs.declared.Character.{Character}
use Rattle.woot.specs.declared.Operation.{Operation}
use Rattle.woot.specs.declared.Table.{Table}
use Rattle.woot.specs.Table.{keys, agrees, table_of}
use Rattle.woot.specs.State.{State}
use Rattle.woot.specs.Memory.{character_slots, pending_slots}
use Rattle.woot.specs.Form.{well_formed}
use Rattle.woot.specs.Memory.{characters_of, operations_of, previous_keys, next_keys, code_points_of, toggle_counts, own_key}
use Rattle.woot.specs.Memory.{first_key, second_key, value_of}

pub record Document : Type 0 where
  pub ids : List ℕ
  pub previous : List ℕ
  pub next : List ℕ
  pub code_points : List ℕ
  pub toggles : List ℕ
  pub length : ℕ
  pub own : List ℕ
  pub firstKeys : List ℕ
  pub secondKeys : List ℕ
  pub values : List ℕ
  pub waiting : ℕ
  pub table : Table

pub record Replica : Type 0 where
  pub site : Site
  pub document : Document

-- what is in use of the arrays
unfoldable pub characters_in : Document → List Character
characters_in d = characters_of d.ids d.previous d.next d.code_points d.toggles d.length

unfoldable pub operations_in : Document → List Operation
operations_in d = operations_of d.own d.firstKeys d.secondKeys d.values d.waiting

unfoldable pub meaning : Replica → State
meaning r =
    record { site = r.site; characters = characters_in r.document; pending = operations_in r.document }

-- the document that holds two lists, determined to the last slot, with zeros in those that are left and the table of
-- its characters
unfoldable pub document_of : List Character → List Operation → Document
document_of cs ps =
    record {
      ids = pad character_slots 0 (keys cs);
      previous = pad character_slots 0 (previous_keys cs);
      next = pad character_slots 0 (next_keys cs);
      code_points = pad character_slots 0 (code_points_of cs);
      toggles = pad character_slots 0 (toggle_counts cs);
      length = length cs;
      own = pad pending_slots 0 (map own_key ps);
      firstKeys = pad pending_slots 0 (map first_key ps);
      secondKeys = pad pending_slots 0 (map second_key ps);
      values = pad pending_slots 0 (map value_of ps);
      waiting = length ps;
      table = table_of (keys cs);
    }

-- the replica that holds a state
unfoldable pub stored : State → Replica
stored s = record { site = s.site; document = document_of s.characters s.pending }

-- the counts are within the arrays
unfoldable pub counted : Replica → Bool
counted r = leb r.document.length character_slots && leb r.document.waiting pending_slots

-- the table finds each character at its own place
unfoldable pub table_agrees : Replica → Bool
table_agrees r = agrees r.document.table (keys (meaning r).characters)

-- a replica is in form when its counts are within its arrays, its meaning is in form and, as document 02 adds, its
-- table agrees: "the form gains that it agrees"
unfoldable pub replica_well_formed : Replica → Bool
replica_well_formed r = counted r && well_formed (meaning r) && table_agrees r
