-- A replica in memory: what the numbers of its arrays stand for, and the arrays that hold a state. Every number stands
-- for something, so that a replica which is out of form has a meaning too; what the types of identifiers and operations
-- cannot hold is out of range there.
use Rattle.std.specs.Prelude.{ℕ, zero, suc, ◌+◌, ◌*◌, ◌/◌, ◌%◌, Bool, ◌&&◌, cond, List, [], ◌∷◌, ◌++◌, map, eqb, leb, length, take, drop, get_or}
use Rattle.lists.specs.Padding.{pad}
use Rattle.woot.specs.declared.Identifier.{Identifier}
use Rattle.woot.specs.declared.Insert.{Insert}
use Rattle.woot.specs.declared.Character.{Character}
use Rattle.woot.specs.declared.Operation.{Operation}
use Rattle.woot.specs.declared.Operation.TheVariants.{Insert as insert, Toggle as toggle}
use Rattle.woot.specs.declared.Document.{Document}
use Rattle.woot.specs.declared.Replica.{Replica}
use Rattle.woot.specs.Operations.{character}
use Rattle.woot.specs.Table.{key, keys, agrees, table_of}
use Rattle.woot.specs.State.{State}
use Rattle.woot.specs.Form.{well_formed}

-- ---- numbers

-- the sizes of the columns, and of the arrays in which four of them lie
abbrev pub character_slots : ℕ
character_slots = 1024

abbrev pub pending_slots : ℕ
pending_slots = 512

abbrev pub character_numbers : ℕ
character_numbers = 4096

abbrev pub pending_numbers : ℕ
pending_numbers = 2048

-- the identifier with a key: a number of more than 24 bits is that of a site which no replica has
unfoldable pub identifier : ℕ → Identifier
identifier k = record { site = k / 65536; clock = k % 65536 }

-- f of each number below n, in their order
abbrev pub each : {A : Type 0} → (ℕ → A) → ℕ → List A
each f zero = []
each f (suc n) = each f n ++ f n ∷ []

-- ---- characters

-- the character with these numbers
unfoldable pub character_of : ℕ → ℕ → ℕ → ℕ → ℕ → Character
character_of id previous next point toggles =
    record {
      id = identifier id;
      code_point = point;
      toggles = toggles;
      previous = identifier previous;
      next = identifier next;
    }

-- the character in a slot of the five arrays
abbrev pub character_at : List ℕ → List ℕ → List ℕ → List ℕ → List ℕ → ℕ → Character
character_at ids previous next points toggles i =
    character_of (get_or ids i 0) (get_or previous i 0) (get_or next i 0) (get_or points i 0) (get_or toggles i 0)

-- those in the first n slots
unfoldable pub characters_of : List ℕ → List ℕ → List ℕ → List ℕ → List ℕ → ℕ → List Character
characters_of ids previous next points toggles n = each (character_at ids previous next points toggles) n

-- the columns that the arrays hold
abbrev pub previous_keys : List Character → List ℕ
previous_keys cs = map (λ c. key c.previous) cs

abbrev pub next_keys : List Character → List ℕ
next_keys cs = map (λ c. key c.next) cs

abbrev pub code_points_of : List Character → List ℕ
code_points_of cs = map (λ c. c.code_point) cs

abbrev pub toggle_counts : List Character → List ℕ
toggle_counts cs = map (λ c. c.toggles) cs

-- ---- pending operations

-- the operation with these numbers: a toggle where its own key is 0. A toggle has no second key, and one that is not 0
-- makes its sender a site which no replica has
unfoldable pub operation_of : ℕ → ℕ → ℕ → ℕ → Operation
operation_of own first second value =
    cond (eqb own 0)
    (toggle (record { sender = second * 256 + value / 256; target = identifier first; toggles = value % 256 }))
    (insert
    (record {
      id = identifier own;
      code_point = value;
      previous = identifier first;
      next = identifier second;
    }))

-- the operation in a slot of the four arrays
abbrev pub operation_at : List ℕ → List ℕ → List ℕ → List ℕ → ℕ → Operation
operation_at own first second values j =
    operation_of (get_or own j 0) (get_or first j 0) (get_or second j 0) (get_or values j 0)

-- those in the first n slots
unfoldable pub operations_of : List ℕ → List ℕ → List ℕ → List ℕ → ℕ → List Operation
operations_of own first second values n = each (operation_at own first second values) n

-- the numbers of an operation
unfoldable pub own_key : Operation → ℕ
own_key (insert i) = key i.id
own_key (toggle t) = 0

unfoldable pub first_key : Operation → ℕ
first_key (insert i) = key i.previous
first_key (toggle t) = key t.target

unfoldable pub second_key : Operation → ℕ
second_key (insert i) = key i.next
second_key (toggle t) = 0

unfoldable pub value_of : Operation → ℕ
value_of (insert i) = i.code_point
value_of (toggle t) = t.sender * 256 + t.toggles

-- ---- documents and replicas

-- the column j of an array that has columns of m slots
abbrev pub column : ℕ → ℕ → List ℕ → List ℕ
column m j xs = take m (drop (j * m) xs)

-- those of the characters' array: their keys, their neighbours', and their code points
abbrev pub key_column : List ℕ → List ℕ
key_column xs = column character_slots 0 xs

abbrev pub previous_column : List ℕ → List ℕ
previous_column xs = column character_slots 1 xs

abbrev pub next_column : List ℕ → List ℕ
next_column xs = column character_slots 2 xs

abbrev pub code_point_column : List ℕ → List ℕ
code_point_column xs = column character_slots 3 xs

-- those of the pending operations' array
abbrev pub own_column : List ℕ → List ℕ
own_column xs = column pending_slots 0 xs

abbrev pub first_column : List ℕ → List ℕ
first_column xs = column pending_slots 1 xs

abbrev pub second_column : List ℕ → List ℕ
second_column xs = column pending_slots 2 xs

abbrev pub value_column : List ℕ → List ℕ
value_column xs = column pending_slots 3 xs

-- four columns one behind another, zeros in the slots that are left
unfoldable pub in_columns : ℕ → List ℕ → List ℕ → List ℕ → List ℕ → List ℕ
in_columns m ws xs ys zs = pad m 0 ws ++ (pad m 0 xs ++ (pad m 0 ys ++ pad m 0 zs))

-- the characters that inserts bring, in an array of their own: as a document has its characters, but for the toggles
abbrev pub insert_columns : List Insert → List ℕ
insert_columns is =
    let cs : List Character = map character is in
    in_columns character_slots (keys cs) (previous_keys cs) (next_keys cs) (code_points_of cs)

-- what is in use of the arrays
unfoldable pub characters_in : Document → List Character
characters_in d =
    characters_of (key_column d.characters) (previous_column d.characters) (next_column d.characters)
    (code_point_column d.characters) d.toggles d.length

unfoldable pub operations_in : Document → List Operation
operations_in d =
    operations_of (own_column d.pending) (first_column d.pending) (second_column d.pending)
    (value_column d.pending) d.waiting

unfoldable pub meaning : Replica → State
meaning r =
    record { site = r.site; characters = characters_in r.document; pending = operations_in r.document }

-- the document that holds two lists, determined to the last slot, with the table of its characters
unfoldable pub document_of : List Character → List Operation → Document
document_of cs ps =
    record {
      characters = in_columns character_slots (keys cs) (previous_keys cs) (next_keys cs) (code_points_of cs);
      toggles = pad character_slots 0 (toggle_counts cs);
      length = length cs;
      pending = in_columns pending_slots (map own_key ps) (map first_key ps) (map second_key ps) (map value_of ps);
      waiting = length ps;
      table = table_of (keys cs);
    }

-- the replica that holds a state
unfoldable pub stored : State → Replica
stored s = record { site = s.site; document = document_of s.characters s.pending }

-- the counts are within the arrays
unfoldable pub counted : Replica → Bool
counted r = leb r.document.length character_slots && leb r.document.waiting pending_slots

-- the table finds each character at its own place
unfoldable pub table_agrees : Replica → Bool
table_agrees r = agrees r.document.table (keys (meaning r).characters)

-- a replica is in form when its counts are within its arrays, its meaning is in form and, as document 02 adds, its
-- table agrees: "the form gains that it agrees"
unfoldable pub replica_well_formed : Replica → Bool
replica_well_formed r = counted r && well_formed (meaning r) && table_agrees r
