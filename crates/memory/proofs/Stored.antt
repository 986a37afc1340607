-- What is stored is meant: the arrays that hold two lists stand for them, and a document whose arrays hold the columns of
-- two lists is the one that stores them.
use Prim.Native.Nat.{ℕ, ◌≤◌, ◌<◌}
use mathlib.Core.Path.{◌≡◌, sym, ap, ◌∙◌}
use mathlib.Core.Bool.{true}
use mathlib.Core.List.{List, map}
use borrow.Author.Tests.{leb-true}
use lib.Dec.{leb}
use lib.ListN.{length, take, get_or, length-map}
use lib.Seq.{get_or-take}
use Rattle.lists.specs.Lists.{every}
use Rattle.lists.specs.Padding.{pad}
use Rattle.lists.proofs.Padding.{pad-take}
use Rattle.lists.proofs.Members.{get_member}
use Rattle.lists.proofs.Indices.{map_get_d}
use Rattle.lists.proofs.Tests.{and_left_lem, and_right, three}
use Rattle.woot.specs.declared.Site.{Site}
use Rattle.woot.specs.declared.Operation.{Operation}
use Rattle.woot.specs.declared.Character.{Character}
use Rattle.memory.specs.Columns.{Document}
use Rattle.memory.specs.Columns.{Replica}
use Rattle.woot.specs.Ranges.{in_range}
use Rattle.woot.specs.State.{State, blank_character, blank_operation}
use Rattle.woot.specs.Memory.{character_slots, pending_slots}
use Rattle.woot.specs.Form.{well_formed}
use Rattle.woot.specs.Table.{key, keys, table_of}
use Rattle.woot.specs.Memory.{identifier, character_of, character_at, characters_of, operation_at, operations_of, previous_keys, next_keys, code_points_of, toggle_counts, own_key, first_key, second_key, value_of}
use Rattle.memory.specs.Columns.{characters_in, operations_in, meaning, document_of, stored, counted, table_agrees, replica_well_formed}
use Rattle.index.specs.Keys.{AllSmall}
use Rattle.memory.proofs.Characters.{identifier-key, each_cong, each_all, rows-length, rows-keys, rows-previous, rows_next, rows-codes, rows-toggles}
use Rattle.memory.proofs.Operations.{AllKeyed, operation_stored, operations-length, own-column, first-column, second-column, value-column}

-- ---- what is stored is meant

-- an element of a column in its slot
slot_at : {A : Type 0} (m : ℕ) (f : A → ℕ) (xs : List A) (d : A) (i : ℕ) → i < length xs → get_or (pad m 0 (map f xs)) i 0 ≡ f (get_or xs i d)
slot_at m f xs d i h =
    sym (get_or-take (length xs) (pad m 0 (map f xs)) i 0 h)
    ∙ ap (λ (ys : List ℕ). get_or ys i 0) (pad-take m 0 (map f xs) (length xs) (length-map xs f))
    ∙ map_get_d f xs i 0 d h

-- operations are read back from their columns, however many slots these have
pub operations-back : (m : ℕ) (ps : List Operation) → AllKeyed ps →
    operations_of (pad m 0 (map own_key ps)) (pad m 0 (map first_key ps)) (pad m 0 (map second_key ps)) (pad m 0 (map value_of ps)) (length ps) ≡ ps
unfolding operations_of
operations-back m ps keyed = each_cong _ (λ j. get_or ps j blank_operation) (length ps) at ∙ each_all ps blank_operation
  where
    slot : (f : Operation → ℕ) (j : ℕ) → j < length ps → get_or (pad m 0 (map f ps)) j 0 ≡ f (get_or ps j blank_operation)
    slot f j h = slot_at m f ps blank_operation j h

    at : (j : ℕ) → j < length ps
        → operation_at (pad m 0 (map own_key ps)) (pad m 0 (map first_key ps)) (pad m 0 (map second_key ps)) (pad m 0 (map value_of ps)) j ≡ get_or ps j blank_operation
    at j h =
        rw (slot own_key j h, slot first_key j h, slot second_key j h, slot value_of j h)
        (operation_stored (get_or ps j blank_operation) (keyed _ (get_member ps j blank_operation h)))

module _ (cs : List Character) (ps : List Operation) where
  pub stored-characters : AllSmall cs → characters_in (document_of cs ps) ≡ cs
  unfolding characters_in document_of characters_of character_of
  stored-characters small = each_cong _ (λ i. get_or cs i blank_character) (length cs) at ∙ each_all cs blank_character
    where
      slot : (f : Character → ℕ) (i : ℕ) → i < length cs → get_or (pad character_slots 0 (map f cs)) i 0 ≡ f (get_or cs i blank_character)
      slot f i h = slot_at character_slots f cs blank_character i h

      at : (i : ℕ) → i < length cs
          → character_at (pad character_slots 0 (keys cs)) (pad character_slots 0 (previous_keys cs)) (pad character_slots 0 (next_keys cs)) (pad character_slots 0 (code_points_of cs)) (pad character_slots 0 (toggle_counts cs)) i ≡ get_or cs i blank_character
      at i h =
          let c = get_or cs i blank_character in
          let s = small c (get_member cs i blank_character h) in
          λ j.
          record {
            id = (ap identifier (slot (λ d. key d.id) i h) ∙ identifier-key c.id s.id) j;
            code_point = slot (λ d. d.code_point) i h j;
            toggles = slot (λ d. d.toggles) i h j;
            previous = (ap identifier (slot (λ d. key d.previous) i h) ∙ identifier-key c.previous s.previous) j;
            next = (ap identifier (slot (λ d. key d.next) i h) ∙ identifier-key c.next s.next) j;
          }

  pub stored-operations : AllKeyed ps → operations_in (document_of cs ps) ≡ ps
  unfolding operations_in document_of
  stored-operations keyed = operations-back pending_slots ps keyed

-- a state whose identifiers, clocks and counts have the bits of their types
pub record Storable (s : State) : Type 0 where
  pub characters : AllSmall s.characters
  pub pending : AllKeyed s.pending

pub meaning-stored : (s : State) → Storable s → meaning (stored s) ≡ s
unfolding meaning stored
meaning-stored s h =
    λ i.
    record {
      site = s.site;
      characters = stored-characters s.characters s.pending h.characters i;
      pending = stored-operations s.characters s.pending h.pending i;
    }

-- ---- the parts that determine a document

-- its arrays hold the columns of two lists, zeros after them, and the table of the characters
pub record Parts (d : Document) (cs : List Character) (ps : List Operation) : Type 0 where
  pub ids : d.ids ≡ pad character_slots 0 (keys cs)
  pub previous : d.previous ≡ pad character_slots 0 (previous_keys cs)
  pub next : d.next ≡ pad character_slots 0 (next_keys cs)
  pub points : d.code_points ≡ pad character_slots 0 (code_points_of cs)
  pub toggles : d.toggles ≡ pad character_slots 0 (toggle_counts cs)
  pub length-is : d.length ≡ length cs
  pub own : d.own ≡ pad pending_slots 0 (map own_key ps)
  pub firstKeys : d.firstKeys ≡ pad pending_slots 0 (map first_key ps)
  pub secondKeys : d.secondKeys ≡ pad pending_slots 0 (map second_key ps)
  pub values : d.values ≡ pad pending_slots 0 (map value_of ps)
  pub waiting-is : d.waiting ≡ length ps
  pub table : d.table ≡ table_of (keys cs)

pub document-path : {d : Document} {cs : List Character} {ps : List Operation} → Parts d cs ps → d ≡ document_of cs ps
unfolding document_of
document-path p =
    λ i.
    record {
      ids = p.ids i;
      previous = p.previous i;
      next = p.next i;
      code_points = p.points i;
      toggles = p.toggles i;
      length = p.length-is i;
      own = p.own i;
      firstKeys = p.firstKeys i;
      secondKeys = p.secondKeys i;
      values = p.values i;
      waiting = p.waiting-is i;
      table = p.table i;
    }

pub document-parts : {d : Document} {cs : List Character} {ps : List Operation} → d ≡ document_of cs ps → Parts d cs ps
unfolding document_of
document-parts e =
    record {
      ids = ap (λ (d : Document). d.ids) e;
      previous = ap (λ (d : Document). d.previous) e;
      next = ap (λ (d : Document). d.next) e;
      points = ap (λ (d : Document). d.code_points) e;
      toggles = ap (λ (d : Document). d.toggles) e;
      length-is = ap (λ (d : Document). d.length) e;
      own = ap (λ (d : Document). d.own) e;
      firstKeys = ap (λ (d : Document). d.firstKeys) e;
      secondKeys = ap (λ (d : Document). d.secondKeys) e;
      values = ap (λ (d : Document). d.values) e;
      waiting-is = ap (λ (d : Document). d.waiting) e;
      table = ap (λ (d : Document). d.table) e;
    }

-- beside its site it is a state stored
pub stored-path : (t : Site) {d : Document} {cs : List Character} {ps : List Operation} → Parts d cs ps → ◌≡◌ {A = Replica} (record { site = t; document = d }) (stored (record { site = t; characters = cs; pending = ps }))
unfolding stored
stored-path t p = λ i. record { site = t; document = document-path p i }

-- ---- the counts and the columns of a document in use

pub record Counts (d : Document) : Type 0 where
  pub characters : d.length ≤ 1024
  pub pending : d.waiting ≤ 512

pub counts : (r : Replica) → counted r ≡ true → Counts r.document
unfolding counted
counts r h =
    let n = leb-true r.document.length character_slots (and_left_lem (leb r.document.length character_slots) _ h) in
    let w = leb-true r.document.waiting pending_slots (and_right (leb r.document.length character_slots) _ h) in
    record { characters = n; pending = w }

pub form_counted : (r : Replica) → replica_well_formed r ≡ true → counted r ≡ true
unfolding replica_well_formed
form_counted r h = (three (counted r) (well_formed (meaning r)) (table_agrees r) h).0

pub form_meant : (r : Replica) → replica_well_formed r ≡ true → well_formed (meaning r) ≡ true
unfolding replica_well_formed
form_meant r h = (three (counted r) (well_formed (meaning r)) (table_agrees r) h).1

pub form_table : (r : Replica) → replica_well_formed r ≡ true → table_agrees r ≡ true
unfolding replica_well_formed
form_table r h = (three (counted r) (well_formed (meaning r)) (table_agrees r) h).2

module _ (d : Document) where
  pub character-count : length (characters_in d) ≡ d.length
  unfolding characters_in
  character-count = rows-length d.ids d.previous d.next d.code_points d.toggles d.length

  pub pending-count : length (operations_in d) ≡ d.waiting
  unfolding operations_in
  pending-count = operations-length d.own d.firstKeys d.secondKeys d.values d.waiting

  -- the columns of the characters
  pub ids_in : d.length ≤ length d.ids → keys (characters_in d) ≡ take d.length d.ids
  unfolding characters_in
  ids_in = rows-keys d.ids d.previous d.next d.code_points d.toggles d.length

  pub previous_in : d.length ≤ length d.previous → previous_keys (characters_in d) ≡ take d.length d.previous
  unfolding characters_in
  previous_in = rows-previous d.ids d.previous d.next d.code_points d.toggles d.length

  pub next_in : d.length ≤ length d.next → next_keys (characters_in d) ≡ take d.length d.next
  unfolding characters_in
  next_in = rows_next d.ids d.previous d.next d.code_points d.toggles d.length

  pub points-in : d.length ≤ length d.code_points → code_points_of (characters_in d) ≡ take d.length d.code_points
  unfolding characters_in
  points-in = rows-codes d.ids d.previous d.next d.code_points d.toggles d.length

  pub toggles_in : d.length ≤ length d.toggles → toggle_counts (characters_in d) ≡ take d.length d.toggles
  unfolding characters_in
  toggles_in = rows-toggles d.ids d.previous d.next d.code_points d.toggles d.length

  -- those of the pending operations, where they are in range
  module _ (ranged : every in_range (operations_in d) ≡ true) where
    pub own_in : d.waiting ≤ length d.own → map own_key (operations_in d) ≡ take d.waiting d.own
    unfolding operations_in
    own_in = own-column d.own d.firstKeys d.secondKeys d.values d.waiting ranged

    pub first-in : d.waiting ≤ length d.firstKeys → map first_key (operations_in d) ≡ take d.waiting d.firstKeys
    unfolding operations_in
    first-in = first-column d.own d.firstKeys d.secondKeys d.values d.waiting ranged

    pub second-in : d.waiting ≤ length d.secondKeys → map second_key (operations_in d) ≡ take d.waiting d.secondKeys
    unfolding operations_in
    second-in = second-column d.own d.firstKeys d.secondKeys d.values d.waiting ranged

    pub values_in : d.waiting ≤ length d.values → map value_of (operations_in d) ≡ take d.waiting d.values
    unfolding operations_in
    values_in = value-column d.own d.firstKeys d.secondKeys d.values d.waiting ranged
