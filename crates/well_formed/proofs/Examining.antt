-- A replica that passed the check: its arrays hold the columns of its meaning, and its table finds the keys.
use Prim.Native.Nat.{ℕ, ◌+◌, ◌≤◌, ◌<◌}
use native.Mathlib.Omega.{arith}
use mathlib.Core.Path.{◌≡◌, sym, ap, ◌∙◌}
use mathlib.Core.Bool.{true, not}
use mathlib.Core.List.{List, map}
use lib.Dec.{leb, eqb}
use lib.ListN.{length, take, get_or}
use lib.Seq.{length-take-le}
use Rattle.lists.specs.Lists.{keep}
use Rattle.lists.proofs.Members.{get_member, every_member}
use Rattle.woot.specs.declared.Site.{Site}
use Rattle.woot.specs.declared.Character.{Character}
use Rattle.woot.specs.declared.Operation.{Operation}
use Rattle.memory.specs.Columns.{Document, Replica}
use Rattle.woot.specs.Limits.{capacity, share}
use Rattle.woot.specs.Operations.{sender, inserts}
use Rattle.woot.specs.Ranges.{in_range}
use Rattle.woot.specs.State.{blank_operation}
use Rattle.woot.specs.Pending.{pending_from}
use Rattle.woot.specs.Form.{present_inserts}
use Rattle.woot.specs.Table.{keys, agrees}
use Rattle.woot.specs.Memory.{character_at, operation_at, previous_keys, next_keys, code_points_of, toggle_counts, own_key, first_key, second_key, value_of}
use Rattle.memory.specs.Columns.{characters_in}
use Rattle.memory.specs.Columns.{operations_in, meaning, table_agrees, replica_well_formed}
use Rattle.convergence.proofs.Forms.{Formed, formed, known-length}
use Rattle.index.specs.Keys.{AllSmall}
use Rattle.index.specs.Tabled.{Tabled}
use Rattle.memory.proofs.Characters.{rows-small, rows_at}
use Rattle.memory.proofs.Operations.{AllKeyed, all_keyed, operations-at}
use Rattle.memory.specs.Lent.{Sized, Slots, replica_as}
use Rattle.memory.proofs.Fullness.{sized_slots}
use Rattle.memory.proofs.Stored.{Storable, Counts, counts, form_counted, form_meant, form_table, character-count, pending-count, ids_in, previous_in, next_in}
use Rattle.memory.proofs.Stored.{points-in, toggles_in, own_in, first-in, second-in, values_in}
use Rattle.pending.specs.Counts.{senders_of}
use Rattle.pending.proofs.Pending.{senders_are, count-sent, count-own}
use Rattle.well_formed.specs.Examined.{Examined}

-- what a call has of a replica that passed
pub examined : (r : Replica) → Slots r.document → replica_well_formed r ≡ true → Examined r
examined r f h = record { form = h; slots = f }

-- and of lent arrays that did
pub lent_examined : (site : Site) {characters toggles pending heads links : List ℕ} (n w : ℕ) → Sized characters toggles pending heads links
    → replica_well_formed (replica_as site characters toggles n pending w heads links) ≡ true
    → Examined (replica_as site characters toggles n pending w heads links)
lent_examined site n w s h = record { form = h; slots = sized_slots n w s }

-- the columns have a slot for each character and each pending operation
pub record Fits (d : Document) : Type 0 where
  pub ids : d.length ≤ length d.ids
  pub previous : d.length ≤ length d.previous
  pub next : d.length ≤ length d.next
  pub toggles : d.length ≤ length d.toggles
  pub own : d.waiting ≤ length d.own
  pub firstKeys : d.waiting ≤ length d.firstKeys
  pub values : d.waiting ≤ length d.values

module _ (r : Replica) (x : Examined r) where
  pub few : Counts r.document
  few = counts r (form_counted r x.form)

  pub fits : Fits r.document
  fits =
      record {
        ids = omega (arith, few.characters, x.slots.ids);
        previous = omega (arith, few.characters, x.slots.previous);
        next = omega (arith, few.characters, x.slots.next);
        toggles = omega (arith, few.characters, x.slots.toggles);
        own = omega (arith, few.pending, x.slots.own);
        firstKeys = omega (arith, few.pending, x.slots.firstKeys);
        values = omega (arith, few.pending, x.slots.values);
      }

  pub form : Formed (meaning r)
  form = formed (meaning r) (form_meant r x.form)

  pub small : AllSmall (meaning r).characters
  unfolding meaning characters_in
  small = rows-small r.document.ids r.document.previous r.document.next r.document.code_points r.document.toggles r.document.length

  pub keyed : AllKeyed (meaning r).pending
  keyed = all_keyed (meaning r).pending form.sound.pending-ranges

  pub storable : Storable (meaning r)
  storable = record { characters = small; pending = keyed }

  -- how many there are
  pub characters-counted : length (meaning r).characters ≡ r.document.length
  unfolding meaning
  characters-counted = character-count r.document

  pub pending-counted : length (meaning r).pending ≡ r.document.waiting
  unfolding meaning
  pending-counted = pending-count r.document

  -- the slots in use hold the columns of the characters
  pub ids_used : take r.document.length r.document.ids ≡ keys (meaning r).characters
  unfolding meaning
  ids_used = sym (ids_in r.document (omega (arith, few.characters, x.slots.ids)))

  pub previous_used : take r.document.length r.document.previous ≡ previous_keys (meaning r).characters
  unfolding meaning
  previous_used = sym (previous_in r.document (omega (arith, few.characters, x.slots.previous)))

  pub next_used : take r.document.length r.document.next ≡ next_keys (meaning r).characters
  unfolding meaning
  next_used = sym (next_in r.document (omega (arith, few.characters, x.slots.next)))

  pub points_used : take r.document.length r.document.code_points ≡ code_points_of (meaning r).characters
  unfolding meaning
  points_used = sym (points-in r.document (omega (arith, few.characters, x.slots.points)))

  pub toggles_used : take r.document.length r.document.toggles ≡ toggle_counts (meaning r).characters
  unfolding meaning
  toggles_used = sym (toggles_in r.document (omega (arith, few.characters, x.slots.toggles)))

  -- and those of the pending operations
  pub own_used : take r.document.waiting r.document.own ≡ map own_key (meaning r).pending
  unfolding meaning
  own_used = sym (own_in r.document form.sound.pending-ranges (omega (arith, few.pending, x.slots.own)))

  pub first_used : take r.document.waiting r.document.firstKeys ≡ map first_key (meaning r).pending
  unfolding meaning
  first_used = sym (first-in r.document form.sound.pending-ranges (omega (arith, few.pending, x.slots.firstKeys)))

  pub second_used : take r.document.waiting r.document.secondKeys ≡ map second_key (meaning r).pending
  unfolding meaning
  second_used = sym (second-in r.document form.sound.pending-ranges (omega (arith, few.pending, x.slots.secondKeys)))

  pub values_used : take r.document.waiting r.document.values ≡ map value_of (meaning r).pending
  unfolding meaning
  values_used = sym (values_in r.document form.sound.pending-ranges (omega (arith, few.pending, x.slots.values)))

  -- what a slot in use holds
  pub character-read : (k : ℕ) (d : Character) → k < r.document.length
      → get_or (meaning r).characters k d
      ≡ character_at r.document.ids r.document.previous r.document.next r.document.code_points r.document.toggles k
  unfolding meaning characters_in
  character-read k d h =
      rows_at r.document.ids r.document.previous r.document.next r.document.code_points r.document.toggles r.document.length k d h

  pub pending-read : (j : ℕ) (d : Operation) → j < r.document.waiting
      → get_or (meaning r).pending j d ≡ operation_at r.document.own r.document.firstKeys r.document.secondKeys r.document.values j
  unfolding meaning operations_in
  pending-read j d h =
      operations-at r.document.own r.document.firstKeys r.document.secondKeys r.document.values r.document.waiting j d h

  pub pending_ranged : (j : ℕ) → j < r.document.waiting
      → in_range (operation_at r.document.own r.document.firstKeys r.document.secondKeys r.document.values j) ≡ true
  pending_ranged j h =
      sym (ap in_range (pending-read j blank_operation h))
      ∙ every_member in_range form.sound.pending-ranges (get_member (meaning r).pending j blank_operation (omega (arith, pending-counted)))

  -- the replica's own table finds the keys
  pub examined_tabled : Tabled r.document.table (take r.document.length r.document.ids)
  unfolding table_agrees
  examined_tabled =
      record {
        heads = x.slots.heads;
        links = x.slots.links;
        few = omega (arith, few.characters, length-take-le r.document.length r.document.ids (omega (arith, few.characters, x.slots.ids)));
        agree = ap (agrees r.document.table) ids_used ∙ form_table r x.form;
      }

  -- ---- room

  pub senders_used : senders_of (take r.document.waiting r.document.own) (take r.document.waiting r.document.values)
      ≡ map sender (meaning r).pending
  senders_used = rw (own_used, values_used) (senders_are (meaning r).pending keyed)

  pub share-counted : (n : ℕ)
      → leb share (length (keep (λ s. eqb s n) (senders_of (take r.document.waiting r.document.own) (take r.document.waiting r.document.values))))
      ≡ leb share (pending_from n (meaning r).pending)
  share-counted n = rw (own_used, values_used, count-sent n (meaning r).pending keyed)

  -- the pending inserts
  abbrev waiting : ℕ
  waiting = length (keep (λ k. not (eqb k 0)) (take r.document.waiting r.document.own))

  pub room-counted : leb capacity (r.document.length + waiting) ≡ leb capacity (length (present_inserts (meaning r)))
  room-counted =
      let those : waiting ≡ length (inserts (meaning r).pending) = rw own_used (count-own (meaning r).pending keyed) in
      let all : r.document.length + waiting ≡ length (present_inserts (meaning r)) = omega (arith, characters-counted, known-length (meaning r)) in
      ap (leb capacity) all
