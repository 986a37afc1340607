-- Arrays that hold a state: their form is the state's, they stand for it where they have slots for all of it, and in an order
-- they hold it in that order.
use Prim.Native.Nat.{ℕ, ◌-◌, ◌≤◌, min}
use native.Mathlib.Omega.{arith}
use mathlib.Core.Path.{◌≡◌, sym, ap, ◌∙◌}
use mathlib.Core.Bool.{true}
use mathlib.Core.List.{List}
use lib.ListN.{length, take, get_or, length-map}
use lib.Seq.{take_all, length-take-le}
use Rattle.lists.specs.Lists.{every}
use Rattle.lists.specs.Padding.{pad}
use Rattle.lists.proofs.Members.{every_member}
use Rattle.lists.proofs.Tests.{three}
use Rattle.woot.specs.declared.Site.{Site}
use Rattle.woot.specs.declared.Character.{Character}
use Rattle.woot.specs.declared.Table.{Table}
use Rattle.woot.specs.Form.{all_in_range, well_formed}
use Rattle.woot.specs.Memory.{character_slots, pending_slots, toggle_counts, document_of, meaning, stored, characters_in, operations_in}
use Rattle.woot.specs.Ranges.{site_in_range, character_in_range, in_range}
use Rattle.woot.specs.State.{State, blank_character}
use Rattle.woot.specs.Table.{keys, table_of}
use Rattle.index.proofs.Keys.{all-range-small}
use Rattle.memory.specs.Columns as columns
use Rattle.memory.specs.Lent.{replica_as}
use Rattle.memory.proofs.Operations.{all_keyed}
use Rattle.memory.proofs.Stored.{Storable}
use Rattle.memory.proofs.Views.{form_view, meaning_in_memory}
use Rattle.saved.specs.Calls.{in_arrays, fitting}
use Rattle.saved.specs.Rows.{characters_held, pending_held}
use Rattle.saved.proofs.Arrays.{arrays_form}
use Rattle.loading.proofs.Settling.{keys_used}
use Rattle.saving.specs.Documents.{state_in}
use Rattle.arranging.specs.Order.{characters_led}
use Rattle.archiving.specs.Holding.{StateHeld, led}

-- what is in range can be stored
pub storable : (s : State) → all_in_range s ≡ true → Storable s
unfolding all_in_range
storable s h =
    let w = three (site_in_range s.site) (every character_in_range s.characters) (every in_range s.pending) h in
    record {
      characters = all-range-small s.characters (λ c m. every_member character_in_range w.1 m);
      pending = all_keyed s.pending w.2;
    }

module _ {s : State} {site : Site} {characters toggles : List ℕ} {n : ℕ} {pending : List ℕ} {w : ℕ}
    (held : StateHeld s site characters toggles n pending w) where
  -- ---- the form

  keys-there : take (min n character_slots) characters ≡ keys (take character_slots s.characters)
  keys-there = rw (held.characters-held, held.characters-counted) (keys_used s.characters)

  pub form_held : {table : Table} → table ≡ table_of (take (min n character_slots) characters)
      → all_in_range s ≡ true → columns.replica_well_formed (replica_as site characters toggles n pending w table.heads table.links) ≡ well_formed s
  unfolding in_arrays fitting document_of characters_held pending_held
  form_held e ranged =
      let t = e ∙ ap table_of keys-there in
      ap columns.replica_well_formed (λ i. replica_as (held.site-held i) (held.characters-held i) (held.toggles-held i) (held.characters-counted i)
      (held.pending-held i) (held.pending-counted i) (t i).heads (t i).links)
      ∙ sym (form_view (in_arrays s)) ∙ (arrays_form s).0 ranged

  -- ---- where there are slots for all

  module _ (few : n ≤ character_slots) where
    pub characters-whole : characters ≡ characters_held s.characters
    characters-whole = held.characters-held ∙ ap characters_held (take_all character_slots s.characters (omega (arith, few, held.characters-counted)))

    pub toggles-whole : toggles ≡ pad character_slots 0 (toggle_counts s.characters)
    toggles-whole =
        held.toggles-held
        ∙ ap (λ (cs : List Character). pad character_slots 0 (toggle_counts cs)) (take_all character_slots s.characters (omega
        (arith, few, held.characters-counted)))

    pub keys-held : keys s.characters ≡ take n characters
    keys-held =
        let e : min n character_slots ≡ n = omega (arith, few) in
        ap keys (sym (take_all character_slots s.characters (omega (arith, few, held.characters-counted))))
        ∙ sym keys-there ∙ ap (λ (k : ℕ). take k characters) e

    pub state-held : w ≤ pending_slots → Storable s → state_in site characters toggles n pending w ≡ s
    unfolding state_in meaning stored characters_in operations_in document_of characters_held pending_held
    state-held fewer h =
        let waiting = held.pending-held ∙ ap pending_held (take_all pending_slots s.pending (omega (arith, fewer, held.pending-counted))) in
        (λ i. state_in (held.site-held i) (characters-whole i) (toggles-whole i) (held.characters-counted i) (waiting i) (held.pending-counted i))
        ∙ meaning_in_memory s (omega (arith, few, held.characters-counted)) (omega (arith, fewer, held.pending-counted)) h

    -- what was gathered in an order
    pub held-led : (order : List ℕ) {moved counts : List ℕ} → n ≤ length order
        → moved ≡ characters_held (characters_led s.characters (take n order))
        → counts ≡ pad character_slots 0 (toggle_counts (characters_led s.characters (take n order)))
        → StateHeld (led s (take n order)) site moved counts n pending w
    unfolding led characters_led
    held-led order h e f =
        let cs = characters_led s.characters (take n order) in
        let size : length cs ≡ n = length-map (take n order) (λ (k : ℕ). get_or s.characters (k - 1) blank_character) ∙ length-take-le n order h in
        let whole : cs ≡ take character_slots cs = sym (take_all character_slots cs (omega (arith, few, size))) in
        record {
          site-held = held.site-held;
          characters-held = e ∙ ap characters_held whole;
          toggles-held = f ∙ ap (λ (xs : List Character). pad character_slots 0 (toggle_counts xs)) whole;
          characters-counted = sym size;
          pending-held = held.pending-held;
          pending-counted = held.pending-counted;
        }
