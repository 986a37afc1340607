-- Toggles carried out one after another: what was carried out so far, and then the others, come to what all of them
-- come to.
use Prim.Native.Nat.{ℕ, suc, ◌+◌, ◌/◌, ◌%◌, ◌≤◌, ◌<◌}
use native.Mathlib.Omega.{arith}
use native.Mathlib.Numerals.{add-one}
use mathlib.Core.Path.{◌≡◌, refl, sym, ap, subst, ◌∙◌}
use mathlib.Core.Bool.{true}
use mathlib.Core.List.{List, [], ◌∷◌}
use lib.Dec.{eqb}
use lib.ListN.{length, take, drop, get_or, drop_of_length-le}
use lib.Seq.{drop-cons, get_or-take}
use Rattle.lists.proofs.Members.{every_member, get_member}
use Rattle.woot.specs.declared.Table.{Table}
use Rattle.woot.specs.declared.Toggle.{Toggle}
use Rattle.woot.specs.declared.Character.{Character}
use Rattle.woot.specs.declared.Operation.TheVariants.{Toggle as toggle}
use Rattle.woot.specs.Ranges.{toggle_in_range, in_range}
use Rattle.woot.specs.Placing.{integrate_toggle}
use Rattle.woot.specs.Table.{key}
use Rattle.woot.specs.Memory.{value_of, identifier}
use Rattle.convergence.specs.Passes.{toggled_all}
use Rattle.convergence.proofs.Toggling.{toggled-id, toggled-previous, toggled-next, toggle_length, toggle_identifiers}
use Rattle.convergence.proofs.Toggling.{toggle_member}
use Rattle.memory.specs.Columns.{Document}
use Rattle.memory.proofs.Views.{column-at}
use Rattle.memory.proofs.Bits.{ToggleBits, toggle_bits, toggled-is}
use Rattle.memory.proofs.Characters.{identifier-key}
use Rattle.memory.proofs.Operations.{Keyed, range_keyed}
use Rattle.memory.proofs.Stored.{document-path}
use Rattle.index.specs.Keys.{SmallParts, AllSmall, found, first_index}
use Rattle.index.proofs.Searches.{first-map}
use Rattle.characters.proofs.Editing.{targeted}
use Rattle.delivery.specs.Steps.{toggled_at}
use Rattle.delivery.proofs.Stepping.{first_targeted}
use Rattle.delivery.proofs.Changes.{found-parts}
use Rattle.heap.specs.Columns.{target_column, stamp_column, TogglesIn}
use Rattle.passes.specs.Steps.{laid_as, Laid}
use Rattle.passes.proofs.Slotting.{column-read}
use Rattle.passes.proofs.Laying.{laid_parts, laid_keys}
use Rattle.building.specs.Steps.{toggle_at, Among, Toggles}

-- ---- one toggle

small-toggled : (cs : List Character) (x : Toggle) → AllSmall cs → AllSmall (integrate_toggle cs x)
small-toggled cs x s d m =
    let w = toggle_member cs x m in
    let p = s w.0 w.1 in
    subst SmallParts w.2
    (record {
      id = rw (toggled-id x w.0) p.id;
      previous = rw (toggled-previous x w.0) p.previous;
      next = rw (toggled-next x w.0) p.next;
    })

-- what is in range is made of a key and bytes
pub keyed : (x : Toggle) → toggle_in_range x ≡ true → Keyed (toggle x)
unfolding in_range
keyed x r = range_keyed (toggle x) r

module _ (characters toggles : List ℕ) (n : ℕ) (table : Table) {cs : List Character} (l : Laid (laid_as characters toggles n table) cs) (x : Toggle) (r : toggle_in_range x ≡ true) where
  abbrev d : Document
  d = laid_as characters toggles n table

  target_found : found (key x.target) (take d.length d.ids) ≡ first_index (targeted x) cs
  unfolding found
  target_found =
      rw (laid_keys l)
      (first-map (λ (c : Character). key c.id) (λ m. eqb (key x.target) m) cs
      ∙ first_targeted x (keyed x r).0 cs l.small)

  pub toggled_laid : (ts : List ℕ) → ts ≡ toggled_at (found (key x.target) (take d.length d.ids)) x.toggles toggles
      → Laid (laid_as characters ts n table) (integrate_toggle cs x)
  toggled_laid ts e =
      record {
        tidy = document-path (found-parts (laid_parts l) x _ (sym target_found) l.apart e);
        small = small-toggled cs x l.small;
        apart = rw (toggle_identifiers cs x) l.apart;
        few = omega (arith, l.few, toggle_length cs x);
      }

-- ---- the toggle in a slot

module _ {xs : List ℕ} {ts : List Toggle} (h : TogglesIn xs ts) (j : ℕ) (z : Toggle) (low : j < length ts) where
  pub target-read : get_or (target_column xs) j 0 ≡ key (get_or ts j z).target
  target-read = column-read (λ t. key t.target) ts (target_column xs) h.targets j z low

  pub stamp_read : get_or (stamp_column xs) j 0 ≡ value_of (toggle (get_or ts j z))
  stamp_read = column-read (λ t. value_of (toggle t)) ts (stamp_column xs) h.stamps j z low

  pub toggle_read : toggle_in_range (get_or ts j z) ≡ true → toggle_at xs j ≡ get_or ts j z
  unfolding toggle_at value_of
  toggle_read r =
      let t = get_or ts j z in
      let k = keyed t r in
      let high : get_or (stamp_column xs) j 0 / 256 ≡ t.sender = omega (arith, stamp_read, k.1) in
      let rest : get_or (stamp_column xs) j 0 % 256 ≡ t.toggles = omega (arith, stamp_read, k.1) in
      λ i. record { sender = high i; target = (ap identifier target-read ∙ identifier-key t.target k.0) i; toggles = rest i }

-- the numbers that the array has there
module _ (xs : List ℕ) (j : ℕ) (h : j < 1024) where
  pub toggle_slotted : ◌≡◌ {A = Toggle} (record { sender = get_or xs (1024 + j) 0 / 256; target = identifier (get_or xs j 0); toggles = get_or xs (1024 + j) 0 % 256 })
      (toggle_at xs j)
  unfolding toggle_at
  toggle_slotted = rw (get_or-take 1024 xs j 0 h, column-at 1024 1 xs j h)

  pub slotted_bits : toggle_in_range (toggle_at xs j) ≡ true → ToggleBits (get_or xs j 0) 0 (get_or xs (1024 + j) 0)
  unfolding in_range
  slotted_bits e =
      toggle_bits (get_or xs j 0) 0 (get_or xs (1024 + j) 0)
      (ap in_range (sym (toggled-is (get_or xs j 0) 0 (get_or xs (1024 + j) 0) refl)) ∙ ap toggle_in_range toggle_slotted ∙ e)

-- ---- one after another

-- the toggles from slot j on are still to be carried out
pub record Changing (d : Document) (j : ℕ) (cs : List Character) (ts : List Toggle) : Type 0 where
  pub characters : List Character
  pub laid : Laid d characters
  pub comes : toggled_all characters (drop j ts) ≡ toggled_all cs ts

pub changing_begun : {d : Document} {xs : List ℕ} {m : ℕ} (g : Toggles d xs m) → Changing d 0 g.characters g.toggles
changing_begun g = record { characters = g.characters; laid = g.laid; comes = refl }

module _ {xs : List ℕ} {m : ℕ} {ts : List Toggle} (g : Among xs m ts) where
  pub changing_ended : {e : Document} {j : ℕ} {cs : List Character} → Changing e j cs ts → m ≤ j → Laid e (toggled_all cs ts)
  changing_ended {e} {j} {cs} c high =
      let all : length ts ≤ j = omega (arith, g.many) in
      let none : drop j ts ≡ [] = drop_of_length-le ts all in
      subst (Laid e) (ap (toggled_all c.characters) (sym none) ∙ c.comes) c.laid

  module _ (j : ℕ) (low : j < m) where
    inner : j < length ts
    inner = omega (arith, g.many)

    pub slots-low : j < 1024
    slots-low = omega (arith, inner, g.held.few)

    abbrev pub here : Toggle
    here = get_or ts j (toggle_at xs j)

    pub here_ranged : toggle_in_range here ≡ true
    here_ranged = every_member toggle_in_range g.ranged (get_member ts j (toggle_at xs j) inner)

    pub here-read : toggle_at xs j ≡ here
    here-read = toggle_read g.held j (toggle_at xs j) inner here_ranged

    pub read_ranged : toggle_in_range (toggle_at xs j) ≡ true
    read_ranged = ap toggle_in_range here-read ∙ here_ranged

    -- x is the toggle that was read
    pub changing_again : (characters toggles : List ℕ) (n : ℕ) (table : Table) {cs : List Character}
        → Changing (laid_as characters toggles n table) j cs ts
        → (x : Toggle) → x ≡ toggle_at xs j
        → (us : List ℕ) → us ≡ toggled_at (found (key x.target) (take n (laid_as characters toggles n table).ids)) x.toggles toggles
        → Changing (laid_as characters us n table) (j + 1) cs ts
    changing_again characters toggles n table c x is us e =
        let split : drop j ts ≡ x ∷ drop (suc j) ts =
        drop-cons ts j (toggle_at xs j) inner ∙ ap (λ (y : Toggle). y ∷ drop (suc j) ts) (sym (is ∙ here-read))
        in
        record {
          characters = integrate_toggle c.characters x;
          laid = toggled_laid characters toggles n table c.laid x (ap toggle_in_range is ∙ read_ranged) us e;
          comes = rw (add-one j) (ap (toggled_all c.characters) (sym split) ∙ c.comes);
        }
