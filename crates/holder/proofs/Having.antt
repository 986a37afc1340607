-- Who has an identifier in a replica that passed the check: what the searches answer is what the rules say of its meaning.
use Prim.Native.Nat.{ℕ, ◌<◌}
use native.Mathlib.Omega.{arith}
use mathlib.Core.Path.{◌≡◌, refl, sym, ap, subst, ◌∙◌}
use mathlib.Core.Bool.{true, false, cond}
use mathlib.Core.List.Memᴰ
use mathlib.Core.List.{List, [], ◌∷◌, Memᴰ}
use mathlib.Core.List.{map}
use lib.Dec.{eqb}
use lib.ListN.{length, take, get_or}
use Rattle.lists.specs.Lists.{any, distinct}
use Rattle.lists.proofs.Tests.{or-false}
use Rattle.lists.proofs.Members.{member_any, any_append}
use Rattle.woot.specs.declared.Identifier.{Identifier}
use Rattle.woot.specs.declared.Insert.{Insert}
use Rattle.woot.specs.declared.Character.{Character}
use Rattle.memory.specs.Columns.{Replica}
use Rattle.woot.specs.Identifiers.{same}
use Rattle.woot.specs.Operations.{origin, inserts}
use Rattle.woot.specs.Ranges.{character_id}
use Rattle.woot.specs.State.{blank_character}
use Rattle.woot.specs.Placing.{identifiers}
use Rattle.woot.specs.Form.{present_inserts}
use Rattle.woot.specs.Table.{key, keys}
use Rattle.woot.specs.Memory.{character_at}
use Rattle.memory.specs.Columns.{meaning}
use Rattle.convergence.proofs.Identifiers.{eq-same}
use Rattle.convergence.proofs.Forms.{known-ids}
use Rattle.convergence.proofs.Soundness.{standing}
use Rattle.convergence.proofs.Steps.{any-map}
use Rattle.std.proofs.Common.{Option, Some}
use Rattle.index.specs.Keys.{Small, AllSmall, further, first_index, found}
use Rattle.index.proofs.Keys.{key-same, character-small}
use Rattle.index.proofs.Searches.{first-map}
use Rattle.memory.proofs.Operations.{positive-key}
use Rattle.well_formed.specs.Examined.{Examined}
use Rattle.well_formed.proofs.Examining.{form, small, keyed, characters-counted, pending-counted, ids_used, own_used, character-read}
use Rattle.holder.specs.declared.Holder.{Holder}
use Rattle.holder.specs.declared.Holder.TheVariants.{Character as ofCharacter, Pending as ofPending, Nobody}
use Rattle.holder.specs.Holder.{holder_in}
use Rattle.holder.proofs.Holders.{CharacterAt, Stands, stands, Holds, holds}

-- the character that a search among keys finds is the one that has the identifier
named-first : (x : Identifier) → Small x → (cs : List Character) → AllSmall cs
    → first_index (λ c. eqb (key x) (key c.id)) cs ≡ first_index (λ c. same x c.id) cs
unfolding first_index
named-first x s [] all = refl
named-first x s (c ∷ cs) all =
    λ i. cond (key-same x c.id s (all c (Memᴰ.head refl)).id i) (Some 0) (further 1 (named-first x s cs (λ d m. all d (Memᴰ.tail m)) i))

pub key-first : (x : Identifier) → Small x → (cs : List Character) → AllSmall cs → found (key x) (keys cs) ≡ first_index (λ c. same x c.id) cs
unfolding found
key-first x s cs all = first-map (λ (c : Character). key c.id) (λ n. eqb (key x) n) cs ∙ named-first x s cs all

module _ (r : Replica) (x : Examined r) where
  pub characters-apart : distinct same (identifiers (meaning r).characters) ≡ true
  characters-apart = (standing (form r x).sound).apart

  module _ (id : Identifier) (ranged : character_id id ≡ true) where
    abbrev pub Has : Holder → Type 0
    Has h = Holds id (character-small id ranged) (positive-key id ranged) (meaning r).characters (small r x) (meaning r).pending (keyed r x) h

    pub has : {t h : Holder} → t ≡ holder_in (take r.document.length r.document.ids) (take r.document.waiting r.document.own) (key id) → t ≡ h
        → Has h
    has p f =
        holds id (character-small id ranged) (positive-key id ranged) (meaning r).characters (small r x) (meaning r).pending (keyed r x)
        (rw (ids_used r x, own_used r x) at (sym p ∙ f))

    -- what the search among the characters alone answers
    abbrev pub StandsAt : Option ℕ → Type 0
    StandsAt f = Stands id (character-small id ranged) (positive-key id ranged) (meaning r).characters (small r x) f

    pub stands_at : {t g : Option ℕ} → t ≡ found (key id) (take r.document.length r.document.ids) → t ≡ g → StandsAt g
    stands_at p f =
        stands id (character-small id ranged) (positive-key id ranged) (meaning r).characters (small r x) (rw (ids_used r x) at (sym p ∙ f))

    -- which is what the rules' search answers
    pub found_first : found (key id) (take r.document.length r.document.ids) ≡ first_index (λ c. same id c.id) (meaning r).characters
    found_first = rw (ids_used r x) (key-first id (character-small id ranged) (meaning r).characters (small r x))

    -- no insert that the state knows has it
    pub nobody : Has Nobody → any (λ j. same id j.id) (present_inserts (meaning r)) ≡ false
    nobody h =
        sym (any-map (same id) (λ j. j.id) (present_inserts (meaning r)))
        ∙ rw (known-ids (meaning r))
        (any_append (same id) (identifiers (meaning r).characters) _ ∙ or-false h.0 (any-map (same id) (λ j. j.id) (inserts (meaning r).pending) ∙ h.1))

    -- one of them has it
    pub character_takes : (k : ℕ) → Has (ofCharacter k) → any (λ j. same id j.id) (present_inserts (meaning r)) ≡ true
    unfolding present_inserts origin
    character_takes k h =
        member_any (λ (j : Insert). same id j.id) (Memᴰ.append_left (inserts (meaning r).pending) (Memᴰ.map origin (h.member blank_character)))
        (eq-same (h.is blank_character))

    pub pending_takes : (j : ℕ) → Has (ofPending j) → any (λ j. same id j.id) (present_inserts (meaning r)) ≡ true
    unfolding present_inserts
    pending_takes j h =
        member_any (λ (j : Insert). same id j.id) (Memᴰ.append_right (map origin (meaning r).characters) h.1.member) (eq-same h.1.is)

    -- where its holder is
    pub character-within : (k : ℕ) → CharacterAt id (meaning r).characters k → k < r.document.length
    character-within k h = omega (arith, h.within, characters-counted r x)

    pub pending-within : (j : ℕ) → Has (ofPending j) → j < r.document.waiting
    pending-within j h = omega (arith, h.0, pending-counted r x)

    -- the character in its slot
    module _ (k : ℕ) (h : CharacterAt id (meaning r).characters k) where
      abbrev pub in_slot : Character
      in_slot = character_at r.document.ids r.document.previous r.document.next r.document.code_points r.document.toggles k

      slot_read : get_or (meaning r).characters k blank_character ≡ in_slot
      slot_read = character-read r x k blank_character (character-within k h)

      pub character_member : Memᴰ in_slot (meaning r).characters
      character_member = subst (λ (c : Character). Memᴰ c (meaning r).characters) slot_read (h.member blank_character)

      pub character-named : id ≡ in_slot.id
      character-named = h.is blank_character ∙ ap (λ (c : Character). c.id) slot_read
