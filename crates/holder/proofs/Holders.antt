-- A search among the keys answers who has the identifier: the keys of what is in range tell identifiers apart.
use Prim.Native.Nat.{ℕ, ◌<◌}
use mathlib.Core.Path.{◌≡◌, refl, sym, subst, ◌∙◌}
use mathlib.Core.Bool.{Bool, false}
use mathlib.Core.List.Memᴰ
use mathlib.Core.List.{List, map, Memᴰ}
use borrow.Author.Tests.{eqb-true}
use lib.Dec.{eqb}
use lib.ListN.{length, get_or}
use Rattle.woot.specs.declared.Identifier.{Identifier}
use Rattle.woot.specs.declared.Operation.{Operation}
use Rattle.woot.specs.declared.Character.{Character}
use Rattle.woot.specs.Identifiers.{same}
use Rattle.lists.specs.Lists.{any}
use Rattle.woot.specs.Operations.{inserts}
use Rattle.woot.specs.Placing.{identifiers}
use Rattle.woot.specs.Table.{key, keys}
use Rattle.index.specs.Keys.{Small, AllSmall, found}
use Rattle.std.proofs.Common.{Option, Some, None}
use Rattle.holder.specs.declared.Holder.{Holder}
use Rattle.holder.specs.declared.Holder.TheVariants.{Character as ofCharacter, Pending as ofPending, Nobody}
use Rattle.woot.specs.Memory.{own_key}
use Rattle.holder.specs.Holder.{first_holder, holder_in}
use Rattle.index.proofs.Searches.{Says, first_says, first-map}
use Rattle.index.proofs.Keys.{key-injective, key-same}
use Rattle.lists.proofs.Members.{any_none, none_any}
use Rattle.memory.proofs.Operations.{AllKeyed}
use Rattle.pending.proofs.Pending.{InsertAt, Sought, sought}

-- the character at the index has it
pub record CharacterAt (x : Identifier) (cs : List Character) (k : ℕ) : Type 0 where
  pub within : k < length cs
  pub is : (d : Character) → x ≡ (get_or cs k d).id
  pub member : (d : Character) → Memᴰ (get_or cs k d) cs

module _ (x : Identifier) (small : Small x) (positive : 0 < key x) (cs : List Character) (all : AllSmall cs) where
  -- what the search among the characters' keys answers
  abbrev pub Stands : Option ℕ → Type 0
  Stands (Some k) = CharacterAt x cs k
  Stands None = any (same x) (identifiers cs) ≡ false

  -- the character has the key
  abbrev named : Character → Bool
  named c = eqb (key x) (key c.id)

  pub stands : {r : Option ℕ} → found (key x) (keys cs) ≡ r → Stands r
  unfolding found
  stands {r} e = go r (first_says named cs (sym (first-map (λ (c : Character). key c.id) (λ n. eqb (key x) n) cs) ∙ e))
    where
      go : (r : Option ℕ) → Says named cs r → Stands r
      go (Some k) f =
          let is = key-injective x f.here.id small (all f.here f.member).id (eqb-true (key x) (key f.here.id) f.passes) in
          record { within = f.within; is = λ d. rw (f.at d) is; member = λ d. rw (f.at d) f.member }
      go None f =
          none_any (same x) (identifiers cs)
          (λ y m.
          let w = Memᴰ.of_map (λ (c : Character). c.id) cs m in
          rw (← w.2) (sym (key-same x w.0.id small (all w.0 w.1).id) ∙ any_none named f w.1))

  module _ (ps : List Operation) (keyed : AllKeyed ps) where
    -- what a holder says
    abbrev pub Holds : Holder → Type 0
    Holds (ofCharacter k) = CharacterAt x cs k
    Holds (ofPending j) = (j < length ps) × InsertAt x ps j
    Holds Nobody = (any (same x) (identifiers cs) ≡ false) × (any (λ j. same x j.id) (inserts ps) ≡ false)

    pub holds : {h : Holder} → holder_in (keys cs) (map own_key ps) (key x) ≡ h → Holds h
    unfolding holder_in first_holder
    holds {h} e = subst Holds e (go (found (key x) (keys cs)) (stands refl) (found (key x) (map own_key ps)) (sought x small positive ps keyed refl))
      where
        go : (f : Option ℕ) → Stands f → (g : Option ℕ) → Sought x ps g → Holds (first_holder f g)
        go (Some k) a g b = a
        go None a (Some j) b = b
        go None a None b = (a, b)
