-- What holds of the characters of every replica, from any beginning, and by which two of them agree.
use Rattle.std.specs.Prelude.{ℕ, ◌<◌, ◌≡◌, true}
use mathlib.Core.List.{List, Memᴰ}
use Rattle.woot.specs.declared.Identifier.{Identifier}
use Rattle.woot.specs.declared.Character.{Character}
use Rattle.woot.specs.Identifiers.{same, below}
use Rattle.woot.specs.Operations.{origin}
use Rattle.woot.specs.Ranges.{character_in_range}
use Rattle.woot.specs.Placing.{identifiers, above}
use Rattle.lists.specs.Lists.{distinct}

-- each character stands between its neighbours, under an identifier of its own
pub record Standing (cs : List Character) : Type 0 where
  pub ranges : (c : Character) → Memᴰ c cs → character_in_range c ≡ true
  pub apart : distinct same (identifiers cs) ≡ true
  pub below-previous : (c : Character) → Memᴰ c cs → above cs c.previous c.id ≡ true
  pub above-next : (c : Character) → Memᴰ c cs → above cs c.id c.next ≡ true

-- both neighbours of a character were born before it
pub record Births (cs : List Character) : Type 0 where
  pub birth : Identifier → ℕ
  pub after-previous : (c : Character) → Memᴰ c cs → birth c.previous < birth c.id
  pub after_next : (c : Character) → Memᴰ c cs → birth c.next < birth c.id

-- each stands between the neighbours of the other
pub record Concurrent (cs : List Character) (c d : Character) : Type 0 where
  pub c-low : above cs d.previous c.id ≡ true
  pub c-high : above cs c.id d.next ≡ true
  pub d-low : above cs c.previous d.id ≡ true
  pub d-high : above cs d.id c.next ≡ true

-- of two concurrent characters the one with the lower identifier stands above (001, Definition 8 and Theorem 3)
abbrev pub Sorted : List Character → Type 0
Sorted cs =
    (c d : Character) → Memᴰ c cs → Memᴰ d cs → Concurrent cs c d →
    above cs c.id d.id ≡ below c.id d.id

-- what integration keeps from the empty list on
pub record Grown (cs : List Character) : Type 0 where
  pub standing : Standing cs
  pub births : Births cs
  pub sorted : Sorted cs

-- no identifier stands for different inserts among the characters of the two
abbrev pub OneMeaning : List Character → List Character → Type 0
OneMeaning cs ds = (c d : Character) → Memᴰ c cs → Memᴰ d ds → c.id ≡ d.id → origin c ≡ origin d
