-- Inserts and toggles in lent arrays, 1,024 slots to a column. What lies behind them does not matter.
use Rattle.std.specs.Prelude.{ℕ, ◌≤◌, ◌≡◌, List, map, length, take, get_or}
use Rattle.woot.specs.declared.Insert.{Insert}
use Rattle.woot.specs.declared.Toggle.{Toggle}
use Rattle.woot.specs.declared.Operation.TheVariants.{Toggle as toggle}
use Rattle.woot.specs.Operations.{origin}
use Rattle.woot.specs.Table.{key}
use Rattle.woot.specs.Memory.{character_slots, character_numbers, column, character_of, value_of}
use Rattle.woot.specs.Memory.{key_column, previous_column, next_column, code_point_column}

-- ---- inserts

-- an array whose four columns begin with the numbers of these inserts, as a document has those of its characters
pub record InsertsIn (xs : List ℕ) (is : List Insert) : Type 0 where
  pub size : length xs ≡ character_numbers
  pub few : length is ≤ character_slots
  pub ids : take (length is) (key_column xs) ≡ map (λ i. key i.id) is
  pub previous : take (length is) (previous_column xs) ≡ map (λ i. key i.previous) is
  pub next : take (length is) (next_column xs) ≡ map (λ i. key i.next) is
  pub points : take (length is) (code_point_column xs) ≡ map (λ i. i.code_point) is

-- the insert that the numbers in a slot say
unfoldable pub insert_at : List ℕ → ℕ → Insert
insert_at xs i =
    origin
    (character_of (get_or (key_column xs) i 0) (get_or (previous_column xs) i 0) (get_or (next_column xs) i 0)
    (get_or (code_point_column xs) i 0) 0)

-- ---- toggles

-- two columns of them
abbrev pub toggle_numbers : ℕ
toggle_numbers = 2048

-- the keys of their targets, and who sent each with its count as one number
abbrev pub target_column : List ℕ → List ℕ
target_column xs = column character_slots 0 xs

abbrev pub stamp_column : List ℕ → List ℕ
stamp_column xs = column character_slots 1 xs

-- an array whose two columns begin with the numbers of these toggles
pub record TogglesIn (xs : List ℕ) (ts : List Toggle) : Type 0 where
  pub size : length xs ≡ toggle_numbers
  pub few : length ts ≤ character_slots
  pub targets : take (length ts) (target_column xs) ≡ map (λ t. key t.target) ts
  pub stamps : take (length ts) (stamp_column xs) ≡ map (λ t. value_of (toggle t)) ts
