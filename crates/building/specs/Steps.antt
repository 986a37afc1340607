-- For the proofs of the code alone: the toggles that an array holds, and the characters that they are carried out on.
use Rattle.std.specs.Prelude.{ℕ, ◌/◌, ◌%◌, ◌≡◌, true, List, length, get_or}
use Rattle.lists.specs.Lists.{every}
use Rattle.woot.specs.declared.Toggle.{Toggle}
use Rattle.woot.specs.declared.Character.{Character}
use Rattle.woot.specs.Ranges.{toggle_in_range}
use Rattle.woot.specs.Memory.{identifier}
use Rattle.memory.specs.Columns.{Document}
use Rattle.heap.specs.Columns.{target_column, stamp_column, TogglesIn}
use Rattle.passes.specs.Steps.{Laid}

-- the toggle that the numbers in a slot say
unfoldable pub toggle_at : List ℕ → ℕ → Toggle
toggle_at xs j =
    record {
      sender = get_or (stamp_column xs) j 0 / 256;
      target = identifier (get_or (target_column xs) j 0);
      toggles = get_or (stamp_column xs) j 0 % 256;
    }

-- an array with these toggles, m of them
pub record Among (xs : List ℕ) (m : ℕ) (ts : List Toggle) : Type 0 where
  pub held : TogglesIn xs ts
  pub many : m ≡ length ts
  pub ranged : every toggle_in_range ts ≡ true

-- there are such toggles, and characters that a document holds
pub record Toggles (d : Document) (xs : List ℕ) (m : ℕ) : Type 0 where
  pub characters : List Character
  pub toggles : List Toggle
  pub laid : Laid d characters
  pub among : Among xs m toggles
