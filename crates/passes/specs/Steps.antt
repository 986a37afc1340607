-- For the proofs of the code alone: what the arrays hold between the steps of the passes, and what each step leaves.
use Rattle.std.specs.Prelude.{ℕ, ◌+◌, ◌≤◌, ◌<◌, ◌≡◌, true, false, ◌||◌, List, [], ◌++◌, map, length, take, drop}
use Rattle.lists.specs.Lists.{every, distinct}
use Rattle.woot.specs.declared.Insert.{Insert}
use Rattle.woot.specs.declared.Operation.TheVariants.{Insert as insert}
use Rattle.woot.specs.declared.Character.{Character}
use Rattle.woot.specs.declared.Table.{Table}
use Rattle.woot.specs.Identifiers.{same}
use Rattle.woot.specs.Limits.{capacity}
use Rattle.woot.specs.Ranges.{insert_in_range, character_in_range}
use Rattle.woot.specs.Placing.{identifiers, integrate_insert}
use Rattle.woot.specs.Pending.{executable, crossed, unplaceable}
use Rattle.woot.specs.Memory.{pending_slots, in_columns}
use Rattle.convergence.specs.Passes.{Passed, pass}
use Rattle.memory.specs.Columns.{Document, document_of}
use Rattle.memory.specs.Lent.{columns_as}
use Rattle.index.specs.Keys.{AllSmall}
use Rattle.heap.specs.Columns.{InsertsIn}
use Rattle.passes.specs.declared.Taken.{Taken}
use Rattle.passes.specs.declared.Taken.TheVariants.{Placed, Lacking, Dropped}

-- ---- what is asked

-- the document with these lent arrays, this table and nothing pending
abbrev pub laid_as : List ℕ → List ℕ → ℕ → Table → Document
laid_as characters toggles n table =
    columns_as characters toggles n (in_columns pending_slots [] [] [] []) 0 table.heads table.links

-- inserts that may be placed among characters, whatever becomes of each: no identifier stands twice, and there is room
-- for all of them
pub record Offered (cs : List Character) (is : List Insert) : Type 0 where
  pub characters : every character_in_range cs ≡ true
  pub inserts : every insert_in_range is ≡ true
  pub apart : distinct same (identifiers cs ++ map (λ i. i.id) is) ≡ true
  pub room : length cs + length is ≤ capacity

-- a document that holds these characters and nothing else, none of them twice
pub record Laid (d : Document) (cs : List Character) : Type 0 where
  pub tidy : d ≡ document_of cs []
  pub small : AllSmall cs
  pub apart : distinct same (identifiers cs) ≡ true
  pub few : length cs ≤ capacity

pub record Lays (d : Document) : Type 0 where
  pub characters : List Character
  pub laid : Laid d characters

-- a document that holds these characters, and an array with these inserts, m of them, that are offered to them
pub record Offering (d : Document) (xs : List ℕ) (m : ℕ) (cs : List Character) (is : List Insert) : Type 0 where
  pub tidy : d ≡ document_of cs []
  pub held : InsertsIn xs is
  pub many : m ≡ length is
  pub offered : Offered cs is

-- there are such lists
pub record Offers (d : Document) (xs : List ℕ) (m : ℕ) : Type 0 where
  pub characters : List Character
  pub inserts : List Insert
  pub offering : Offering d xs m characters inserts

-- ---- what is left

-- what became of an insert, and the characters in lent arrays, of which there were n
unfoldable pub TakenAs : List Character → Insert → List ℕ → List ℕ → ℕ → Table → Taken → Type 0
TakenAs cs i characters toggles n table Placed =
    (laid_as characters toggles (n + 1) table ≡ document_of (integrate_insert cs i) [])
    × (executable cs (insert i) ≡ true)
    × (crossed cs (insert i) || unplaceable cs (insert i) ≡ false)
TakenAs cs i characters toggles n table Lacking =
    (laid_as characters toggles n table ≡ document_of cs []) × (executable cs (insert i) ≡ false)
TakenAs cs i characters toggles n table Dropped =
    (laid_as characters toggles n table ≡ document_of cs [])
    × (executable cs (insert i) ≡ true)
    × (crossed cs (insert i) || unplaceable cs (insert i) ≡ true)

-- ---- a pass

-- what it comes to from the insert in slot i on, where the first k slots have those that are left of the ones before
unfoldable pub ahead : List Character → List Insert → ℕ → ℕ → Passed
ahead cs js k i =
    record { characters = (pass cs (drop i js)).characters; left = take k js ++ (pass cs (drop i js)).left }

-- a pass over m inserts has come to slot i, and will come to p
pub record Reached (d : Document) (xs : List ℕ) (k i m : ℕ) (p : Passed) : Type 0 where
  pub characters : List Character
  pub inserts : List Insert
  pub tidy : d ≡ document_of characters []
  pub held : InsertsIn xs inserts
  pub many : length inserts ≡ m
  pub kept : k ≤ i
  pub offered : Offered characters (take k inserts ++ drop i inserts)
  pub comes : ahead characters inserts k i ≡ p

-- there is such a pass, and slot i is not behind its last
pub record Reaches (d : Document) (xs : List ℕ) (k i : ℕ) : Type 0 where
  pub many : ℕ
  pub passed : Passed
  pub reached : Reached d xs k i many passed
  pub within : i < many
