-- What a list of calls may start from, and what was carried out to make it.
use Rattle.std.specs.Prelude.{ℕ, List, [], ◌++◌}
use Rattle.woot.specs.declared.Operation.{Operation}
use Rattle.woot.specs.declared.Character.{Character}
use Rattle.woot.specs.State.{State, initial}
use Rattle.woot.specs.Histories.{Call, run, integrated_by}
use Rattle.bulk.specs.Building.{build}
use Rattle.bulk.specs.Loading.{arrivals, turnings, use_outcome}

-- what a list of calls may start from: "each list starts from an empty sheet of any laptop number"; document 02, Req
-- 08 and 13: or from what is built of a laptop number and a heap; Req 07: or from a state that is loaded for use, which
-- leaves it, or with a refusal the empty state of number 0
pub data Begun : Type 0 where
  empty : ℕ → Begun
  heaped : ℕ → List Operation → Begun
  loaded : State → Begun

-- the state that it is
abbrev pub start_of : Begun → State
start_of (empty n) = initial n
start_of (heaped n heap) = (build n heap).state
start_of (loaded s) = (use_outcome s).state

-- the operations that were carried out to make it; of what is loaded nobody knows these, so it is the inserts of its
-- characters and a toggle for each that has been toggled, whose carrying out, in some order, leaves these characters
abbrev pub beforehand : Begun → List Operation
beforehand (empty n) = []
beforehand (heaped n heap) = (build n heap).integrated
beforehand (loaded s) =
    let cs : List Character = (use_outcome s).state.characters in arrivals cs ++ turnings 1 cs

abbrev pub characters_after : Begun → List Call → List Character
characters_after b cs = (run (start_of b) cs).characters

abbrev pub history_of : Begun → List Call → List Operation
history_of b cs = beforehand b ++ integrated_by (start_of b) cs
