-- States that tell the rule of loading for use from slips, and the order of its refusals. Proved in
-- `proofs/LoadCases.antt`.
use Rattle.std.specs.Prelude.{ℕ, ◌≡◌, Bool, true, List, [], ◌∷◌, map}
use Rattle.woot.specs.declared.Insert.{Insert}
use Rattle.woot.specs.declared.Operation.TheVariants.{Insert as insert}
use Rattle.woot.specs.declared.Character.{Character}
use Rattle.woot.specs.Identifiers.{begin, end}
use Rattle.woot.specs.Operations.{character, with_toggles}
use Rattle.woot.specs.State.{State, initial}
use Rattle.answers.specs.Answers.{Reply, reply}
use Rattle.woot.specs.Situations.{◌at◌, letter, stray, delete_by, state_at, holding, naming_each_other, toggled_to}
use Rattle.woot.specs.Situations.{Done, Refused}
use Rattle.answers.specs.Order.{numbers_of, ranks_of, rises}
use Rattle.bulk.specs.Loading.{UseOutcome, use_checks, use_outcome}

-- a state; what is seen: the reply, and the state that is left
pub record Case : Type 0 where
  pub state : State
  pub replied : Reply
  pub left : State

-- the case with what is seen in truth
abbrev pub tried : Case → Case
tried c =
    let w : UseOutcome = use_outcome c.state in
    record { state = c.state; replied = reply w.answer; left = w.state }

-- taken as it is, or refused with a number
abbrev pub taken : State → Case
taken s = record { state = s; replied = Done 0 0; left = s }

abbrev pub refused : ℕ → State → Case
refused n s = record { state = s; replied = Refused n; left = initial 0 }

-- a state of site 1 with these characters
abbrev pub rows_of : List Character → State
rows_of cs = record { site = record { number = 1; clock = 9 }; characters = cs; pending = [] }

-- visible, and hidden
abbrev pub shown : Insert → Character
shown i = character i

abbrev pub hidden : Insert → Character
hidden i = with_toggles (character i) 1

-- two hidden characters, and two others that stand between each other's neighbours only since these are there
abbrev pub between_hidden : Character → Character → State
between_hidden c d = rows_of (hidden (letter (3 at 1) begin end) ∷ c ∷ d ∷ hidden (letter (3 at 2) begin end) ∷ [])

unfoldable pub load_cases : List Case
load_cases =
    -- no characters, and P7's, of which each needs the other
    taken (state_at 0 [] []) ∷ refused 16 naming_each_other
    -- a cycle of three: 1/1 needs 2/1, that needs 3/1, and that 1/1
    ∷ refused 16
    (holding (letter (1 at 1) begin (2 at 1) ∷ letter (2 at 1) begin (3 at 1) ∷ letter (3 at 1) (1 at 1) end ∷ []))
    -- the same with the last not needing the first; each a neighbour of the one before, so that three rounds are needed
    ∷ taken (holding (letter (1 at 1) begin (2 at 1) ∷ letter (2 at 1) begin (3 at 1) ∷ letter (3 at 1) begin end ∷ []))
    -- two between the marks, in the wrong order, though 9 is never answered there, and in the right one
    ∷ refused 16 (holding (letter (2 at 1) begin end ∷ letter (1 at 1) begin end ∷ []))
    ∷ taken (holding (letter (1 at 1) begin end ∷ letter (2 at 1) begin end ∷ []))
    -- the right one is by site, and by clock within a site
    ∷ taken (holding (letter (1 at 2) begin end ∷ letter (2 at 1) begin end ∷ []))
    ∷ refused 16 (holding (letter (1 at 2) begin end ∷ letter (1 at 1) begin end ∷ []))
    -- two that are not concurrent stand in any order
    ∷ taken (holding (letter (2 at 1) begin end ∷ letter (1 at 1) (2 at 1) end ∷ []))
    ∷ taken (holding (letter (2 at 1) begin (1 at 1) ∷ letter (1 at 1) begin end ∷ []))
    -- two with a row between them
    ∷ refused 16
    (holding (letter (2 at 1) begin end ∷ letter (3 at 1) (2 at 1) end ∷ letter (1 at 1) begin end ∷ []))
    -- hidden ones, one of two or both
    ∷ refused 16 (rows_of (hidden (letter (2 at 1) begin end) ∷ shown (letter (1 at 1) begin end) ∷ []))
    ∷ refused 16 (rows_of (shown (letter (2 at 1) begin end) ∷ hidden (letter (1 at 1) begin end) ∷ []))
    ∷ refused 16 (rows_of (hidden (letter (2 at 1) begin end) ∷ hidden (letter (1 at 1) begin end) ∷ []))
    -- and hidden neighbours
    ∷ refused 16
    (between_hidden (shown (letter (2 at 1) (3 at 1) (3 at 2))) (shown (letter (1 at 1) (3 at 1) (3 at 2))))
    ∷ taken (between_hidden (shown (letter (1 at 1) (3 at 1) (3 at 2))) (shown (letter (2 at 1) (3 at 1) (3 at 2))))
    -- any turn that the form allows
    ∷ taken (toggled_to 255)
    ∷ refused 3 (toggled_to 256)
    -- 16 before 3: P7's characters, and a clock below 1/1's
    ∷ refused 3 (state_at 0 (letter (1 at 1) begin (2 at 1) ∷ letter (2 at 1) (1 at 1) end ∷ []) [])
    -- what waits is looked at: inserts that need each other, two in the wrong order, one that will cross, a delete
    ∷ taken
    (state_at 9 [] (insert (letter (1 at 1) begin (2 at 1)) ∷ insert (letter (2 at 1) (1 at 1) end) ∷ []))
    ∷ taken
    (state_at 9 (letter (2 at 1) begin end ∷ []) (stray (1 at 1) ∷ insert (letter (1 at 2) (7 at 7) (2 at 1)) ∷ []))
    ∷ taken (state_at 9 [] (insert (letter (2 at 1) (1 at 1) (1 at 1)) ∷ delete_by 2 (1 at 1) ∷ []))
    ∷ []

-- each state is taken or refused as is expected
abbrev pub LoadTells : Type 0
LoadTells = map tried load_cases ≡ load_cases

-- loading for use meets 3 and 16, in this order, on any state
abbrev pub UseOrder : Type 0
UseOrder =
    (formed : Bool) (s : State) →
    (numbers_of (use_checks formed s) ≡ 3 ∷ 16 ∷ [])
    × (rises (ranks_of (map (λ c. c.answer) (use_checks formed s))) ≡ true)
