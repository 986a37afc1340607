-- Document 02, Req 07, "Is this sheet one that typing could make?": which characters received operations can leave, and
-- loading for use, which takes no others.
use Rattle.std.specs.Prelude.{ℕ, zero, suc, Bool, ◌&&◌, ◌||◌, not, cond, List, [], ◌∷◌, ◌++◌, map, eqb, length}
use Rattle.lists.specs.Lists.{any, every, keep}
use Rattle.woot.specs.declared.Identifier.{Identifier}
use Rattle.woot.specs.declared.Operation.{Operation}
use Rattle.woot.specs.declared.Operation.TheVariants.{Insert as insert, Toggle as toggle}
use Rattle.woot.specs.declared.Character.{Character}
use Rattle.answers.specs.declared.Refusal.TheVariants.{Form, Unreachable}
use Rattle.answers.specs.declared.Answer.{Answer}
use Rattle.answers.specs.declared.Answer.TheVariants.{Done, Refused}
use Rattle.woot.specs.Identifiers.{same, below}
use Rattle.woot.specs.Operations.{origin}
use Rattle.woot.specs.State.{State, initial}
use Rattle.woot.specs.Placing.{identifiers, above}
use Rattle.woot.specs.Form.{well_formed}
use Rattle.answers.specs.Answers.{Check, ◌⇒◌, first, decided}

-- ---- neighbours come first

-- x is the identifier of one of the characters
unfoldable pub among : List Character → Identifier → Bool
among cs x = any (same x) (identifiers cs)

-- neither neighbour is one of those that are left, so it could have come before them all
unfoldable pub free : List Character → Character → Bool
free left c = not (among left c.previous) && not (among left c.next)

-- those that are not free
unfoldable pub bound : List Character → List Character
bound left = keep (λ c. not (free left c)) left

-- what is left once the free ones are taken away, n times
unfoldable pub peeled : ℕ → List Character → List Character
peeled zero left = left
peeled (suc n) left = peeled n (bound left)

-- no character is its own neighbour, or its neighbour's neighbour, and so on: taking away as often as there are
-- characters leaves none
unfoldable pub acyclic : List Character → Bool
acyclic cs = eqb (length (peeled (length cs) cs)) 0

-- ---- concurrent characters stand by identifier

-- where c stands above d, and each between the other's neighbours, neither was there when the other was typed: then c
-- has the lower identifier
unfoldable pub ordered_pair : List Character → Character → Character → Bool
ordered_pair cs c d =
    not (above cs c.id d.id && above cs d.previous c.id && above cs d.id c.next)
    || below c.id d.id

-- so it is with any two, hidden ones too
unfoldable pub ordered_pairs : List Character → Bool
ordered_pairs cs = every (λ c. every (ordered_pair cs c) cs) cs

-- "some sequence of received operations, begun from an empty sheet, leaves those rows"; that these two say it is proved
-- in `convergence`
unfoldable pub loadable : List Character → Bool
loadable cs = acyclic cs && ordered_pairs cs

-- ---- operations that the characters are what is left of

-- their inserts, from the top
abbrev pub arrivals : List Character → List Operation
arrivals cs = map (λ c. insert (origin c)) cs

-- for each that has been toggled one toggle, from site n
unfoldable pub turnings : ℕ → List Character → List Operation
turnings n [] = []
turnings n (c ∷ cs) =
    cond (eqb c.toggles 0) (turnings n cs)
    (toggle (record { sender = n; target = c.id; toggles = c.toggles }) ∷ turnings n cs)

-- ---- loading for use

-- "A sheet in form that can't be made so is refused with 16, after 3"; "Waiting operations are checked for form only"
unfoldable pub use_checks : Bool → State → List (Check Answer)
use_checks formed s =
    (not formed ⇒ Refused Form) ∷ (not (loadable s.characters) ⇒ Refused Unreachable) ∷ []

-- what it answers and leaves
pub record UseOutcome : Type 0 where
  pub answer : Answer
  pub state : State

-- a refusal loads nothing: the empty state of number 0, which no site has, stands beside it
unfoldable pub unused : Answer → UseOutcome
unused a = record { answer = a; state = initial 0 }

-- the very state; nothing is carried out or thrown out
unfoldable pub use_when : Bool → State → UseOutcome
use_when formed s = decided unused (first (use_checks formed s)) (record { answer = Done 0 0; state = s })

unfoldable pub use_outcome : State → UseOutcome
use_outcome s = use_when (well_formed s) s
