-- A replica's meaning: its site and two plain lists, on which the rules are written.
use Rattle.std.specs.Prelude.{ℕ, List, []}
use Rattle.woot.specs.declared.Site.{Site}
use Rattle.woot.specs.declared.Operation.{Operation}
use Rattle.woot.specs.declared.Operation.TheVariants.{Insert as insert}
use Rattle.woot.specs.declared.Character.{Character}
use Rattle.woot.specs.Identifiers.{begin}

-- characters from the top, pending operations earliest first
pub record State : Type 0 where
  pub site : Site
  pub characters : List Character
  pub pending : List Operation

-- "an empty sheet has no rows, nothing waiting and clock 0"
unfoldable pub initial : ℕ → State
initial number = record { site = record { number = number; clock = 0 }; characters = []; pending = [] }

-- for the proofs: what a list is read as beyond its end
unfoldable pub blank_character : Character
blank_character = record { id = begin; code_point = 0; toggles = 0; previous = begin; next = begin }

unfoldable pub blank_operation : Operation
blank_operation = insert (record { id = begin; code_point = 0; previous = begin; next = begin })
