-- How much a state holds, as the result of a call.
use Rattle.std.specs.Prelude.{◌-◌, length}
use Rattle.answers.specs.declared.Answer.TheVariants.{Done}
use Rattle.woot.specs.Limits.{capacity}
use Rattle.woot.specs.State.{State}
use Rattle.woot.specs.Form.{present_inserts}
use Rattle.woot.specs.Calls.{visibles}
use Rattle.effects.specs.Results.{Result, result}

-- the counts of a state: its visible characters, its pending operations, all its characters, and how many more it has
-- room for
unfoldable pub counts_of : State → Result
counts_of s =
    result (Done (length (visibles s.characters)) (length s.pending)) (length s.characters)
    (capacity - length (present_inserts s))
