-- What a call that makes an operation here answers.
use Rattle.std.specs.Prelude.{ℕ, Result, Ok}
use Rattle.answers.specs.declared.Refusal.{Refusal}
use Rattle.woot.specs.declared.Operation.{Operation}
use Rattle.woot.specs.declared.Sent.{Sent}

-- the operation to be sent with the counts, or why there is none
abbrev pub Sending : Type 0
Sending = Result Sent Refusal

-- the operation o, with n carried out and m discarded
abbrev pub sends : Operation → ℕ → ℕ → Sending
sends o n m = Ok (record { operation = o; integrated = n; discarded = m })
