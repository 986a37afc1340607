-- For the proofs of the code alone: what inserting, deleting and restoring here come to.
use Rattle.std.specs.Prelude.{Result}
use Rattle.answers.specs.declared.Refusal.{Refusal}
use Rattle.woot.specs.declared.Operation.{Operation}
use Rattle.reception.specs.declared.Decision.{Decision}

-- an operation with what is decided on it, or why there is none
abbrev pub Made : Type 0
Made = Result (Operation × Decision) Refusal
