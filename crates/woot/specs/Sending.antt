-- What a call that sends an operation answers.
use Rattle.std.proofs.Math.Option.{Option, none, some}
use Rattle.answers.specs.declared.Answer.{Answer}
use Rattle.answers.specs.declared.Answer.TheVariants.{Done, Refused}
use Rattle.woot.specs.declared.Operation.{Operation}
use Rattle.std.specs.Prelude.{Ok, Err}
use Rattle.woot.specs.Sent.{Sending}

-- the answer of a call that sends, without the operation
unfoldable pub answer_of : Sending → Answer
answer_of (Ok x) = Done x.integrated x.discarded
answer_of (Err r) = Refused r

-- the operation to be sent, none with a refusal
unfoldable pub sent_operation : Sending → Option Operation
sent_operation (Ok x) = some x.operation
sent_operation (Err r) = none
