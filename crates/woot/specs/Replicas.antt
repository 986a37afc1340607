-- The calls on replicas as they lie in memory: the rules applied to their meaning, and the struct that comes back.
use Rattle.std.specs.Prelude.{ℕ, Ok, Err}
use Rattle.woot.specs.declared.Identifier.{Identifier}
use Rattle.woot.specs.declared.Operation.{Operation}
use Rattle.woot.specs.declared.Replica.{Replica}
use Rattle.answers.specs.declared.Answer.{Answer}
use Rattle.answers.specs.declared.Answer.TheVariants.{Done, Deferred, Duplicate, Refused}
use Rattle.woot.specs.declared.Receipt.{Receipt}
use Rattle.woot.specs.declared.ReceiptAt.{ReceiptAt}
use Rattle.woot.specs.declared.Generated.{Generated}
use Rattle.woot.specs.State.{State}
use Rattle.woot.specs.Memory.{meaning, stored, replica_well_formed}
use Rattle.woot.specs.Calls.{Outcome, receive_when, local_insert_when, local_delete_when, local_restore_when}
use Rattle.woot.specs.Cursor.{receive_at_when, shift_of}
use Rattle.woot.specs.Sent.{Sending}

-- the very replica that was passed where nothing is changed, else the new state as it is stored
unfoldable pub after_answer : Replica → State → Answer → Replica
after_answer r s (Done n m) = stored s
after_answer r s Deferred = stored s
after_answer r s Duplicate = r
after_answer r s (Refused q) = r

unfoldable pub after_sent : Replica → State → Sending → Replica
after_sent r s (Ok x) = stored s
after_sent r s (Err q) = r

-- what is returned: the answer, and the replica as it is then
unfoldable pub receipt : Replica → Outcome Answer → Receipt
receipt r w = record { answer = w.answer; replica = after_answer r w.state w.answer }

unfoldable pub generated : Replica → Outcome Sending → Generated
generated r w = record { answer = w.answer; replica = after_sent r w.state w.answer }

-- with a cursor at gap g also the shift
unfoldable pub receipt_at : Replica → ℕ → Outcome Answer → ReceiptAt
receipt_at r g w =
    record { answer = w.answer; replica = after_answer r w.state w.answer; shift = shift_of (meaning r) w g }

-- receiving, without and with a cursor, typing, erasing and restoring on a replica
unfoldable pub received : Replica → Operation → Receipt
received r o = receipt r (receive_when (replica_well_formed r) (meaning r) o)

unfoldable pub received_at : Replica → Operation → ℕ → ReceiptAt
received_at r o g = receipt_at r g (receive_at_when (replica_well_formed r) (meaning r) o g)

unfoldable pub inserted : Replica → ℕ → ℕ → Generated
inserted r g n = generated r (local_insert_when (replica_well_formed r) (meaning r) g n)

unfoldable pub deleted : Replica → ℕ → Generated
deleted r p = generated r (local_delete_when (replica_well_formed r) (meaning r) p)

unfoldable pub restored : Replica → Identifier → Generated
restored r x = generated r (local_restore_when (replica_well_formed r) (meaning r) x)
