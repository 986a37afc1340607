-- For the proofs of the code alone: what the steps of a call leave, of replicas in memory.
use Rattle.std.specs.Prelude.{ℕ, zero, suc, ◌≡◌, true, not, cond, List, [], ◌∷◌, Ok, Err}
use Rattle.woot.specs.declared.Replica.{Replica}
use Rattle.answers.specs.declared.Refusal.TheVariants.{Form}
use Rattle.answers.specs.declared.Answer.{Answer}
use Rattle.answers.specs.declared.Answer.TheVariants.{Done, Refused}
use Rattle.woot.specs.declared.ReceiptAt.{ReceiptAt}
use Rattle.woot.specs.declared.Generated.{Generated}
use Rattle.woot.specs.Writing.{Written}
use Rattle.woot.specs.Sending.{answer_of}
use Rattle.woot.specs.Memory.{replica_well_formed}
use Rattle.answers.specs.Answers.{changes, ◌⇒◌, first, decided}
use Rattle.cursor.specs.Bits.{shift_bits}
use Rattle.codec.specs.Operations.{operation_line}
use Rattle.replica.specs.Texts.{text_of}
use Rattle.saved.specs.Calls.{bytes_of}
use Rattle.saving.specs.Documents.{lines_in}
use Rattle.effects.specs.Results.{Result, result, silent}
use Rattle.effects.specs.Effects.{Effect, quiet, turned, writing_noted, writing, writing_both}
use Rattle.woot.specs.Sent.{Sending}

-- an answer with so many bytes written and a note, unless writing was refused
unfoldable pub after_noting : Answer → ℕ → Written → Result
after_noting a note (Ok n) = result a n note
after_noting a note (Err q) = silent (Refused q)

unfoldable pub after_writing : Answer → Written → Result
after_writing a w = after_noting a 0 w

-- what receiving with a cursor leaves
unfoldable pub receipt_at_left : ReceiptAt → List ℕ → Effect
receipt_at_left x out =
    cond (changes x.answer) (writing_noted x.answer (shift_bits x.shift) (bytes_of x.replica) out)
    (quiet out [] x.answer)

-- what comes of a call that sends
unfoldable pub sent_left : Sending → Replica → List ℕ → List ℕ → Effect
sent_left (Ok x) r out line = writing_both (Done x.integrated x.discarded) (bytes_of r) (operation_line x.operation) out line
sent_left (Err q) r out line = turned out line q

unfoldable pub generated_left : Generated → List ℕ → List ℕ → Effect
generated_left x out line = sent_left x.answer x.replica out line

-- where it is sent, the replica that is left is in form
abbrev pub Savable : Generated → Type 0
Savable x = changes (answer_of x.answer) ≡ true → replica_well_formed x.replica ≡ true

-- what comes of typing a block: the first operations in columns are sent, and with none nothing is written
unfoldable pub lines_left : Answer → Replica → List ℕ → ℕ → List ℕ → List ℕ → Effect
lines_left a r typed zero out line = quiet out line a
lines_left a r typed (suc n) out line = writing_both a (bytes_of r) (lines_in typed (suc n)) out line

-- the text of a replica, whose form decides first
unfoldable pub text_left : Replica → List ℕ → Effect
text_left r out =
    decided (turned out []) (first ((not (replica_well_formed r) ⇒ Form) ∷ [])) (writing (Done 0 0) (text_of r) out)
