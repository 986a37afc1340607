-- What the hall program answers to a line, and all that it prints. (Document 01, "The hall program".)
use Rattle.std.specs.Prelude.{ℕ, zero, suc, ◌+◌, cond, List, ◌++◌, eqb, length, take, Ok, Err}
use Rattle.woot.specs.declared.Replica.{Replica}
use Rattle.woot.specs.declared.Receipt.{Receipt}
use Rattle.answers.specs.declared.Answer.TheVariants.{Refused}
use Rattle.woot.specs.State.{initial}
use Rattle.woot.specs.Memory.{meaning, stored}
use Rattle.codec.specs.Calls.{Read}
use Rattle.lines.specs.Lines.{rest}
use Rattle.codec.specs.Calls.{read_operation}
use Rattle.woot.specs.Replicas.{received}
use Rattle.transcript.specs.Lines.{report_line, text_line}

-- an operation is received; what could not be read is refused, and the very replica comes back
unfoldable pub received_as : Replica → Read → Receipt
received_as r (Ok o) = received r o
received_as r (Err q) = record { answer = Refused q; replica = r }

-- the answer to the first line of the bytes
unfoldable pub received_line : Replica → List ℕ → Receipt
received_line r s = received_as r (read_operation s)

-- what is printed from the line n of the input on, where the lines left are at most as many as the first number says
unfoldable pub printed_from : ℕ → ℕ → Replica → List ℕ → List ℕ
printed_from zero n r s = text_line (meaning r).characters
printed_from (suc most) n r s =
    let a : Receipt = received_line r s in
    cond (eqb (length s) 0)
    (text_line (meaning r).characters)
    (report_line n a.answer ++ printed_from most (n + 1) a.replica (rest s))

-- the bytes of the input that count
abbrev pub input_most : ℕ
input_most = 65536

-- the whole output on the whole input: "it begins with an empty sheet of laptop 16"
unfoldable pub whole_output : List ℕ → List ℕ
whole_output s = printed_from (length s) 1 (stored (initial 16)) s

-- "reads the first 65,536 bytes of standard input, takes them as the whole input": all that the program prints
unfoldable pub hall_output : List ℕ → List ℕ
hall_output input = whole_output (take input_most input)
