-- What a call does: the result, and every byte of its outputs afterwards.
use Rattle.std.specs.Prelude.{ℕ, ◌||◌, cond, ◌≡◌, List, [], ◌∷◌, ltb, ℤ, length, Ok, Err}
use Rattle.output.specs.Output.{placed}
use Rattle.woot.specs.declared.Operation.{Operation}
use Rattle.answers.specs.declared.Refusal.{Refusal}
use Rattle.answers.specs.declared.Refusal.TheVariants.{Output}
use Rattle.answers.specs.declared.Answer.{Answer}
use Rattle.answers.specs.declared.Answer.TheVariants.{Done, Refused}
use Rattle.woot.specs.State.{State}
use Rattle.answers.specs.Answers.{changes, ◌⇒◌, first, decided}
use Rattle.woot.specs.Calls.{Outcome}
use Rattle.bulk.specs.Pasting.{PasteOutcome}
use Rattle.lines.specs.Lines.{concatenated}
use Rattle.cursor.specs.Bits.{shift_bits}
use Rattle.codec.specs.Operations.{operation_line}
use Rattle.saved.specs.Format.{saved_bytes}
use Rattle.effects.specs.Results.{Result, result, silent, number_of}
use Rattle.woot.specs.Sent.{Sending}

-- `line` is the second output; a call that has none leaves the empty one
pub record Effect : Type 0 where
  pub result : Result
  pub output : List ℕ
  pub line : List ℕ

-- the number that a call returns, and what it leaves in its outputs
abbrev pub Leaves : Effect → ℕ → List ℕ → List ℕ → Type 0
Leaves e r out line = (r ≡ number_of e.result) × (out ≡ e.output) × (line ≡ e.line)

-- nothing is written
unfoldable pub quiet : List ℕ → List ℕ → Answer → Effect
quiet out line a = record { result = silent a; output = out; line = line }

-- "sheet, clock and every output byte are as before"
unfoldable pub turned : List ℕ → List ℕ → Refusal → Effect
turned out line q = quiet out line (Refused q)

-- bytes into one output, and a note where the length of the second stands; condition 12 comes last
abbrev pub writing_noted : Answer → ℕ → List ℕ → List ℕ → Effect
writing_noted a note bytes out =
    decided (turned out []) (first ((ltb (length out) (length bytes) ⇒ Output) ∷ []))
    (record { result = result a (length bytes) note; output = placed out 0 bytes; line = [] })

-- bytes into one output
unfoldable pub writing : Answer → List ℕ → List ℕ → Effect
writing a bytes out = writing_noted a 0 bytes out

-- bytes into both: "refusal 12 if either output is short"
unfoldable pub writing_both : Answer → List ℕ → List ℕ → List ℕ → List ℕ → Effect
writing_both a bytes sent out line =
    decided (turned out line)
    (first ((ltb (length out) (length bytes) || ltb (length line) (length sent) ⇒ Output) ∷ []))
    (record { result = result a (length bytes) (length sent); output = placed out 0 bytes; line = placed line 0 sent })

-- what receiving leaves: the new state is saved where it changed; "with known, no byte is written"
unfoldable pub after_receiving : Outcome Answer → List ℕ → Effect
after_receiving w out =
    cond (changes w.answer) (writing w.answer (saved_bytes w.state) out) (quiet out [] w.answer)

-- what receiving with a cursor leaves: the same, and the shift in its bits where the new state is saved
unfoldable pub after_receiving_at : Outcome Answer → ℤ → List ℕ → Effect
after_receiving_at w shift out =
    cond (changes w.answer) (writing_noted w.answer (shift_bits shift) (saved_bytes w.state) out)
    (quiet out [] w.answer)

-- what typing, erasing and restoring leave: the new state and the line to send
unfoldable pub sending : State → Sending → List ℕ → List ℕ → Effect
sending s (Ok x) out line = writing_both (Done x.integrated x.discarded) (saved_bytes s) (operation_line x.operation) out line
sending s (Err q) out line = turned out line q

unfoldable pub after_sending : Outcome Sending → List ℕ → List ℕ → Effect
after_sending w out line = sending w.state w.answer out line

-- what pasting leaves: the new state and the lines to send, one after another; with nothing to send nothing is written
unfoldable pub sending_all : State → Answer → List Operation → List ℕ → List ℕ → Effect
sending_all s a [] out line = quiet out line a
sending_all s a (o ∷ os) out line = writing_both a (saved_bytes s) (concatenated operation_line (o ∷ os)) out line

unfoldable pub after_pasting : PasteOutcome → List ℕ → List ℕ → Effect
after_pasting w out line = sending_all w.state w.answer w.own out line
