-- Bytes written into a lent slice, all of them or none: the shape of every writer.
use Rattle.std.specs.Prelude.{ℕ, List, [], ◌∷◌, ◌++◌, map, ltb, length, Ok, Err, Result}
use Rattle.output.specs.Output.{placed}
use Rattle.answers.specs.declared.Refusal.{Refusal}
use Rattle.answers.specs.declared.Refusal.TheVariants.{Output}
use Rattle.answers.specs.Answers.{number, Check, ◌⇒◌, first, decided}

-- what a writer answers: how many bytes it wrote, or why it wrote none
abbrev pub Written : Type 0
Written = Result ℕ Refusal

-- refusals as a writer answers them
abbrev pub refusing : List (Check Refusal) → List (Check Written)
refusing cs = map (λ c. c.holds ⇒ Err c.answer) cs

-- the conditions that a writer has of its own, and last 12: "the lent output is shorter than the result"
unfoldable pub writing_checks : List (Check Written) → List ℕ → List ℕ → List (Check Written)
writing_checks own bytes out = own ++ (ltb (length out) (length bytes) ⇒ Err Output) ∷ []

-- what is answered: how many bytes there are, or the refusal
unfoldable pub written_as : List (Check Written) → List ℕ → List ℕ → Written
written_as own bytes out = decided (λ a. a) (first (writing_checks own bytes out)) (Ok (length bytes))

-- every byte of the slice afterwards: the bytes at its front and what stood behind them, or all as it was
unfoldable pub output_after : List (Check Written) → List ℕ → List ℕ → List ℕ
output_after own bytes out = decided (λ a. out) (first (writing_checks own bytes out)) (placed out 0 bytes)

-- the refusal's number, or 0
unfoldable pub written_number : Written → ℕ
written_number (Ok n) = 0
written_number (Err r) = number r

-- how many bytes were written, 0 with a refusal
unfoldable pub written_length : Written → ℕ
written_length (Ok n) = n
written_length (Err r) = 0
