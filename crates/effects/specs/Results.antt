-- What a call returns: a reply and two lengths, or a length and a shift, in one number.
use Rattle.std.specs.Prelude.{ℕ, ◌+◌, ◌*◌, ◌%◌, ◌^◌}
use Rattle.answers.specs.declared.Answer.{Answer}
use Rattle.answers.specs.Answers.{Word, done, waits, known, refused, Reply, reply}

-- a reply, and how many bytes were written to the first output and to the second, which takes the line; receiving with
-- a cursor has no second output, and its shift stands there in sixteen bits
pub record Result : Type 0 where
  pub reply : Reply
  pub written : ℕ
  pub line : ℕ

unfoldable pub result : Answer → ℕ → ℕ → Result
result a n m = record { reply = reply a; written = n; line = m }

-- an answer with nothing written
unfoldable pub silent : Answer → Result
silent a = result a 0 0

abbrev pub word_number : Word → ℕ
word_number done = 0
word_number waits = 1
word_number known = 2
word_number refused = 3

-- six numbers in the bits of one, from the lowest: 2, 6, 12, 12, 16 and 16 of them
unfoldable pub in_bits : ℕ → ℕ → ℕ → ℕ → ℕ → ℕ → ℕ
in_bits word refusal integrated discarded written line =
    word % 4 + refusal % 64 * 4 + integrated % 4096 * 256 + discarded % 4096 * 2 ^ 20 + written % 65536 * 2 ^ 32
    + line % 65536 * 2 ^ 48

-- the number that is returned
unfoldable pub number_of : Result → ℕ
number_of x =
    in_bits (word_number x.reply.word) x.reply.refusal x.reply.integrated x.reply.discarded x.written
    x.line
