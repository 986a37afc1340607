-- A C program reads the word and the length off the returned number as the result has them, since no part is cut.
use Prim.Native.Nat.{ℕ, ◌%◌}
use mathlib.Core.Path.{◌≡◌}
use mathlib.Core.List.{List}
use lib.ListN.{take}
use Rattle.answers.specs.Answers.{Word, done, waits, known, refused}
use Rattle.effects.specs.Results.{word_number, number_of}
use Rattle.effects.specs.Effects.{Effect}
use Rattle.c_calls.specs.Calls.{CCall, effect_of}
use Rattle.c_calls.proofs.Fitting.{returned-reads-back}
use Rattle.consistency.specs.Copies.{bytes_after, word_read, written_read, word_of, kept_bytes}

word_read_lem : (r : ℕ) (w : Word) → r % 4 ≡ word_number w → word_read r ≡ w
unfolding word_read
word_read_lem r done e = rw e
word_read_lem r waits e = rw e
word_read_lem r known e = rw e
word_read_lem r refused e = rw e

-- what the result says is kept: the bytes written, or those that were handed
abbrev pub kept : List ℕ → Effect → List ℕ
kept bytes e = bytes_after e.result.reply.word bytes (take e.result.written e.output)

module _ (c : CCall) (bytes out line : List ℕ) where
  abbrev effect : Effect
  effect = effect_of c bytes out line

  pub word-returned : word_of effect ≡ effect.result.reply.word
  unfolding word_of
  word-returned =
      word_read_lem (number_of effect.result) effect.result.reply.word (returned-reads-back c bytes out line).word_read

  -- what a C program has then
  pub effect_returned : (before : List ℕ) → kept_bytes before effect ≡ kept before effect
  unfolding kept_bytes written_read
  effect_returned before = rw (word-returned, (returned-reads-back c bytes out line).written_read)
