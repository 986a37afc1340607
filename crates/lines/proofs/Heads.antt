-- A line by its first field: where that is the head word, what follows it decides.
use mathlib.Core.Path.{◌≡◌}
use mathlib.Core.List.{List}
use mathlib.Core.Bool.{true, false}
use Prim.Native.Nat.{ℕ}
use lib.ListN.{length, take, drop}
use Rattle.std.proofs.Common.{Err}
use Rattle.decimal.specs.declared.Fault.TheVariants.{Malformed}
use Rattle.lines.specs.Lines.{before}
use Rattle.lines.specs.Fields.{tab, fields, equal, has_layout, values_of}
use Rattle.lines.specs.Answers.{goes_on, verdict_on, numbers_after, numbers_of}
use Rattle.lines.proofs.Bytes.{found_front}
use Rattle.lines.proofs.Fields.{fields-first, fields-next}

module _ (head limits line : List ℕ) (end : ℕ) (e : end ≡ length (before tab line)) where
  -- the first field is another word
  pub other-head : equal (take end line) head ≡ false → Err Malformed ≡ numbers_of head limits (fields line)
  unfolding numbers_of verdict_on has_layout
  other-head h = rw (fields-first line, ← found_front tab line end e, h)

  -- it is the head word
  pub same_head : equal (take end line) head ≡ true → numbers_after limits (fields (drop end line)) ≡ numbers_of head limits (fields line)
  unfolding numbers_after numbers_of has_layout goes_on values_of
  same_head h = rw (e, fields-next line, fields-first line, ← found_front tab line end e, h)
