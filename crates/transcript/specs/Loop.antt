-- The hall program as its loop runs: each line by `transcript::process_line`, the text by
-- `transcript::report::text_line`, and of the slices that it lends them it prints what was written.
use Rattle.std.specs.Prelude.{ℕ, zero, suc, ◌+◌, cond, List, [], ◌++◌, eqb, length, take}
use Rattle.woot.specs.declared.Replica.{Replica}
use Rattle.woot.specs.Writing.{Written}
use Rattle.woot.specs.State.{initial}
use Rattle.woot.specs.Memory.{meaning, stored}
use Rattle.woot.specs.Writing.{written_as, output_after, written_length}
use Rattle.lines.specs.Lines.{rest}
use Rattle.transcript.specs.declared.Processed.{Processed}
use Rattle.transcript.specs.Lines.{report_line, text_line}
use Rattle.transcript.specs.Calls.{received_line}

-- the report on the first line of the bytes, which is the line n of the input
unfoldable pub report_on : Replica → ℕ → List ℕ → List ℕ
report_on r n s = report_line n (received_line r s).answer

-- one line: how much of its report was written into the lent slice, and the replica after it
unfoldable pub processed : Replica → ℕ → List ℕ → List ℕ → Processed
processed r n s out = record { written = written_as [] (report_on r n s) out; replica = (received_line r s).replica }

-- the lent slice after it
unfoldable pub processed_out : Replica → ℕ → List ℕ → List ℕ → List ℕ
processed_out r n s out = output_after [] (report_on r n s) out

-- the bytes at the front of a slice that were written
unfoldable pub front : Written → List ℕ → List ℕ
front w out = take (written_length w) out

module _ (out last : List ℕ) where
  -- what is printed of the text, with `last` lent
  unfoldable pub text_front : Replica → List ℕ
  text_front r =
      let text = text_line (meaning r).characters in
      front (written_as [] text last) (output_after [] text last)

  -- what is printed from the line n on, with `out` lent for each line; the first number is the most lines there can be
  unfoldable pub loop_from : ℕ → ℕ → Replica → List ℕ → List ℕ
  loop_from zero n r s = text_front r
  loop_from (suc most) n r s =
      let p : Processed = processed r n s out in
      cond (eqb (length s) 0)
      (text_front r)
      (front p.written (processed_out r n s out) ++ loop_from most (n + 1) p.replica (rest s))

  -- what is printed on the whole input, from an empty replica of site 16
  unfoldable pub looped : List ℕ → List ℕ
  looped s = loop_from (length s) 1 (stored (initial 16)) s
