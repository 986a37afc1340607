-- Bytes that a slice has room for are what is written at its front.
use mathlib.Core.Path.{◌≡◌}
use mathlib.Core.List.{List, []}
use Prim.Native.Nat.{ℕ, ◌+◌, ◌≤◌}
use native.Mathlib.Omega.{arith}
use lib.ListN.{length, drop}
use lib.Seq.{take-append_seam}
use borrow.Author.Tests.{le-ltb}
use Rattle.output.proofs.Laws.{placed-room}
use Rattle.answers.specs.Answers.{decided}
use Rattle.woot.specs.Writing.{writing_checks, written_as, output_after, written_length}
use Rattle.transcript.specs.Loop.{front}

pub front-whole : (bytes out : List ℕ) → length bytes ≤ length out → front (written_as [] bytes out) (output_after [] bytes out) ≡ bytes
unfolding front written_length written_as output_after writing_checks decided
front-whole bytes out h =
    rw (le-ltb (length out) (length bytes) h, placed-room out 0 bytes (omega arith))
    (take-append_seam bytes (drop (0 + length bytes) out))
