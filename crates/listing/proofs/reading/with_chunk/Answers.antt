-- `listing::reading::with_chunk` meets its contract, field by field.
use Prim.Native.Nat.{min, ◌+◌}
use native.Mathlib.Omega.{arith}
use mathlib.Core.Path.{◌≡◌, ap₂, ◌∙◌}
use mathlib.Core.Bool.{Bool, true, ◌&&◌, not}
use Rattle.listing.specs.Reading.{with_chunk}
use Rattle.listing.proofs.reading.with_chunk.Goals.{then-at-lt-CHUNKS, else-at-lt-CHUNKS}
use Rattle.listing.proofs.reading.with_chunk.Goals as goal

pub returns : goal.returns
unfolding with_chunk
returns c =
    let a = c.args in
    let sound =
    c.both.ensures
    ∙ ap₂ (λ (x y : Bool). x && not y) c.both-rising.ensures c.marks_zero.ensures in
    let ones = c.ones_and.ensures in
    let count : c.if-at-lt-CHUNKS.count ≡ min 1024 (a.at.count + 1) =
    elim c.if-at-lt-CHUNKS.branch [
      | then-at-lt-CHUNKS w ↦
          omega arith
      | else-at-lt-CHUNKS w ↦
          omega arith
    ] in
    λ i. record {
      laid_out = true;
      in_range = true;
      total = a.at.total;
      sound = sound i;
      ones = ones i;
      last = a.head;
      count = count i;
    }
