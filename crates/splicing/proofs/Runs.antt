-- A line between two runs of bytes, measured and put one after another.
use Rattle.std.proofs.Common.{Some, None}
use mathlib.Core.Path.{◌≡◌, refl, sym, ap, ◌∙◌}
use mathlib.Core.List.{List, [], ◌++◌, append_assoc}
use Prim.Native.Nat.{ℕ, ◌+◌, ◌≤◌}
use native.Mathlib.Omega.{arith}
use lib.ListN.{length, length-append}
use Rattle.output.specs.Output.{placed, past}
use Rattle.lines.specs.Room.{Room}
use Rattle.lines.specs.Room.{room_for}
use Rattle.lines.proofs.Rooms.{Run, run_none, run_on}
use Rattle.lines.proofs.Sequences.{room-on, room-short}
use Rattle.splicing.specs.Splicing.{between}

module _ (front line back : List ℕ) where
  -- measured
  module _ (size at : ℕ) {x : Room} (f : x ≡ room_for size at front) where
    pub front-lacks : x ≡ None → None ≡ room_for size at (between front line back)
    front-lacks q = room-short size at front (line ++ back) f q

    module _ {middle : ℕ} (q : x ≡ Some middle) {y : Room} (l : y ≡ room_for size middle line) where
      pub line_lacks : y ≡ None → None ≡ room_for size at (between front line back)
      line_lacks p = room-short size middle line back l p ∙ room-on size at front (line ++ back) f q

      pub back-ends : {end : ℕ} → y ≡ Some end → room_for size end back ≡ room_for size at (between front line back)
      back-ends p = room-on size middle line back l p ∙ room-on size at front (line ++ back) f q

  -- put
  pub put-between : (out : List ℕ) (at : ℕ) → at + length (between front line back) ≤ length out
      → (middle : ℕ) (out₁ : List ℕ) → (middle ≡ past out at front) × (out₁ ≡ placed out at front)
      → (end : ℕ) (out₂ : List ℕ) → (end ≡ past out₁ middle line) × (out₂ ≡ placed out₁ middle line)
      → {out₃ : List ℕ} → out₃ ≡ placed out₂ end back → out₃ ≡ placed out at (between front line back)
  put-between out at h middle out₁ p end out₂ q r =
      let sum : length (between front line back) ≡ length front + (length line + length back) =
      omega (arith, length-append front (line ++ back), length-append line back) in
      let one = run_on (run_none out at (omega arith)) front (omega (arith, sum)) p.0 p.1 in
      let two = run_on one line (omega (arith, sum, length-append front line)) q.0 q.1 in
      let three : Run out at ((front ++ line) ++ back) _ (past out₂ end back) = run_on two back (omega (arith, sum, length-append (front ++ line) back, length-append front line)) refl r in
      three.bytes ∙ ap (placed out at) (append_assoc front line back)
