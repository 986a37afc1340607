-- `pending_slots::clear` clears each column.
use Prim.Native.Nat.{ℕ}
use native.Mathlib.Omega.{arith}
use mathlib.Core.Path.{◌≡◌, ap, ap₂, ◌∙◌}
use mathlib.Core.List.{List}
use lib.ListN.{length, take}
use Rattle.memory.proofs.Fullness.{column-length}
use Rattle.memory.proofs.Replacing.{second-before, third-before, fourth_before, columns-are}
use Rattle.lists.specs.Padding.{pad}
use Rattle.woot.specs.Memory.{column}
use borrow.Author.Rules.{rules}
use Rattle.pending_slots.proofs.clear.Goals as goal

pub slice_bounds-clear-end-2 : goal.slice_bounds-clear-end-2
slice_bounds-clear-end-2 c =
    let size = c.requires.pending_len in
    omega (arith, column-length 512 0 c.args.pending.now (omega (arith, size)))

pub clear-requires : goal.clear-requires
clear-requires c =
    let size = c.requires.pending_len in
    omega (arith, c.requires.w_le_pending_slots, column-length 512 0 c.args.pending.now (omega (arith, size)))

pub returns : goal.returns
returns c =
    let xs = c.args.pending.now in
    let size = c.requires.pending_len in
    let p1 : length c.clear.new.a ≡ 512 = omega (arith, c.clear.auto.a, column-length 512 0 xs (omega (arith, size))) in
    let p2 : length c.clear-2.new.a ≡ 512 = omega (arith, c.clear-2.auto.a, ap length (second-before 512 xs size c.clear.new.a p1), column-length 512 1 xs (omega (arith, size))) in
    let p3 : length c.clear-3.new.a ≡ 512 = omega (arith, c.clear-3.auto.a, ap length (third-before 512 xs size c.clear.new.a p1 c.clear-2.new.a p2), column-length 512 2 xs (omega (arith, size))) in
    let p4 : length c.clear-4.new.a ≡ 512 = omega (arith, c.clear-4.auto.a, ap length (fourth_before 512 xs size c.clear.new.a p1 c.clear-2.new.a p2 c.clear-3.new.a p3), column-length 512 3 xs (omega (arith, size))) in
    let e = columns-are 512 xs size c.clear.new.a p1 c.clear-2.new.a p2 c.clear-3.new.a p3 c.clear-4.new.a p4 in
    record {
      pending_after = e.0 ∙ c.clear.ensures ∙ ap (λ (q : ℕ). pad q 0 (take c.args.w (column 512 0 xs))) (column-length 512 0 xs (omega (arith, size)));
      pending_after_2 = e.1 ∙ c.clear-2.ensures ∙ ap₂ (λ (q : ℕ) (l : List ℕ). pad q 0 (take c.args.w l)) (ap length (second-before 512 xs size c.clear.new.a p1) ∙ column-length 512 1 xs (omega (arith, size))) (second-before 512 xs size c.clear.new.a p1);
      pending_after_3 = e.2 ∙ c.clear-3.ensures ∙ ap₂ (λ (q : ℕ) (l : List ℕ). pad q 0 (take c.args.w l)) (ap length (third-before 512 xs size c.clear.new.a p1 c.clear-2.new.a p2) ∙ column-length 512 2 xs (omega (arith, size))) (third-before 512 xs size c.clear.new.a p1 c.clear-2.new.a p2);
      pending_after_4 = e.3 ∙ c.clear-4.ensures ∙ ap₂ (λ (q : ℕ) (l : List ℕ). pad q 0 (take c.args.w l)) (ap length (fourth_before 512 xs size c.clear.new.a p1 c.clear-2.new.a p2 c.clear-3.new.a p3) ∙ column-length 512 3 xs (omega (arith, size))) (fourth_before 512 xs size c.clear.new.a p1 c.clear-2.new.a p2 c.clear-3.new.a p3);
    }
