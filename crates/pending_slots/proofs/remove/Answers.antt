-- `pending_slots::remove` takes a number out of each column.
use Prim.Native.Nat.{ℕ}
use native.Mathlib.Omega.{arith}
use mathlib.Core.Path.{◌≡◌, ap, ◌∙◌}
use mathlib.Core.List.{List}
use lib.ListN.{length, take}
use Rattle.memory.proofs.Fullness.{column-length}
use Rattle.memory.proofs.Replacing.{second-before, third-before, fourth_before, columns-are}
use Rattle.slots.specs.Slots.{taken_at}
use borrow.Author.Rules.{rules}
use Rattle.pending_slots.proofs.remove.Goals as goal

pub slice_bounds-remove-end-2 : goal.slice_bounds-remove-end-2
slice_bounds-remove-end-2 c =
    let size = c.requires.pending_len in
    omega (arith, column-length 512 0 c.args.pending.now (omega (arith, size)))

pub remove-requires : goal.remove-requires
remove-requires c =
    let size = c.requires.pending_len in
    record {
      j_lt_n = c.requires.j_lt_w;
      n_in_bounds = omega (arith, c.requires.w_le_pending_slots, column-length 512 0 c.args.pending.now (omega (arith, size)));
    }

pub returns : goal.returns
returns c =
    let xs = c.args.pending.now in
    let size = c.requires.pending_len in
    let p1 : length c.remove.new.a ≡ 512 = omega (arith, c.remove.auto.a, column-length 512 0 xs (omega (arith, size))) in
    let p2 : length c.remove-2.new.a ≡ 512 = omega (arith, c.remove-2.auto.a, ap length (second-before 512 xs size c.remove.new.a p1), column-length 512 1 xs (omega (arith, size))) in
    let p3 : length c.remove-3.new.a ≡ 512 = omega (arith, c.remove-3.auto.a, ap length (third-before 512 xs size c.remove.new.a p1 c.remove-2.new.a p2), column-length 512 2 xs (omega (arith, size))) in
    let p4 : length c.remove-4.new.a ≡ 512 = omega (arith, c.remove-4.auto.a, ap length (fourth_before 512 xs size c.remove.new.a p1 c.remove-2.new.a p2 c.remove-3.new.a p3), column-length 512 3 xs (omega (arith, size))) in
    let e = columns-are 512 xs size c.remove.new.a p1 c.remove-2.new.a p2 c.remove-3.new.a p3 c.remove-4.new.a p4 in
    record {
      pending_after = e.0 ∙ c.remove.ensures;
      pending_after_2 = e.1 ∙ c.remove-2.ensures ∙ ap (taken_at c.args.w c.args.j 0) (second-before 512 xs size c.remove.new.a p1);
      pending_after_3 = e.2 ∙ c.remove-3.ensures ∙ ap (taken_at c.args.w c.args.j 0) (third-before 512 xs size c.remove.new.a p1 c.remove-2.new.a p2);
      pending_after_4 = e.3 ∙ c.remove-4.ensures ∙ ap (taken_at c.args.w c.args.j 0) (fourth_before 512 xs size c.remove.new.a p1 c.remove-2.new.a p2 c.remove-3.new.a p3);
    }
