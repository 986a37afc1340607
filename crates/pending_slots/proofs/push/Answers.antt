-- `pending_slots::push` stores the four numbers of the operation, one in each column.
use Prim.Native.Nat.{ℕ}
use native.Mathlib.Omega.{arith}
use mathlib.Core.Path.{◌≡◌, ap, ap₂, ◌∙◌}
use mathlib.Core.List.{List}
use lib.ListN.{length, set}
use Rattle.memory.proofs.Fullness.{column-length}
use Rattle.memory.proofs.Replacing.{second-before, third-before, fourth_before, columns-are}
use Rattle.woot.specs.Memory.{column}
use borrow.Author.Rules.{rules}
use Rattle.pending_slots.proofs.push.Goals as goal

pub slice_bounds-set-end-2 : goal.slice_bounds-set-end-2
slice_bounds-set-end-2 c =
    let size = c.requires.pending_len in
    omega (arith, column-length 512 0 c.args.pending.now (omega (arith, size)))

pub set-requires : goal.set-requires
set-requires c =
    let size = c.requires.pending_len in
    omega (arith, c.requires.w_lt_pending_slots, column-length 512 0 c.args.pending.now (omega (arith, size)))

pub returns : goal.returns
returns c =
    let xs = c.args.pending.now in
    let size = c.requires.pending_len in
    let p1 : length c.set.new.a ≡ 512 = omega (arith, c.set.auto.a, column-length 512 0 xs (omega (arith, size))) in
    let p2 : length c.set-2.new.a ≡ 512 = omega (arith, c.set-2.auto.a, ap length (second-before 512 xs size c.set.new.a p1), column-length 512 1 xs (omega (arith, size))) in
    let p3 : length c.set-3.new.a ≡ 512 = omega (arith, c.set-3.auto.a, ap length (third-before 512 xs size c.set.new.a p1 c.set-2.new.a p2), column-length 512 2 xs (omega (arith, size))) in
    let p4 : length c.set-4.new.a ≡ 512 = omega (arith, c.set-4.auto.a, ap length (fourth_before 512 xs size c.set.new.a p1 c.set-2.new.a p2 c.set-3.new.a p3), column-length 512 3 xs (omega (arith, size))) in
    let e = columns-are 512 xs size c.set.new.a p1 c.set-2.new.a p2 c.set-3.new.a p3 c.set-4.new.a p4 in
    record {
      pending_after = e.0 ∙ c.set.ensures ∙ ap (λ (x : ℕ). set (column 512 0 xs) c.args.w x) c.own_key.ensures;
      pending_after_2 = e.1 ∙ c.set-2.ensures ∙ ap₂ (λ (l : List ℕ) (x : ℕ). set l c.args.w x) (second-before 512 xs size c.set.new.a p1) c.first_key.ensures;
      pending_after_3 = e.2 ∙ c.set-3.ensures ∙ ap₂ (λ (l : List ℕ) (x : ℕ). set l c.args.w x) (third-before 512 xs size c.set.new.a p1 c.set-2.new.a p2) c.second_key.ensures;
      pending_after_4 = e.3 ∙ c.set-4.ensures ∙ ap₂ (λ (l : List ℕ) (x : ℕ). set l c.args.w x) (fourth_before 512 xs size c.set.new.a p1 c.set-2.new.a p2 c.set-3.new.a p3) c.value_of.ensures;
    }
