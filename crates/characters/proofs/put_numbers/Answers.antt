-- `characters::put_numbers` puts a number into each column, which are parts of the array.
use Prim.Native.Nat.{ℕ}
use native.Mathlib.Omega.{arith}
use mathlib.Core.Path.{◌≡◌, ap, ◌∙◌}
use mathlib.Core.List.{List}
use lib.ListN.{length, take}
use Rattle.memory.proofs.Fullness.{column-length}
use Rattle.memory.proofs.Replacing.{second-before, third-before, fourth_before, columns-are}
use Rattle.slots.specs.Slots.{put_at}
use borrow.Author.Rules.{rules}
use Rattle.characters.proofs.put_numbers.Goals as goal

pub slice_bounds-put-end-2 : goal.slice_bounds-put-end-2
slice_bounds-put-end-2 c =
    let size = c.requires.characters_len in
    omega (arith, column-length 1024 0 c.args.characters.now (omega (arith, size)))

pub put-requires : goal.put-requires
put-requires c =
    let size = c.requires.characters_len in
    record {
      k_le_n = c.requires.k_le_n;
      n_in_bounds = omega (arith, c.requires.n_lt_character_slots, column-length 1024 0 c.args.characters.now (omega (arith, size)));
    }

pub returns : goal.returns
returns c =
    let xs = c.args.characters.now in
    let size = c.requires.characters_len in
    let p1 : length c.put.new.a ≡ 1024 = omega (arith, c.put.auto.a, column-length 1024 0 xs (omega (arith, size))) in
    let p2 : length c.put-2.new.a ≡ 1024 = omega (arith, c.put-2.auto.a, ap length (second-before 1024 xs size c.put.new.a p1), column-length 1024 1 xs (omega (arith, size))) in
    let p3 : length c.put-3.new.a ≡ 1024 = omega (arith, c.put-3.auto.a, ap length (third-before 1024 xs size c.put.new.a p1 c.put-2.new.a p2), column-length 1024 2 xs (omega (arith, size))) in
    let p4 : length c.put-4.new.a ≡ 1024 = omega (arith, c.put-4.auto.a, ap length (fourth_before 1024 xs size c.put.new.a p1 c.put-2.new.a p2 c.put-3.new.a p3), column-length 1024 3 xs (omega (arith, size))) in
    let e = columns-are 1024 xs size c.put.new.a p1 c.put-2.new.a p2 c.put-3.new.a p3 c.put-4.new.a p4 in
    record {
      characters_after = e.0 ∙ c.put.ensures;
      characters_after_2 = e.1 ∙ c.put-2.ensures ∙ ap (put_at c.args.n c.args.k c.args.previous) (second-before 1024 xs size c.put.new.a p1);
      characters_after_3 = e.2 ∙ c.put-3.ensures ∙ ap (put_at c.args.n c.args.k c.args.next) (third-before 1024 xs size c.put.new.a p1 c.put-2.new.a p2);
      characters_after_4 = e.3 ∙ c.put-4.ensures ∙ ap (put_at c.args.n c.args.k c.args.code_point) (fourth_before 1024 xs size c.put.new.a p1 c.put-2.new.a p2 c.put-3.new.a p3);
    }
