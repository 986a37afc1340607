-- `characters::clear_columns` clears each column, which are parts of the array.
use Prim.Native.Nat.{ℕ}
use native.Mathlib.Omega.{arith}
use mathlib.Core.Path.{◌≡◌, ap, ap₂, ◌∙◌}
use mathlib.Core.List.{List}
use lib.ListN.{length, take}
use Rattle.memory.proofs.Fullness.{column-length}
use Rattle.memory.proofs.Replacing.{second-before, third-before, fourth_before, columns-are}
use Rattle.lists.specs.Padding.{pad}
use Rattle.woot.specs.Memory.{column}
use borrow.Author.Rules.{rules}
use Rattle.characters.proofs.clear_columns.Goals as goal

pub slice_bounds-clear-end-2 : goal.slice_bounds-clear-end-2
slice_bounds-clear-end-2 c =
    let size = c.requires.characters_len in
    omega (arith, column-length 1024 0 c.args.characters.now (omega (arith, size)))

pub clear-requires : goal.clear-requires
clear-requires c =
    let size = c.requires.characters_len in
    omega (arith, c.requires.n_le_character_slots, column-length 1024 0 c.args.characters.now (omega (arith, size)))

pub returns : goal.returns
returns c =
    let xs = c.args.characters.now in
    let size = c.requires.characters_len in
    let p1 : length c.clear.new.a ≡ 1024 = omega (arith, c.clear.auto.a, column-length 1024 0 xs (omega (arith, size))) in
    let p2 : length c.clear-2.new.a ≡ 1024 = omega (arith, c.clear-2.auto.a, ap length (second-before 1024 xs size c.clear.new.a p1), column-length 1024 1 xs (omega (arith, size))) in
    let p3 : length c.clear-3.new.a ≡ 1024 = omega (arith, c.clear-3.auto.a, ap length (third-before 1024 xs size c.clear.new.a p1 c.clear-2.new.a p2), column-length 1024 2 xs (omega (arith, size))) in
    let p4 : length c.clear-4.new.a ≡ 1024 = omega (arith, c.clear-4.auto.a, ap length (fourth_before 1024 xs size c.clear.new.a p1 c.clear-2.new.a p2 c.clear-3.new.a p3), column-length 1024 3 xs (omega (arith, size))) in
    let e = columns-are 1024 xs size c.clear.new.a p1 c.clear-2.new.a p2 c.clear-3.new.a p3 c.clear-4.new.a p4 in
    record {
      characters_after = e.0 ∙ c.clear.ensures ∙ ap (λ (w : ℕ). pad w 0 (take c.args.n (column 1024 0 xs))) (column-length 1024 0 xs (omega (arith, size)));
      characters_after_2 = e.1 ∙ c.clear-2.ensures ∙ ap₂ (λ (w : ℕ) (l : List ℕ). pad w 0 (take c.args.n l)) (ap length (second-before 1024 xs size c.clear.new.a p1) ∙ column-length 1024 1 xs (omega (arith, size))) (second-before 1024 xs size c.clear.new.a p1);
      characters_after_3 = e.2 ∙ c.clear-3.ensures ∙ ap₂ (λ (w : ℕ) (l : List ℕ). pad w 0 (take c.args.n l)) (ap length (third-before 1024 xs size c.clear.new.a p1 c.clear-2.new.a p2) ∙ column-length 1024 2 xs (omega (arith, size))) (third-before 1024 xs size c.clear.new.a p1 c.clear-2.new.a p2);
      characters_after_4 = e.3 ∙ c.clear-4.ensures ∙ ap₂ (λ (w : ℕ) (l : List ℕ). pad w 0 (take c.args.n l)) (ap length (fourth_before 1024 xs size c.clear.new.a p1 c.clear-2.new.a p2 c.clear-3.new.a p3) ∙ column-length 1024 3 xs (omega (arith, size))) (fourth_before 1024 xs size c.clear.new.a p1 c.clear-2.new.a p2 c.clear-3.new.a p3);
    }
