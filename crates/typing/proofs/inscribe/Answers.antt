-- `typing::inscribe` stores the four numbers of the insert, one in each column.
use Prim.Native.Nat.{ℕ}
use native.Mathlib.Omega.{arith}
use mathlib.Core.Path.{◌≡◌, ap, ap₂, ◌∙◌}
use mathlib.Core.List.{List, ◌++◌}
use borrow.Rule.Slice.PartMut.{put_mid}
use lib.ListN.{length, take, drop, set, length-append}
use Rattle.memory.proofs.Fullness.{column-length}
use Rattle.memory.proofs.Replacing.{second-before, third-before, fourth_before, all_replaced, columns-are}
use Rattle.woot.specs.Memory.{column}
use borrow.Author.Rules.{rules}
use Rattle.typing.proofs.inscribe.Goals.{After-set-3}
use Rattle.typing.proofs.inscribe.Goals as goal

-- what each of the first three stores leaves of its part, and what the last part holds before its store
module _ (c : After-set-3) where
  abbrev xs : List ℕ
  xs = c.args.typed.now

  size : length xs ≡ 4096
  size = c.requires.typed_len

  wide_1 : length c.set.new.a ≡ 1024
  wide_1 = omega (arith, c.set.auto.a, column-length 1024 0 xs (omega (arith, size)))

  wide_2 : length c.set-2.new.a ≡ 1024
  wide_2 =
      let part = second-before 1024 xs size c.set.new.a wide_1 in
      omega (arith, c.set-2.auto.a, ap length part, column-length 1024 1 xs (omega (arith, size)))

  wide_3 : length c.set-3.new.a ≡ 1024
  wide_3 =
      let part = third-before 1024 xs size c.set.new.a wide_1 c.set-2.new.a wide_2 in
      omega (arith, c.set-3.auto.a, ap length part, column-length 1024 2 xs (omega (arith, size)))

  abbrev last-part : List ℕ
  last-part =
      let once = c.set.new.a ++ drop 1024 xs in
      take 1024 (drop 3072 (put_mid 2048 1024 (put_mid 1024 1024 once c.set-2.new.a) c.set-3.new.a))

  last-is : last-part ≡ column 1024 3 xs
  last-is = fourth_before 1024 xs size c.set.new.a wide_1 c.set-2.new.a wide_2 c.set-3.new.a wide_3

  last_wide : length last-part ≡ 1024
  last_wide = ap length last-is ∙ column-length 1024 3 xs (omega (arith, size))

pub slice_bounds-set-end-2 : goal.slice_bounds-set-end-2
slice_bounds-set-end-2 c =
    omega (arith, column-length 1024 0 c.args.typed.now (omega (arith, c.requires.typed_len)))

pub set-requires : goal.set-requires
set-requires c =
    omega (
      arith,
      c.requires.i_lt_character_slots,
      column-length 1024 0 c.args.typed.now (omega (arith, c.requires.typed_len)),
    )

pub set-requires-4 : goal.set-requires-4
set-requires-4 c =
    omega (arith, c.requires.i_lt_character_slots, last_wide (goal.at.set-requires-4 c).After-set-3)

pub shape_of-typed : goal.shape_of-typed
shape_of-typed c =
    let d = (goal.at.shape_of-typed c).After-set-3 in
    let vs = c.set.new.a in
    let bs = c.set-2.new.a in
    let cs = c.set-3.new.a in
    let ds = c.set-4.new.a in
    let whole = ap (λ (l : List ℕ). length l) (all_replaced 1024 c.args.typed.now (size d) vs (wide_1 d) bs (wide_2 d) cs (wide_3 d) ds) in
    omega (
      arith,
      whole,
      size d,
      wide_1 d,
      wide_2 d,
      wide_3 d,
      c.set-4.auto.a,
      last_wide d,
      length-append vs (bs ++ (cs ++ ds)),
      length-append bs (cs ++ ds),
      length-append cs ds,
    )

pub returns : goal.returns
returns c =
    let d = (goal.at.returns c).After-set-3 in
    let xs = c.args.typed.now in
    let vs = c.set.new.a in
    let bs = c.set-2.new.a in
    let cs = c.set-3.new.a in
    let ds = c.set-4.new.a in
    let wide_4 : length ds ≡ 1024 = omega (arith, c.set-4.auto.a, last_wide d) in
    let e = columns-are 1024 xs (size d) vs (wide_1 d) bs (wide_2 d) cs (wide_3 d) ds wide_4 in
    record {
      ids = e.0 ∙ c.set.ensures ∙ ap (λ (x : ℕ). set (column 1024 0 xs) c.args.i x) c.key.ensures.value;
      previous =
          e.1 ∙ c.set-2.ensures
          ∙ ap₂ (λ (l : List ℕ) (x : ℕ). set l c.args.i x) (second-before 1024 xs (size d) vs (wide_1 d)) c.key-2.ensures.value;
      next =
          e.2 ∙ c.set-3.ensures
          ∙ ap₂ (λ (l : List ℕ) (x : ℕ). set l c.args.i x) (third-before 1024 xs (size d) vs (wide_1 d) bs (wide_2 d)) c.key-3.ensures.value;
      points =
          e.3 ∙ c.set-4.ensures
          ∙ ap (λ (l : List ℕ). set l c.args.i c.args.insert.code_point) (last-is d);
    }
