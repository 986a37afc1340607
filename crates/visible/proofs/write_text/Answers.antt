-- `visible::write_text` meets its contract: the text's length decides, and a text that has no room is not placed.
use Prim.Native.Nat.{ℕ}
use mathlib.Core.Path.{◌≡◌}
use lib.ListN.{take}
use mathlib.Core.List.{List}
use Rattle.visible.proofs.Shown.{text-columns}
use Rattle.woot.specs.declared.Character.{Character}
use Rattle.woot.specs.Memory.{code_points_of, toggle_counts}
use Rattle.woot.specs.Text.{text}
use Rattle.convergence.proofs.Writing.{ends-short, ends-written}
use Rattle.visible.specs.Shown.{text_of}
use native.Mathlib.Omega.{arith}
use Rattle.visible.proofs.write_text.Goals as goal

-- the text is that of the columns
whole : (cs : List Character) (ps ts : List ℕ) → code_points_of cs ≡ ps → toggle_counts cs ≡ ts → text_of ps ts ≡ text cs
whole cs ps ts p t = rw (← p, ← t) (text-columns cs)

pub returns-then-out-bytes : goal.returns-then-out-bytes
returns-then-out-bytes c =
    let a = c.args in
    let bytes = text_of (take a.n a.code_points.now) (take a.n a.toggles.now) in
    let short = ends-short bytes a.out.now (omega (arith, c.text_length-bytes.ensures)) in
    record {
      value = λ cs p t. rw (← whole cs _ _ p t) short.0;
      out_after = λ cs p t. rw (← whole cs _ _ p t) short.1;
    }

pub put_text-requires : goal.put_text-requires
put_text-requires c =
    record {
      n_in_bounds = c.requires.n_in_bounds;
      n_in_bounds_2 = c.requires.n_in_bounds_2;
      toggles_in_bounds = omega (arith, c.text_length-bytes.ensures);
    }

pub returns : goal.returns
returns c =
    let a = c.args in
    let bytes = text_of (take a.n a.code_points.now) (take a.n a.toggles.now) in
    let e = c.text_length-bytes.ensures in
    let ends = ends-written bytes a.out.now _ _ e c.put_text.ensures (omega (arith, e)) in
    record {
      value = λ cs p t. rw (← whole cs _ _ p t) ends.0;
      out_after = λ cs p t. rw (← whole cs _ _ p t) ends.1;
    }
