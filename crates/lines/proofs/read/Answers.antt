-- `lines::read` meets its contract: by the first field, and by the numbers after it.
use mathlib.Core.Path.{sym, ap, ◌∙◌}
use mathlib.Core.List.{List}
use Prim.Native.Nat.{ℕ}
use native.Mathlib.Omega.{arith}
use lib.ListN.{take, drop, length-take}
use lib.Seq.{length-take-le}
use Rattle.lines.specs.Fields.{tab, fields}
use Rattle.lines.specs.Answers.{slots, numbers_after}
use Rattle.lines.proofs.Bytes.{found-le}
use Rattle.lines.proofs.Heads.{other-head, same_head}
use Rattle.lines.proofs.read.Goals as goal

pub slice_bounds-same_bytes-end : goal.slice_bounds-same_bytes-end
slice_bounds-same_bytes-end c = sym (length-take-le _ _ (found-le tab c.args.line.now _ c.find-end.ensures))

pub returns-then-not-same_bytes : goal.returns-then-not-same_bytes
returns-then-not-same_bytes c =
    let a = c.args in
    other-head a.head.now (take slots a.limits.now) a.line.now _ c.find-end.ensures (sym c.same_bytes.ensures ∙ c.if-not-same_bytes.true)

pub read_numbers-requires : goal.read_numbers-requires
read_numbers-requires c = rw c.leading.ensures (simp length-take (omega arith))

pub returns : goal.returns
returns c =
    let a = c.args in
    c.read_numbers.ensures ∙ ap (λ (ls : List ℕ). numbers_after ls (fields (drop c.find-end.result a.line.now))) c.leading.ensures
    ∙ same_head a.head.now (take slots a.limits.now) a.line.now _ c.find-end.ensures (sym c.same_bytes.ensures ∙ c.if-not-same_bytes.false)
