-- `gathering::keep_toggle` meets its contract: where there is a slot, the toggle is behind the others.
use native.Mathlib.Omega.{arith}
use lib.ListN.{length-set}
use Rattle.heap.proofs.Columns.{toggle_full, toggle_kept}
use borrow.Author.Rules.{rules}
use Rattle.gathering.proofs.keep_toggle.Goals as goal

pub returns-then-n-ge-CHARACTERS : goal.returns-then-n-ge-CHARACTERS
returns-then-n-ge-CHARACTERS c = λ ts a e. toggle_full ts _ _ a e c.if-n-ge-CHARACTERS.true

pub bounds-toggles-n-2 : goal.bounds-toggles-n-2
bounds-toggles-n-2 c =
    let kept = length-set c.args.toggles.now c.args.n c.key.result in
    omega (arith, c.requires, c.if-n-ge-CHARACTERS.false, kept)

pub returns : goal.returns
returns c =
    λ ts a e.
    toggle_kept ts _ _ a e c.if-n-ge-CHARACTERS.false c.key.ensures.value c.stamp.ensures
