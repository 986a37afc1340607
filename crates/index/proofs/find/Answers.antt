-- `index::find` meets its contract. The loop's invariant: what is found in the whole is found in what is left.
use mathlib.Core.Path.{sym, ◌∙◌}
use native.Mathlib.Omega.{arith}
use borrow.Author.Tests.{eq-eqb, ne_eqb}
use Rattle.index.specs.Keys.{found}
use Rattle.index.proofs.Searches.{first-start, first-here, first-passed, first-none}
use Rattle.index.proofs.find.Goals as goal

pub loop-i-init : goal.loop-i-init
loop-i-init c = first-start _ _

pub returns-then-held-key : goal.returns-then-held-key
unfolding found
returns-then-held-key c =
    let l = c.loop-i in
    sym (l.invariant ∙ first-here _ _ l.i 0 (omega arith) (eq-eqb _ _ (sym c.if-held-key.true)))

pub loop-i-preserved : goal.loop-i-preserved
loop-i-preserved c =
    let l = c.loop-i in
    l.invariant ∙ first-passed _ _ l.i 0 (omega arith) (ne_eqb _ _ (λ e. c.if-held-key.false (sym e)))

pub returns : goal.returns
unfolding found
returns c =
    let l = c.loop-i in
    sym (l.invariant ∙ first-none _ _ l.i (omega arith))
