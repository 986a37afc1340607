-- `building::seen_later` compares the numbers of each later slot. The loop's invariant: what is asked of all the
-- later ones is asked of those that are left.
use Prim.Native.Nat.{◌+◌, ◌≤◌, ◌<◌}
use native.Mathlib.Omega.{arith}
use mathlib.Core.Path.{◌≡◌, refl, sym, ap, ◌∙◌}
use mathlib.Core.List.{List}
use lib.ListN.{drop, get_or}
use Rattle.lists.specs.Lists.{any}
use Rattle.woot.specs.declared.Toggle.{Toggle}
use Rattle.woot.specs.Operations.{same_toggle}
use Rattle.building.specs.Steps.{Among}
use Rattle.building.proofs.Counting.{none-behind, later-found, later-passed}
use borrow.Author.Rules.{rules}
use Rattle.building.proofs.seen_later.Goals as goal

pub loop-i-init : goal.loop-i-init
loop-i-init c = (omega arith, omega (arith, c.requires.j_lt_m), λ ts t g. refl)

pub returns-then-both : goal.returns-then-both
returns-then-both c ts t g =
    let l = c.loop-i in
    sym (l.invariant.2 ts t g ∙ later-found g c.args.j t c.requires.j_lt_m l.i c.loop-i-test.true c.both.ensures c.if-both.true)

pub loop-i-preserved : goal.loop-i-preserved
loop-i-preserved c =
    let l = c.loop-i in (
      omega (arith, l.invariant.0),
      omega (arith, c.loop-i-test.true),
      λ ts t g.
          l.invariant.2 ts t g
          ∙ later-passed g c.args.j t c.requires.j_lt_m l.i c.loop-i-test.true c.both.ensures c.if-both.false,
    )

pub returns : goal.returns
returns c ts t g =
    let l = c.loop-i in
    sym (l.invariant.2 ts t g ∙ ap (any (same_toggle (get_or ts c.args.j t))) (none-behind g l.i c.loop-i-test.false))
