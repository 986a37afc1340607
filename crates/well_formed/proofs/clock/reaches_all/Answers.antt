-- `clock::reaches_all` meets its contract: the flag says of the first i keys whether each is reached.
use native.Mathlib.Omega.{arith}
use native.Mathlib.Numerals.{add-one}
use mathlib.Core.Path.{◌≡◌, refl, sym, ◌∙◌}
use Rattle.lists.proofs.Indices.{every-prefix}
use Rattle.well_formed.specs.Form.{reaches_key}
use Rattle.well_formed.proofs.clock.reaches_all.Goals as goal

pub loop-i-init : goal.loop-i-init
loop-i-init c = refl

pub loop-i-preserved : goal.loop-i-preserved
loop-i-preserved c =
    let l = c.loop-i in
    rw (l.invariant, c.reaches-kept.ensures, add-one l.i)

pub returns : goal.returns
returns c =
    let a = c.args in
    let l = c.loop-i in
    let all : l.i ≡ a.n = omega arith in
    l.invariant ∙ rw all (sym (every-prefix (reaches_key a.site) a.keys.now 0 a.n (omega arith)))
