-- `visible::left` meets its contract: past the begin mark the visible characters are counted from 0.
use mathlib.Core.Path.{sym, ◌∙◌}
use Rattle.visible.proofs.Shown.{left_key}
use Rattle.woot.specs.Calls.{visibles}
use Rattle.index.proofs.Keys.{key-begin}
use Rattle.visible.proofs.left.Goals as goal

pub returns-then-point-eq0 : goal.returns-then-point-eq0
returns-then-point-eq0 c cs e f = rw c.if-point-eq0.true (sym key-begin)

pub returns : goal.returns
returns c cs e f = c.key_of.ensures cs e f ∙ left_key (visibles cs) c.args.point c.if-point-eq0.false
