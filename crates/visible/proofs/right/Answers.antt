-- `visible::right` meets its contract: the end mark after the visible characters is what stands where none
-- does.
use mathlib.Core.Path.{◌∙◌}
use Rattle.visible.proofs.Shown.{right_key}
use Rattle.woot.specs.Calls.{visibles}
use Rattle.visible.proofs.right.Goals as goal

pub returns : goal.returns
returns c cs e f = c.key_of.ensures cs e f ∙ right_key (visibles cs) c.args.point
