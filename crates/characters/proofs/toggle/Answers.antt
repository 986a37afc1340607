-- `characters::toggle` stores the larger of the count there and the one given.
use mathlib.Core.Path.{ap}
use lib.ListN.{set}
use borrow.Author.Rules.{rules}
use Rattle.characters.proofs.toggle.Goals as goal

pub returns : goal.returns
returns c = ap (set c.args.toggles.now c.args.k) c.larger.ensures
