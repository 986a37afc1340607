-- `visible::count` meets its contract: the library counts the toggles of the visible characters.
use Rattle.std.proofs.Common.{rules}
use Rattle.visible.proofs.Shown.{shown-counted}
use Rattle.visible.proofs.count.Goals as goal

pub returns : goal.returns
returns c = search (rules, shown-counted)
