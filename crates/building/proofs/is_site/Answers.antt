-- `building::is_site` meets its contract: the range is the definition's.
use Rattle.std.proofs.Common.{sym, arith}
use Rattle.woot.specs.Limits.{last_site}
use Rattle.woot.specs.Ranges.{site_number}
use Rattle.convergence.proofs.Ranges.{to-within}
use Rattle.ranges.proofs.Laws.{within-under, within-above}
use Rattle.building.proofs.is_site.Goals as goal

pub returns-in-1-to-16 : goal.returns-in-1-to-16
unfolding site_number
returns-in-1-to-16 c = sym (to-within 1 last_site c.args.number (omega arith) (omega arith))

pub returns-in_default : goal.returns-in_default
unfolding site_number
returns-in_default c = sym (within-under 1 last_site c.args.number (omega arith))

pub returns-in_default-2 : goal.returns-in_default-2
unfolding site_number
returns-in_default-2 c = sym (within-above 1 last_site c.args.number (omega arith))
