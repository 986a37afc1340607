-- `saved_lines::site_of` meets its contract: each number fits its field, since its limit does.
use mathlib.Core.Path.{refl}
use native.Mathlib.Omega.{arith}
use Rattle.lines.proofs.Values.{at_most_at}
use Rattle.saved.specs.Format.{site_limits, site_of}
use Rattle.saved_lines.proofs.site_of.Goals as goal

pub overflow_cast-result : goal.overflow_cast-result
overflow_cast-result c =
    let b = at_most_at site_limits c.args.values c.requires in omega (arith, b 0 (omega arith))

pub overflow_cast-result-2 : goal.overflow_cast-result-2
overflow_cast-result-2 c =
    let b = at_most_at site_limits c.args.values c.requires in omega (arith, b 1 (omega arith))

pub returns : goal.returns
unfolding site_of
returns c = refl
