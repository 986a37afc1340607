-- `conversion::is_representable` meets its contract, form by form.
use mathlib.Core.Path.{sym}
use Rattle.saved.proofs.Trips.{second-says}
use Rattle.conversion.proofs.is_representable.Goals as goal

pub returns-in-First : goal.returns-in-First
returns-in-First c s t o v ranged = rw c.in-First.is (c.within_first.ensures s t o v ranged)

pub returns-in-Second : goal.returns-in-Second
returns-in-Second c s t o v ranged = rw c.in-Second.is (sym (second-says s))
