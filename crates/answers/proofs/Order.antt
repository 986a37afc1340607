-- The checking order is computed.
use mathlib.Core.Path.{refl}
use Rattle.answers.specs.Order.{RanksTell}

pub ranks_tell : RanksTell
ranks_tell = (refl, refl)
