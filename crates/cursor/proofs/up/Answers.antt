-- `cursor::up` meets its contract: a shift that is not below zero is its own number of steps.
use Rattle.cursor.proofs.Signed.{up_fits, up_is}
use Rattle.cursor.proofs.up.Goals as goal

pub overflow_cast-result : goal.overflow_cast-result
overflow_cast-result c = up_fits _ c.ranges.shift c.requires

pub returns : goal.returns
returns c = up_is _ c.ranges.shift c.requires
