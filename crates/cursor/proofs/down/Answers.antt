-- `cursor::down` meets its contract: what is left from -1 down is not below zero, and fits.
use Rattle.cursor.proofs.Signed.{down_fits, down-cast, down_is}
use Rattle.cursor.proofs.down.Goals as goal

pub overflow_sub-result : goal.overflow_sub-result
overflow_sub-result c = down_fits _ c.ranges.shift c.requires

pub overflow_cast-result : goal.overflow_cast-result
overflow_cast-result c = down-cast _ c.ranges.shift c.requires

pub returns : goal.returns
returns c = down_is _ c.ranges.shift c.requires
