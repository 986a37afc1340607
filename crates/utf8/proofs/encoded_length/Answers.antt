-- `utf8::encoded_length` meets its contract: each arm is a range of the table, and the last is what is above them.
use mathlib.Core.Path.{sym}
use native.Mathlib.Omega.{arith}
use Rattle.utf8.proofs.Ranges.{length-by_ranges}
use Rattle.utf8.proofs.encoded_length.Goals as goal

pub returns-in-0-to-127 : goal.returns-in-0-to-127
returns-in-0-to-127 c = sym (length-by_ranges.one _ (omega arith))

pub returns-in-128-to-2047 : goal.returns-in-128-to-2047
returns-in-128-to-2047 c = sym (length-by_ranges.two _ (omega arith) (omega arith))

pub returns-in-2048-to-65535 : goal.returns-in-2048-to-65535
returns-in-2048-to-65535 c = sym (length-by_ranges.three _ (omega arith) (omega arith))

pub returns-in-65536-to-1114111 : goal.returns-in-65536-to-1114111
returns-in-65536-to-1114111 c = sym (length-by_ranges.four _ (omega arith) (omega arith))

pub returns-in_default : goal.returns-in_default
returns-in_default c = sym (length-by_ranges.beyond _ (omega arith))
