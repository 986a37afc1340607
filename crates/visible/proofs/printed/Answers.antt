-- `visible::printed` meets its contract: each arm is a range, and what is left lies between them or above.
use mathlib.Core.Path.{sym}
use native.Mathlib.Omega.{arith}
use Rattle.woot.proofs.Text.{printed-low, printed-middle, printed_delete, printed-between, printed-above}
use Rattle.visible.proofs.printed.Goals as goal

pub returns-in_default : goal.returns-in_default
returns-in_default c = sym (printed-between _ (omega arith) (omega arith))

pub returns-in_default-2 : goal.returns-in_default-2
returns-in_default-2 c = sym (printed-above _ (omega arith) (omega arith))

pub returns-in-0-to-8 : goal.returns-in-0-to-8
returns-in-0-to-8 c = sym (printed_delete _ (omega arith))

pub returns-in-0-to-8-2 : goal.returns-in-0-to-8-2
returns-in-0-to-8-2 c = sym (printed-low _ (omega arith))

pub returns-in-0-to-8-3 : goal.returns-in-0-to-8-3
returns-in-0-to-8-3 c = sym (printed-middle _ (omega arith) (omega arith))
