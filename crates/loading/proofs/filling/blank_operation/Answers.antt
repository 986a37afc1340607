-- `loading::filling::blank_operation` is written as its definition is.
use Rattle.std.proofs.Common.{refl}
use Rattle.woot.specs.State.{blank_operation}
use Rattle.loading.proofs.filling.blank_operation.Goals as goal

pub returns : goal.returns
unfolding blank_operation
returns c = refl
