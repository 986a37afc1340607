-- `woot::Character::is_visible` meets its contract: the field is what the definition asks for.
use mathlib.Core.Path.{refl}
use Rattle.woot.specs.Operations.{is_visible}
use Rattle.woot.proofs.Character.is_visible.Goals as goal

pub returns : goal.returns
unfolding is_visible
returns c = refl
