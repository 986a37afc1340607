-- `saving::site_line::site_numbers_with` meets its contract: the array is written as the definition is.
use mathlib.Core.Path.{refl}
use Rattle.saved.specs.Format.{site_numbers}
use Rattle.saving.proofs.site_line.site_numbers_with.Goals as goal

pub returns : goal.returns
unfolding site_numbers
returns c = refl
