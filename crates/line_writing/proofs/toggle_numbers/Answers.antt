-- `line_writing::toggle_numbers` meets its contract: the array is written as the definition is.
use mathlib.Core.Path.{refl}
use borrow.Author.Rules.{rules}
use Rattle.codec.specs.Operations.{toggle_numbers}
use Rattle.line_writing.proofs.toggle_numbers.Goals as goal

pub returns : goal.returns
unfolding toggle_numbers
returns c = refl
