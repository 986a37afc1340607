-- `line_writing::insert_numbers` meets its contract: the array is written as the definition is.
use mathlib.Core.Path.{refl}
use borrow.Author.Rules.{rules}
use Rattle.codec.specs.Operations.{insert_numbers}
use Rattle.line_writing.proofs.insert_numbers.Goals as goal

pub returns : goal.returns
unfolding insert_numbers
returns c = refl
