-- `list_writing::writing::chunk_numbers` meets its contract: the array is written as the definition is.
use mathlib.Core.Path.{refl}
use borrow.Author.Rules.{rules}
use Rattle.chunks.specs.Columns.{chunk_as}
use Rattle.listing.specs.Format.{chunk_numbers}
use Rattle.list_writing.proofs.writing.chunk_numbers.Goals as goal

pub returns : goal.returns
unfolding chunk_numbers chunk_as
returns c = refl
