-- `codec::read_operation` meets its contract: the part that is read is the first line.
use mathlib.Core.Path.{ap, ◌∙◌}
use Rattle.codec.specs.Calls.{read_line}
use Rattle.codec.proofs.Letters.{by_first}
use Rattle.codec.proofs.read_operation.Goals as goal

pub returns : goal.returns
returns c = c.read_line.ensures ∙ ap read_line c.first_line.ensures ∙ by_first _
