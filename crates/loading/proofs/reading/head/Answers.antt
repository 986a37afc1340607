-- `loading::reading::head` is the first of the lines.
use mathlib.Core.Path.{◌∙◌}
use Rattle.lines.proofs.Lines.{head-line}
use Rattle.loading.proofs.reading.head.Goals as goal

pub returns : goal.returns
returns c = c.first_line.ensures ∙ head-line _
