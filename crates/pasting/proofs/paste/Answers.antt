-- `pasting::paste` has an array of its own for what is typed.
use mathlib.Core.Path.{refl}
use Rattle.lists.specs.Padding.{pad}
use Rattle.woot.specs.Memory.{in_columns}
use Rattle.typing.specs.Columns.{typed_columns}
use borrow.Author.Rules.{rules}
use Rattle.pasting.proofs.paste.Goals as goal

pub paste_into-pasted-requires : goal.paste_into-pasted-requires
unfolding typed_columns in_columns pad
paste_into-pasted-requires c = refl

pub returns : goal.returns
returns c = c.paste_into-pasted.ensures
