-- `woot::Replica::empty` is the empty state as it is stored: the arrays are zeros throughout.
use mathlib.Core.Path.{refl}
use Rattle.woot.specs.State.{initial}
use Rattle.woot.specs.Memory.{stored, document_of, in_columns}
use Rattle.woot.specs.Table.{table_of, entered_all, no_table}
use Rattle.lists.specs.Padding.{pad}
use Rattle.woot.proofs.Replica.empty.Goals as goal

pub returns : goal.returns
unfolding stored document_of in_columns initial pad table_of entered_all no_table
returns c = refl
