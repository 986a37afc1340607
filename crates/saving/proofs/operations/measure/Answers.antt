-- `saving::operations::measure` meets its contract: a file with no rows has these lines alone.
use mathlib.Core.Path.{ap, ◌∙◌}
use Rattle.lines.specs.Room.{room_for}
use Rattle.woot.specs.Memory.{character_slots}
use Rattle.saving.specs.Documents.{operations_among, lines_in}
use Rattle.saving.proofs.Documents.{lines_alone, alone_slots}
use borrow.Author.Rules.{rules}
use Rattle.saving.proofs.operations.measure.Goals as goal

pub measure-requires : goal.measure-requires
measure-requires c =
    record {
      has_slots = alone_slots c.args.numbers.now _ c.args.count c.requires.numbers_len c.requires.count_le_character_slots;
      at_le_size = c.requires.at_le_size;
    }

pub returns : goal.returns
unfolding lines_in operations_among
returns c =
    let a = c.args in
    let xs = a.numbers.now in
    c.measure.ensures ∙ ap (room_for a.size a.at) (lines_alone xs xs _ xs character_slots a.count)
