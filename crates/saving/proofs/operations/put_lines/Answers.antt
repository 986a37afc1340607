-- `saving::operations::put_lines` meets its contract: a file with no rows has these lines alone.
use native.Mathlib.Omega.{arith}
use mathlib.Core.Path.{ap, ◌∙◌}
use mathlib.Core.List.{[], ◌∷◌}
use lib.ListN.{length}
use Rattle.output.specs.Output.{placed}
use Rattle.woot.specs.Memory.{character_slots}
use Rattle.saving.specs.Documents.{operations_among, lines_in}
use Rattle.saving.proofs.Documents.{lines_alone, alone_slots}
use borrow.Author.Rules.{rules}
use Rattle.saving.proofs.operations.put_lines.Goals as goal

pub put_lines-requires : goal.put_lines-requires
unfolding lines_in operations_among
put_lines-requires c =
    let xs = c.args.numbers.now in
    record {
      has_slots = alone_slots xs _ c.args.count c.requires.numbers_len c.requires.count_le_character_slots;
      w_in_bounds = omega (arith, c.requires.count_in_bounds, ap length (lines_alone xs xs (0 ∷ []) xs character_slots c.args.count));
    }

pub returns : goal.returns
unfolding lines_in operations_among
returns c =
    let a = c.args in
    let xs = a.numbers.now in
    c.put_lines.ensures
    ∙ ap (placed a.out.now a.at) (lines_alone xs xs _ xs character_slots a.count)
