-- `heap::insert_at` reads the slot of each column.
use mathlib.Core.Path.{◌∙◌}
use Rattle.heap.proofs.Inserts.{slotted, slotted_low}
use borrow.Author.Rules.{rules}
use Rattle.heap.proofs.insert_at.Goals as goal

pub insert-requires : goal.insert-requires
insert-requires c =
    let b = slotted_low c.args.inserts.now c.args.i c.requires.i_lt_character_slots c.requires.i_value in
    record {
      id_bound = b.own;
      previous_bound = b.first;
      next_bound = b.second;
    }

pub returns : goal.returns
returns c = c.insert.ensures ∙ slotted c.args.inserts.now c.args.i c.requires.i_lt_character_slots
