-- `saving::numbered::row` meets its contract, kind by kind.
use Rattle.saved.specs.Rows.{row_line}
use borrow.Author.Rules.{rules}
use Rattle.saving.proofs.numbered.row.Goals as goal

pub returns-in-Saved : goal.returns-in-Saved
unfolding row_line
returns-in-Saved c =
    record {
      result_value = rw c.in-Saved.is c.character.ensures.result_value;
      count_bound = c.character.ensures.count_bound;
    }

pub returns-in-Archived : goal.returns-in-Archived
unfolding row_line
returns-in-Archived c =
    record {
      result_value = rw c.in-Archived.is c.placed.ensures.result_value;
      count_bound = c.placed.ensures.count_bound;
    }
