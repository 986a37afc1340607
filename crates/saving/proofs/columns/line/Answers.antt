-- `saving::columns::line` meets its contract: the pending operations come after the rows.
use mathlib.Core.Path.{◌∙◌}
use Rattle.saving.proofs.Documents.{row-line, operation-line}
use borrow.Author.Rules.{rules}
use Rattle.saving.proofs.columns.line.Goals as goal

pub returns-then-at-n : goal.returns-then-at-n
returns-then-at-n c =
    let a = c.args in
    let r = c.row.ensures in
    record {
      result_value = r.result_value ∙ row-line a.rows a.places.now a.characters.now a.toggles.now a.n a.pending.now a.slots a.w a.at
          c.if-at-n.true c.requires.has_slots.characters-hold;
      count_bound = r.count_bound;
    }

pub returns : goal.returns
returns c =
    let a = c.args in
    let r = c.operation.ensures in
    record {
      result_value = r.result_value ∙ rw c.version.ensures
          (operation-line a.rows a.places.now a.characters.now a.toggles.now a.n a.pending.now a.slots a.w a.at
          c.if-at-n.false c.requires.at_bound c.requires.has_slots.pending-hold);
      count_bound = r.count_bound;
    }
