-- `loading::read_into_at` meets its contract: what the lines say is in the arrays, and the site and the table are made of it.
use mathlib.Core.Path.{sym, subst, ◌∙◌}
use Rattle.chains.specs.Sizes.{Sized}
use Rattle.chains.proofs.Tables.{table_sized}
use Rattle.lists.proofs.Padding.{pad-none}
use Rattle.saved.proofs.Refusals.{never_done}
use Rattle.loading.proofs.Settling.{answer_form, all-raised}
use Rattle.loading.proofs.read_into_at.Goals as goal

pub read_lines_at-lines-requires : goal.read_lines_at-lines-requires
read_lines_at-lines-requires c =
    let z = c.requires in
    record {
      starts_value = z.starts_value;
      places_value = sym (pad-none 1 0);
      characters_value = z.characters_value;
      toggles_value = z.toggles_value;
      pending_value = z.pending_value;
    }

pub returns-in-Err : goal.returns-in-Err
returns-in-Err c =
    let z = c.requires in
    let i = c.read_lines_at-lines.ensures in
    record {
      answer_value = i.answer_value ∙ answer_form _ _;
      characters_len = i.characters_len;
      toggles_len = i.toggles_len;
      pending_len = i.pending_len;
      sized_after = z.sized;
      replica_after = (λ d. absurd (never_done _ (sym d ∙ c.in-Err.is)));
      rows_noted = (λ d. absurd (never_done _ (sym d ∙ c.in-Err.is)));
    }

pub settle-raised-requires : goal.settle-raised-requires
settle-raised-requires c =
    let z = c.requires in
    let i = c.read_lines_at-lines.ensures in
    record {
      characters_len = i.characters_len;
      pending_len = i.pending_len;
      sized = z.sized;
    }

pub returns : goal.returns
returns c =
    let z = c.requires in
    let i = c.read_lines_at-lines.ensures in
    record {
      answer_value = i.answer_value ∙ answer_form _ _;
      characters_len = i.characters_len;
      toggles_len = i.toggles_len;
      pending_len = i.pending_len;
      sized_after = subst Sized (sym c.settle-raised.ensures.table_after) (table_sized _);
      replica_after = (λ d. all-raised c.args.version c.args.bytes.now (sym i.answer_value ∙ d) (i.held d) c.settle-raised.ensures.value c.settle-raised.ensures.table_after);
      rows_noted = i.rows_noted;
    }
