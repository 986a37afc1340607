-- `loading::read_lines` meets its contract: one slot for where the rows begin is as good as none.
use mathlib.Core.Path.{sym}
use Rattle.lists.proofs.Padding.{pad-none}
use Rattle.loading.proofs.read_lines.Goals as goal

pub read_lines_at-requires : goal.read_lines_at-requires
read_lines_at-requires c =
    let z = c.requires in
    record {
      starts_value = sym (pad-none 1 0);
      places_value = z.places_value;
      characters_value = z.characters_value;
      toggles_value = z.toggles_value;
      pending_value = z.pending_value;
    }

pub returns : goal.returns
returns c =
    let i = c.read_lines_at.ensures in
    record {
      answer_value = i.answer_value;
      places_len_unchanged = i.places_len_unchanged;
      characters_len = i.characters_len;
      toggles_len = i.toggles_len;
      pending_len = i.pending_len;
      held = i.held;
    }
