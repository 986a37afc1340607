-- `loading::filling::read_rows` meets its contract: one slot for where the rows begin is as good as none.
use mathlib.Core.Path.{sym}
use Rattle.lists.proofs.Padding.{pad-none}
use Rattle.loading.proofs.filling.read_rows.Goals as goal

pub read_rows_at-requires : goal.read_rows_at-requires
read_rows_at-requires c =
    let z = c.requires in
    record {
      starts_value = sym (pad-none 1 0);
      places_value = z.places_value;
      characters_value = z.characters_value;
      toggles_value = z.toggles_value;
    }

pub returns : goal.returns
returns c =
    let i = c.read_rows_at.ensures in
    record {
      value = i.front_value;
      places_after = i.places_after;
      characters_after = i.characters_after;
      toggles_after = i.toggles_after;
    }
