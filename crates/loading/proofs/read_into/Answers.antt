-- `loading::read_into` meets its contract: one slot for where the rows begin is as good as none.
use Rattle.std.proofs.Common.{sym}
use Rattle.lists.proofs.Padding.{pad-none}
use Rattle.loading.proofs.read_into.Goals as goal

pub read_into_at-read-requires : goal.read_into_at-read-requires
read_into_at-read-requires c =
    let b = c.requires in
    record {
      starts_value = sym (pad-none 1 0);
      characters_value = b.characters;
      toggles_value = b.toggles;
      pending_value = b.pending;
      sized = record { heads = b.heads; links = b.links };
    }

pub returns : goal.returns
returns c =
    let i = c.read_into_at-read.ensures in
    record {
      answer_value = i.answer_value;
      full_after =
          record {
            characters = i.characters_len;
            toggles = i.toggles_len;
            pending = i.pending_len;
            heads = i.sized_after.heads;
            links = i.sized_after.links;
          };
      replica_after = i.replica_after;
    }
