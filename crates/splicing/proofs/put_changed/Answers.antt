-- `splicing::put_changed` meets its contract, change by change.
use mathlib.Core.Path.{refl}
use Rattle.saved.proofs.Trips.{second-says}
use native.Mathlib.Omega.{arith}
use borrow.Author.Rules.{rules}
use Rattle.splicing.specs.Splicing.{Copied}
use Rattle.splicing.proofs.put_changed.Goals as goal

pub put_replica-requires : goal.put_replica-requires
put_replica-requires c =
    let p = c.requires in
    record {
      characters_len = p.characters_len;
      n_le_character_slots = p.n_le_character_slots;
      n_in_bounds = p.n_in_bounds;
      pending_len = p.pending_len;
      w_le_pending_slots = p.w_le_pending_slots;
      w_value = second-says _;
    }

pub put_row-requires : goal.put_row-requires
unfolding Copied
put_row-requires c =
    let p = c.requires in
    record {
      characters_len = p.characters_len;
      n_le_character_slots = p.n_le_character_slots;
      n_in_bounds = p.n_in_bounds;
      pending_len = p.pending_len;
      w_le_pending_slots = p.w_le_pending_slots;
      skip_bound = omega arith;
      spliced = rw c.in-Inserted.is at p.copied;
    }

pub put_row-requires-in-Altered : goal.put_row-requires-in-Altered
unfolding Copied
put_row-requires-in-Altered c =
    let p = c.requires in
    record {
      characters_len = p.characters_len;
      n_le_character_slots = p.n_le_character_slots;
      n_in_bounds = p.n_in_bounds;
      pending_len = p.pending_len;
      w_le_pending_slots = p.w_le_pending_slots;
      skip_bound = omega arith;
      spliced = rw c.in-Altered.is at p.copied;
    }

pub returns-in-Any : goal.returns-in-Any
returns-in-Any c =
    record {
      value = c.put_replica.ensures.value;
      out_after = c.put_replica.ensures.out_after;
    }

pub returns-in-Inserted : goal.returns-in-Inserted
returns-in-Inserted c =
    record {
      value = c.put_row.ensures.value;
      out_after = c.put_row.ensures.out_after;
    }

pub returns-in-Altered : goal.returns-in-Altered
returns-in-Altered c =
    record {
      value = c.put_row-in-Altered.ensures.value;
      out_after = c.put_row-in-Altered.ensures.out_after;
    }
