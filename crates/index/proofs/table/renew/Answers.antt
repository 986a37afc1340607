-- `index::table::renew` leaves the table that it is sure of, and makes any other anew.
use native.Mathlib.Omega.{arith}
use lib.Seq.{length-take-le}
use Rattle.index.proofs.Known.{table-known}
use Rattle.index.proofs.table.renew.Goals as goal

pub returns-then-entries-n : goal.returns-then-entries-n
returns-then-entries-n c =
    let t = c.requires.tabled in
    table-known _ _ t.heads t.links t.few t.agree
    (omega (arith, length-take-le c.args.n c.args.keys.now c.requires.n_in_bounds))

pub enter_all-requires : goal.enter_all-requires
enter_all-requires c =
    let t = c.requires.tabled in
    let count = length-take-le c.args.n c.args.keys.now c.requires.n_in_bounds in
    record {
      n_in_bounds = c.requires.n_in_bounds;
      n_le_character_slots = omega (arith, t.few);
      sized = record { heads = t.heads; links = t.links };
    }
