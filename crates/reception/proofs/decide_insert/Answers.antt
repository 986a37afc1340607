-- `decide_insert` goes by what the insert is to the replica, and then by its place.
use mathlib.Core.Path.{sym, ◌∙◌}
use borrow.Author.Rules.{rules}
use Rattle.well_formed.proofs.Examining.{fits, small, ids_used, previous_used, next_used, examined_tabled}
use Rattle.reception.proofs.Judging.{judged}
use Rattle.reception.proofs.Inserting.{seen-new, placed-decided, same-decided, other-decided}
use Rattle.reception.proofs.decide_insert.Goals.{Start}
use Rattle.reception.proofs.decide_insert.Goals as goal

pub find_place-placement-requires : goal.find_place-placement-requires
find_place-placement-requires c =
    let x = c.requires.examined in
    record {
      n_in_bounds = (fits _ x).ids;
      n_in_bounds_2 = (fits _ x).previous;
      n_in_bounds_3 = (fits _ x).next;
      tabled = examined_tabled _ x;
    }

pub placed-requires : goal.placed-requires
placed-requires c =
    let x = c.requires.examined in
    record {
      w_in_bounds = (fits _ x).own;
      w_in_bounds_2 = (fits _ x).values;
    }

pub returns-in-New : goal.returns-in-New
returns-in-New c =
    let x = c.requires.examined in
    let new = seen-new _ x _ c.requires.insert_value (sym c.seen_by.ensures ∙ c.in-New.is) in
    let place = c.find_place-placement.ensures _ (ids_used _ x) (previous_used _ x) (next_used _ x) (small _ x) in
    rw c.placed.ensures (judged _ _ _ x (placed-decided _ x _ new _ place))

pub returns-in-Same : goal.returns-in-Same
returns-in-Same c =
    let x = c.requires.examined in
    judged _ _ _ x (same-decided _ x _ c.requires.insert_value (sym c.seen_by.ensures ∙ c.in-Same.is))

pub returns-in-Other : goal.returns-in-Other
returns-in-Other c =
    let x = c.requires.examined in
    judged _ _ _ x (other-decided _ x _ c.requires.insert_value (sym c.seen_by.ensures ∙ c.in-Other.is))

pub seen_by-requires : goal.seen_by-requires
seen_by-requires c = record {
  full = c.requires.full;
  examined = c.requires.examined;
  insert_value = c.requires.insert_value;
}
