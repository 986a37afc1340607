-- `decide_insert` makes its tests in the order in which the rules make theirs.
use mathlib.Core.Path.{◌≡◌, sym}
use mathlib.Core.Bool.{true, false}
use Rattle.lists.proofs.Tests.{failed, passed}
use Rattle.woot.specs.Ranges.{is_code_point}
use Rattle.woot.specs.Calls.{beyond_visible}
use Rattle.memory.specs.Columns.{Replica, meaning}
use Rattle.memory.specs.Lent.{viewed}
use Rattle.well_formed.specs.Examined.{Examined}
use Rattle.well_formed.proofs.Examining.{lent_examined, fits, small, ids_used, previous_used, next_used, toggles_used, examined_tabled}
use Rattle.generation.proofs.Judging.{unranged_insert, unformed_insert}
use Rattle.generation.proofs.Inserting.{insert_beyond, insert-within, insert_late, left_bits, right_bits, insert_made, sent-decided}
use borrow.Author.Rules.{rules}
use Rattle.generation.proofs.decide_insert.Goals.{Else-count-point, Else-not-is_well_formed, Else-not-code_point, Start}
use Rattle.generation.proofs.decide_insert.Goals as goal

-- the replica with the arrays
abbrev made : Start → Replica
made s =
    let a = s.args in
    viewed a.replica.now

-- the tests that are passed
coded : (c : Else-not-code_point) → is_code_point c.args.code_point ≡ true
coded c = passed c.code_point.ensures c.if-not-code_point.false-raw

examined : (c : Else-not-is_well_formed) → Examined (let a = c.args in
    viewed a.replica.now)
examined c = lent_examined _ _ _ c.requires (passed c.is_well_formed.ensures c.if-not-is_well_formed.false-raw)

seen : (c : Else-count-point) → beyond_visible (meaning (let a = c.args in
    viewed a.replica.now)) c.args.point ≡ false
seen c =
    insert-within _ (lent_examined _ _ _ c.requires (passed c.is_well_formed.ensures c.if-not-is_well_formed.false-raw)) _ _ (passed c.code_point.ensures c.if-not-code_point.false-raw) _ c.count.ensures c.if-count-point.false

pub returns-then-not-code_point : goal.returns-then-not-code_point
returns-then-not-code_point c =
    unranged_insert (made (goal.at.returns-then-not-code_point c).Start) _ _ (failed c.code_point.ensures c.if-not-code_point.true-raw)

pub returns-then-not-is_well_formed : goal.returns-then-not-is_well_formed
returns-then-not-is_well_formed c =
    let r = made (goal.at.returns-then-not-is_well_formed c).Start in
    unformed_insert r _ _ (coded (goal.at.returns-then-not-is_well_formed c).Else-not-code_point) (failed c.is_well_formed.ensures c.if-not-is_well_formed.true-raw)

pub count-requires : goal.count-requires
count-requires c = (fits _ (examined (goal.at.count-requires c).Else-not-is_well_formed)).toggles

pub returns-then-count-point : goal.returns-then-count-point
returns-then-count-point c =
    insert_beyond _ (examined (goal.at.returns-then-count-point c).Else-not-is_well_formed) _ _ (coded (goal.at.returns-then-count-point c).Else-not-code_point) _ c.count.ensures c.if-count-point.true

pub returns-then-replica-ge65535 : goal.returns-then-replica-ge65535
returns-then-replica-ge65535 c =
    insert_late _ (examined (goal.at.returns-then-replica-ge65535 c).Else-not-is_well_formed) _ _ (coded (goal.at.returns-then-replica-ge65535 c).Else-not-code_point) (seen (goal.at.returns-then-replica-ge65535 c).Else-count-point) c.if-replica-ge65535.true

pub left-left-requires : goal.left-left-requires
left-left-requires c =
    let x = examined (goal.at.left-left-requires c).Else-not-is_well_formed in
    record {
      n_in_bounds = (fits _ x).ids;
      n_in_bounds_2 = (fits _ x).toggles;
    }

pub right-right-requires : goal.right-right-requires
right-right-requires c =
    let x = examined (goal.at.right-right-requires c).Else-not-is_well_formed in
    record {
      n_in_bounds = (fits _ x).ids;
      n_in_bounds_2 = (fits _ x).toggles;
    }

pub next_insert-insert-requires : goal.next_insert-insert-requires
next_insert-insert-requires c =
    let x = examined (goal.at.next_insert-insert-requires c).Else-not-is_well_formed in
    let point = coded (goal.at.next_insert-insert-requires c).Else-not-code_point in
    let shown = seen (goal.at.next_insert-insert-requires c).Else-count-point in
    let left = c.left-left.ensures _ (sym (ids_used _ x)) (sym (toggles_used _ x)) in
    let right = c.right-right.ensures _ (sym (ids_used _ x)) (sym (toggles_used _ x)) in
    let low = c.if-replica-ge65535.false in
    record {
      clock_lt_last_clock = low;
      left_bound = left_bits _ x _ _ point shown low _ _ left right;
      right_bound = right_bits _ x _ _ point shown low _ _ left right;
    }

pub find_place-placement-requires : goal.find_place-placement-requires
find_place-placement-requires c =
    let x = examined (goal.at.find_place-placement-requires c).Else-not-is_well_formed in
    record {
      n_in_bounds = (fits _ x).ids;
      n_in_bounds_2 = (fits _ x).previous;
      n_in_bounds_3 = (fits _ x).next;
      tabled = examined_tabled _ x;
    }

pub sent-requires : goal.sent-requires
sent-requires c = (fits _ (examined (goal.at.sent-requires c).Else-not-is_well_formed)).own

pub returns : goal.returns
returns c =
    let x = examined (goal.at.returns c).Else-not-is_well_formed in
    let point = coded (goal.at.returns c).Else-not-code_point in
    let shown = seen (goal.at.returns c).Else-count-point in
    let left = c.left-left.ensures _ (sym (ids_used _ x)) (sym (toggles_used _ x)) in
    let right = c.right-right.ensures _ (sym (ids_used _ x)) (sym (toggles_used _ x)) in
    let low = c.if-replica-ge65535.false in
    let is = insert_made _ x _ _ point shown low _ _ left right _ c.next_insert-insert.ensures in
    let place = c.find_place-placement.ensures _ (ids_used _ x) (previous_used _ x) (next_used _ x) (small _ x) in
    rw c.sent.ensures (sent-decided _ x _ _ point shown low _ is _ place)

pub is_well_formed-requires : goal.is_well_formed-requires
is_well_formed-requires c = c.requires
