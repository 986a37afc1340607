-- `decide` looks at the ranges and at the form before it decides, which goes by the kind of the operation.
use mathlib.Core.Path.{◌≡◌}
use mathlib.Core.Bool.{true}
use Rattle.lists.proofs.Tests.{failed, passed}
use Rattle.woot.specs.Ranges.{in_range}
use Rattle.memory.specs.Columns.{Replica}
use Rattle.memory.specs.Lent.{viewed}
use Rattle.well_formed.specs.Examined.{Examined}
use Rattle.well_formed.proofs.Examining.{lent_examined}
use Rattle.reception.proofs.Judging.{unranged, unformed}
use borrow.Author.Rules.{rules}
use Rattle.reception.proofs.decide.Goals.{Else-not-is_well_formed, Else-not-in_range, Start}
use Rattle.reception.proofs.decide.Goals as goal

-- the replica with the arrays
abbrev made : Start → Replica
made s =
    let a = s.args in
    viewed a.replica.now

ranged : (c : Else-not-in_range) → in_range c.args.operation ≡ true
ranged c = passed c.in_range.ensures c.if-not-in_range.false-raw

examined : (c : Else-not-is_well_formed) → Examined (let a = c.args in
    viewed a.replica.now)
examined c = lent_examined _ _ _ c.requires (passed c.is_well_formed.ensures c.if-not-is_well_formed.false-raw)

pub returns-then-not-in_range : goal.returns-then-not-in_range
returns-then-not-in_range c =
    unranged (made (goal.at.returns-then-not-in_range c).Start) _ (failed c.in_range.ensures c.if-not-in_range.true-raw)

pub returns-then-not-is_well_formed : goal.returns-then-not-is_well_formed
returns-then-not-is_well_formed c =
    let r = made (goal.at.returns-then-not-is_well_formed c).Start in
    unformed r _ (ranged (goal.at.returns-then-not-is_well_formed c).Else-not-in_range) (failed c.is_well_formed.ensures c.if-not-is_well_formed.true-raw)

pub decide_insert-requires : goal.decide_insert-requires
unfolding in_range
decide_insert-requires c =
    record {
      full = c.requires;
      examined = examined (goal.at.decide_insert-requires c).Else-not-is_well_formed;
      insert_value = rw c.in-Insert.is at (ranged (goal.at.decide_insert-requires c).Else-not-in_range);
    }

pub decide_toggle-requires : goal.decide_toggle-requires
unfolding in_range
decide_toggle-requires c =
    record {
      full = c.requires;
      examined = examined (goal.at.decide_toggle-requires c).Else-not-is_well_formed;
      toggle_value = rw c.in-Toggle.is at (ranged (goal.at.decide_toggle-requires c).Else-not-in_range);
    }

pub returns-in-Insert : goal.returns-in-Insert
returns-in-Insert c = rw c.in-Insert.is c.decide_insert.ensures

pub returns-in-Toggle : goal.returns-in-Toggle
returns-in-Toggle c = rw c.in-Toggle.is c.decide_toggle.ensures

pub is_well_formed-requires : goal.is_well_formed-requires
is_well_formed-requires c = c.requires
