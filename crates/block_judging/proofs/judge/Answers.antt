-- `block_judging::judge` makes its tests in the order in which the rule makes its own.
use mathlib.Core.Path.{◌≡◌, sym, ◌∙◌}
use mathlib.Core.Bool.{false}
use Rattle.lists.proofs.Tests.{failed, passed}
use Rattle.woot.specs.Calls.{beyond_visible}
use Rattle.memory.specs.Columns.{Replica, meaning}
use Rattle.memory.specs.Lent.{viewed}
use Rattle.well_formed.specs.Examined.{Examined}
use Rattle.well_formed.proofs.Examining.{lent_examined, few, fits}
use Rattle.block_judging.proofs.Judging.{judged_unformed, judged_beyond, seen, judged_late, judged-full, judged-empty, judged-enough}
use Rattle.block_judging.proofs.judge.Goals.{Else-count-point, Else-not-is_well_formed, Start}
use Rattle.block_judging.proofs.judge.Goals as goal

-- the replica as its columns
abbrev given : Start → Replica
given s = viewed s.args.replica.now

-- the tests that are passed
examined : (c : Else-not-is_well_formed) → Examined (viewed c.args.replica.now)
examined c = lent_examined _ _ _ c.requires (passed c.is_well_formed.ensures c.if-not-is_well_formed.false-raw)

shown : (c : Else-count-point) → beyond_visible (meaning (viewed c.args.replica.now)) c.args.point ≡ false
shown c = seen _ _ c.args.count (lent_examined _ _ _ c.requires (passed c.is_well_formed.ensures c.if-not-is_well_formed.false-raw)) c.count.ensures c.if-count-point.false

pub returns-then-not-is_well_formed : goal.returns-then-not-is_well_formed
returns-then-not-is_well_formed c =
    judged_unformed (given (goal.at.returns-then-not-is_well_formed c).Start) _ _ (failed c.is_well_formed.ensures c.if-not-is_well_formed.true-raw)

pub count-requires : goal.count-requires
count-requires c = (fits _ (examined (goal.at.count-requires c).Else-not-is_well_formed)).toggles

pub returns-then-count-point : goal.returns-then-count-point
returns-then-count-point c =
    judged_beyond _ _ _ (examined (goal.at.returns-then-count-point c).Else-not-is_well_formed) c.count.ensures c.if-count-point.true

pub returns-then-clock_short : goal.returns-then-clock_short
returns-then-clock_short c =
    judged_late _ _ _ (examined (goal.at.returns-then-clock_short c).Else-not-is_well_formed) (shown (goal.at.returns-then-clock_short c).Else-count-point) (sym c.clock_short.ensures ∙ c.if-clock_short.true)

pub overfull-requires : goal.overfull-requires
overfull-requires c =
    let x = examined (goal.at.overfull-requires c).Else-not-is_well_formed in
    record {
      n_le_character_slots = (few _ x).characters;
      w_le_pending_slots = (few _ x).pending;
      w_in_bounds = (fits _ x).own;
    }

pub returns-then-overfull : goal.returns-then-overfull
returns-then-overfull c =
    judged-full _ _ _ (examined (goal.at.returns-then-overfull c).Else-not-is_well_formed) (shown (goal.at.returns-then-overfull c).Else-count-point) (sym c.clock_short.ensures ∙ c.if-clock_short.false)
    (sym c.overfull.ensures ∙ c.if-overfull.true)

pub returns-then-count-eq0 : goal.returns-then-count-eq0
returns-then-count-eq0 c =
    judged-empty _ _ _ (examined (goal.at.returns-then-count-eq0 c).Else-not-is_well_formed) (shown (goal.at.returns-then-count-eq0 c).Else-count-point) (sym c.clock_short.ensures ∙ c.if-clock_short.false)
    (sym c.overfull.ensures ∙ c.if-overfull.false) c.if-count-eq0.true

pub returns : goal.returns
returns c =
    judged-enough _ _ _ (examined (goal.at.returns c).Else-not-is_well_formed) (shown (goal.at.returns c).Else-count-point) (sym c.clock_short.ensures ∙ c.if-clock_short.false)
    (sym c.overfull.ensures ∙ c.if-overfull.false) c.if-count-eq0.false
