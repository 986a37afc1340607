-- `effects::counting::count_in` meets its contract: the form decides first.
use Rattle.std.proofs.Common.{arith, sym, ap, ◌∙◌}
use Rattle.lists.proofs.Tests.{failed, passed}
use Rattle.memory.specs.Lent.{viewed}
use Rattle.memory.proofs.Fullness.{full-view}
use Rattle.memory.proofs.Views.{form_view}
use Rattle.well_formed.specs.Examined.{Examined}
use Rattle.well_formed.proofs.Examining.{examined, few}
use Rattle.replica.proofs.Writing.{written-toggles}
use Rattle.effects.specs.Results.{number_of}
use Rattle.effects.proofs.Totals.{counts_unformed, counts_formed, present-few, counts_told}
use Rattle.effects.proofs.counting.count_in.Goals.{Else-not-is_well_formed}
use Rattle.effects.proofs.counting.count_in.Goals as goal

seen : (c : Else-not-is_well_formed) → Examined (viewed c.args.replica.now)
seen c =
    examined (viewed c.args.replica.now) (full-view c.args.replica.now.document c.requires) (passed c.is_well_formed.ensures c.if-not-is_well_formed.false-raw)

pub returns-then-not-is_well_formed : goal.returns-then-not-is_well_formed
returns-then-not-is_well_formed c =
    let r = c.args.replica.now in
    c.number_of_refusal.ensures ∙ ap number_of (sym (counts_unformed r (failed (c.is_well_formed.ensures ∙ sym (form_view r)) c.if-not-is_well_formed.true-raw)))

pub counts_of-requires : goal.counts_of-requires
counts_of-requires c =
    let x = seen (goal.at.counts_of-requires c).Else-not-is_well_formed in
    let w = few _ x in
    record {
      n_in_bounds = omega (arith, c.requires.toggles, w.characters);
      w_in_bounds = omega (arith, c.requires.pending, w.pending);
      own_bound = present-few c.args.replica.now x;
    }

pub returns : goal.returns
returns c =
    let r = c.args.replica.now in
    let x = seen (goal.at.returns c).Else-not-is_well_formed in
    c.counts_of.ensures _ (written-toggles r x)
    ∙ ap number_of (counts_told r x)
    ∙ ap number_of (sym (counts_formed r (passed (c.is_well_formed.ensures ∙ sym (form_view r)) c.if-not-is_well_formed.false-raw)))
