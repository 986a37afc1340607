-- `serving::sheets::save_admitted_in` meets its contract: what is refused is told, and what was admitted is in form and
-- saved.
use Rattle.std.proofs.Common.{refl}
use Rattle.lists.proofs.Tests.{failed, passed}
use Rattle.effects.specs.Results.{silent}
use Rattle.effects.specs.Effects.{quiet, writing}
use Rattle.effects.proofs.Outputs.{leaves_by}
use Rattle.effects.proofs.Saving.{storable}
use Rattle.c_calls.proofs.Loaded.{use_savable, use_refused, use_saved}
use Rattle.serving.proofs.sheets.save_admitted_in.Goals as goal

pub returns-then-not-is_change : goal.returns-then-not-is_change
unfolding silent quiet
returns-then-not-is_change c =
    let e = failed c.is_change.ensures c.if-not-is_change.true-raw in
    leaves_by (use_refused c.args.replica.now c.judge-answer.ensures _ e) (c.number_of.ensures, refl, refl)

pub save_noted-requires : goal.save_noted-requires
save_noted-requires c =
    let r = c.args.replica.now in
    let e = passed c.is_change.ensures c.if-not-is_change.false-raw in
    let w = storable r c.requires (use_savable r c.judge-answer.ensures e) in
    record {
      characters_len = w.0;
      length_le_character_slots = w.1.0;
      length_in_bounds = w.1.1.0;
      pending_len = w.1.1.1.0;
      waiting_le_pending_slots = w.1.1.1.1;
    }

pub returns : goal.returns
unfolding writing
returns c =
    let e = passed c.is_change.ensures c.if-not-is_change.false-raw in
    leaves_by (use_saved c.args.replica.now c.judge-answer.ensures _ e) c.save_noted.ensures
