-- `effects::save_both` meets its contract: the line is measured first, without writing it.
use mathlib.Core.Path.{refl, sym, ◌∙◌}
use Rattle.saved.proofs.Trips.{second-says}
use Rattle.effects.specs.Effects.{quiet, turned}
use Rattle.effects.proofs.Outputs.{leaves_by, line_short, save-refused, both-written}
use borrow.Author.Rules.{rules}
use Rattle.effects.proofs.save_both.Goals as goal

pub write_replica-written-requires : goal.write_replica-written-requires
write_replica-written-requires c =
    let p = c.requires in
    record {
      characters_len = p.characters_len;
      length_le_character_slots = p.length_le_character_slots;
      length_in_bounds = p.length_in_bounds;
      pending_len = p.pending_len;
      waiting_le_pending_slots = p.waiting_le_pending_slots;
      version_value = second-says _;
    }

pub returns-in-None : goal.returns-in-None
unfolding turned quiet
returns-in-None c =
    leaves_by (line_short _ _ _ _ _ (sym c.measure-space.ensures ∙ c.in-None.is)) (c.number_of_refusal.ensures, refl, refl)

pub returns-in-Err : goal.returns-in-Err
unfolding turned quiet
returns-in-Err c =
    let s = c.write_replica-written.ensures in
    let known = sym c.measure-space.ensures ∙ c.in-Some.is in
    let w = save-refused _ _ _ _ _ known (sym s.value ∙ c.in-Err.is) in
    leaves_by w.0 (c.number_of_refusal-in-Err.ensures, s.out_after ∙ w.1, refl)

pub returns-in-Ok : goal.returns-in-Ok
returns-in-Ok c =
    let s = c.write_replica-written.ensures in
    let known = sym c.measure-space.ensures ∙ c.in-Some.is in
    leaves_by (both-written _ _ _ _ _ known (sym s.value ∙ c.in-Ok.is))
    (c.number_of.ensures, s.out_after, c.put_operation.ensures.out_after)
