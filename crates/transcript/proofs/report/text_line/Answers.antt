-- `transcript::report::text_line` meets its contract: the columns of its arrays hold the replica's characters.
use mathlib.Core.Path.{◌≡◌, sym, ◌∙◌}
use native.Mathlib.Omega.{arith}
use Rattle.woot.specs.Memory.{meaning, characters_in}
use Rattle.memory.specs.Columns as columns
use Rattle.memory.specs.Lent.{viewed}
use Rattle.memory.proofs.Fullness.{full-replica, full-view}
use Rattle.memory.proofs.Views.{form_view}
use Rattle.well_formed.proofs.Examining.{examined, few}
use Rattle.replica.proofs.Writing.{written-points, written-toggles}
use borrow.Author.Rules.{rules}
use Rattle.transcript.proofs.report.text_line.Goals as goal

pub put_text-requires : goal.put_text-requires
put_text-requires c =
    let r = c.args.replica in
    let full = full-replica {r = r} c.well_formed.0 in
    let x = examined (viewed r) (full-view r.document full) (sym (form_view r) ∙ c.requires) in
    record {
      n_le_character_slots = (few (viewed r) x).characters;
      characters_len = full.characters;
      n_in_bounds = omega (arith, full.toggles, (few (viewed r) x).characters);
    }

pub returns : goal.returns
unfolding meaning characters_in columns.meaning columns.characters_in
returns c =
    let r = c.args.replica in
    let full = full-replica {r = r} c.well_formed.0 in
    let x = examined (viewed r) (full-view r.document full) (sym (form_view r) ∙ c.requires) in
    let w = c.put_text.ensures in
    record {
      value = w.value _ (written-points r x) (written-toggles r x);
      out_after = w.out_after _ (written-points r x) (written-toggles r x);
    }
