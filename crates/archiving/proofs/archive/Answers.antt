-- `archiving::archive` meets its contract: what was read decides, then its form, and then the room.
use mathlib.Core.Path.{refl, sym, ◌∙◌}
use Rattle.lists.proofs.Padding.{pad-none}
use Rattle.lists.proofs.Tests.{failed, passed}
use Rattle.saved.proofs.Archives.{archive_form, archive_writes}
use Rattle.loading.proofs.Settling.{no-characters, no-pending}
use Rattle.archiving.proofs.Reading.{archive_unread, saved_laid, saved_ranges, saved_ranged, saved-held}
use Rattle.archiving.proofs.archive.Goals as goal

pub read_lines-found-requires : goal.read_lines-found-requires
read_lines-found-requires c =
    record {
      places_value = sym (pad-none 1 0);
      characters_value = sym no-characters;
      toggles_value = sym (pad-none 1024 0);
      pending_value = sym no-pending;
    }

pub returns-in-Err : goal.returns-in-Err
returns-in-Err c =
    let all = archive_unread _ _ _ (sym c.read_lines-found.ensures.answer_value ∙ c.in-Err.is) in
    record {
      value = all.0;
      out_after = all.1;
    }

pub returns-then-not-has_form : goal.returns-then-not-has_form
returns-then-not-has_form c =
    let z = c.read_lines-found.ensures in
    let told = c.in_default.is in
    let done = sym z.answer_value ∙ told in
    let b = c.args.bytes.now in
    let out = c.args.out.now in
    let all = archive_form b out (saved_laid b out done) (saved_ranges b out done)
    (failed (c.has_form.ensures.value _ (saved-held b out done (z.held told)) (saved_ranged b out done)) c.if-not-has_form.true-raw) in
    record {
      value = all.0;
      out_after = all.1;
    }

pub put_archived-requires : goal.put_archived-requires
put_archived-requires c =
    let z = c.read_lines-found.ensures in
    let f = c.has_form.ensures in
    let formed = passed refl c.if-not-has_form.false-raw in
    record {
      characters_len = z.characters_len;
      toggles_len = z.toggles_len;
      n_le_character_slots = f.n_le_character_slots formed;
      pending_len = z.pending_len;
      w_le_pending_slots = f.w_le_pending_slots formed;
    }

pub returns : goal.returns
returns c =
    let z = c.read_lines-found.ensures in
    let told = c.in_default.is in
    let done = sym z.answer_value ∙ told in
    let b = c.args.bytes.now in
    let out = c.args.out.now in
    let held = saved-held b out done (z.held told) in
    let formed = passed (c.has_form.ensures.value _ held (saved_ranged b out done)) c.if-not-has_form.false-raw in
    let p = c.put_archived.ensures in
    let u = archive_writes b out (saved_laid b out done) (saved_ranges b out done) formed in
    record {
      value = p.value _ held formed ∙ u.0;
      out_after = p.out_after _ held formed ∙ u.1;
    }
