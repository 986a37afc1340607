-- `archiving::unarchive` meets its contract: what was read decides, then its places and identifiers, and then the rest.
use native.Mathlib.Omega.{arith}
use mathlib.Core.Path.{refl, sym, ◌∙◌}
use Rattle.lists.proofs.Padding.{pad-none}
use Rattle.lists.proofs.Tests.{failed, passed}
use Rattle.loading.proofs.Settling.{no-characters, no-pending}
use Rattle.archiving.proofs.Reading.{unarchive_unread, archive_placed, archive_held, misarranged, led_ranged, brought_so}
use Rattle.archiving.proofs.unarchive.Goals as goal

pub read_lines-found-requires : goal.read_lines-found-requires
read_lines-found-requires c =
    record {
      places_value = sym (pad-none 1024 0);
      characters_value = sym no-characters;
      toggles_value = sym (pad-none 1024 0);
      pending_value = sym no-pending;
    }

pub returns-in-Err : goal.returns-in-Err
returns-in-Err c =
    let all = unarchive_unread _ _ _ (sym c.read_lines-found.ensures.answer_value ∙ c.in-Err.is) in
    record {
      value = all.0;
      out_after = all.1;
    }

pub returns-then-not-is_arranged : goal.returns-then-not-is_arranged
returns-then-not-is_arranged c =
    let z = c.read_lines-found.ensures in
    let told = c.in_default.is in
    let done = sym z.answer_value ∙ told in
    let held = z.held told in
    let b = c.args.bytes.now in
    let out = c.args.out.now in
    let all = misarranged b out done held (failed (c.is_arranged.ensures.value _ (archive_placed b out done held z.places_len_unchanged)) c.if-not-is_arranged.true-raw) in
    record {
      value = all.0;
      out_after = all.1;
    }

pub put_back-requires : goal.put_back-requires
put_back-requires c =
    let z = c.read_lines-found.ensures in
    let a = c.is_arranged in
    let so = passed refl c.if-not-is_arranged.false-raw in
    let few = a.ensures.n_le_character_slots so in
    record {
      characters_len = z.characters_len;
      toggles_len = z.toggles_len;
      n_in_bounds = omega (arith, few, a.auto.order);
      n_le_character_slots = few;
      leads = a.ensures.leads so;
      pending_len = z.pending_len;
    }

pub returns : goal.returns
returns c =
    let z = c.read_lines-found.ensures in
    let told = c.in_default.is in
    let done = sym z.answer_value ∙ told in
    let held = z.held told in
    let b = c.args.bytes.now in
    let out = c.args.out.now in
    let a = c.is_arranged in
    let so = passed refl c.if-not-is_arranged.false-raw in
    let placed = archive_placed b out done held z.places_len_unchanged in
    let e = a.ensures.order_after so _ placed in
    let order = a.new.order in
    let all = brought_so b out done held order e (sym (a.ensures.value _ placed) ∙ so)
    (c.put_back.ensures _ (archive_held b out done held) (led_ranged b out done held order e)) in
    record {
      value = all.0;
      out_after = all.1;
    }
