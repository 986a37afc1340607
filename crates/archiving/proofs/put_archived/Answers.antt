-- `archiving::put_archived` meets its contract: the arrays are gathered in the sequence of the identifiers.
use native.Mathlib.Omega.{arith}
use mathlib.Core.Path.{sym, ap, ◌∙◌}
use mathlib.Core.List.{[]}
use Rattle.lists.proofs.Padding.{pad-none}
use Rattle.bulk.specs.Archiving.{Archive}
use Rattle.woot.specs.Writing.{written_as, output_after}
use Rattle.saved.specs.Archive.{archive_bytes}
use Rattle.loading.proofs.Settling.{no-characters}
use Rattle.archiving.proofs.Gathering.{archived_so}
use Rattle.archiving.proofs.put_archived.Goals as goal

pub gather-requires : goal.gather-requires
gather-requires c =
    let p = c.requires in
    let q = c.sequence in
    let size = q.auto.places in
    record {
      characters_len = p.characters_len;
      toggles_len = p.toggles_len;
      n_in_bounds = omega (arith, size, p.n_le_character_slots);
      n_le_character_slots = p.n_le_character_slots;
      leads = λ k l. (let w = q.ensures.leads k l in (w.0, omega (arith, w.1, p.n_le_character_slots)));
      moved_value = sym no-characters;
      moved_toggles_value = sym (pad-none 1024 0);
    }

pub returns : goal.returns
returns c =
    let p = c.requires in
    let q = c.sequence in
    let g = c.gather.ensures in
    let r = c.put_archive.ensures in
    let size = q.auto.places in
    let out = c.args.out.now in
    record {
      value = λ t held h.
          r.value
          ∙ ap (λ (a : Archive). written_as [] (archive_bytes a) out)
          (archived_so held p.n_le_character_slots (omega (arith, size, p.n_le_character_slots)) q.ensures.leads (record { characters-led = g.moved_after; toggles-led = g.moved_toggles_after })
          p.w_le_pending_slots h q.ensures.places_after);
      out_after = λ t held h.
          r.out_after
          ∙ ap (λ (a : Archive). output_after [] (archive_bytes a) out)
          (archived_so held p.n_le_character_slots (omega (arith, size, p.n_le_character_slots)) q.ensures.leads (record { characters-led = g.moved_after; toggles-led = g.moved_toggles_after })
          p.w_le_pending_slots h q.ensures.places_after);
    }
