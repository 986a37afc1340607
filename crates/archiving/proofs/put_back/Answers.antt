-- `archiving::put_back` meets its contract: what was gathered is judged, and then written.
use native.Mathlib.Omega.{arith}
use mathlib.Core.Path.{refl, sym, ap, ◌∙◌}
use mathlib.Core.List.{[]}
use lib.ListN.{take}
use Rattle.lists.proofs.Padding.{pad-none}
use Rattle.lists.proofs.Tests.{clash, failed, passed}
use Rattle.woot.specs.State.{State}
use Rattle.woot.specs.Writing.{written_as, output_after}
use Rattle.saved.specs.Format.{saved_bytes}
use Rattle.saved.proofs.Trips.{second-says}
use Rattle.loading.proofs.Settling.{no-characters}
use Rattle.archiving.specs.Holding.{led}
use Rattle.archiving.proofs.Gathering.{gathered-held}
use Rattle.archiving.proofs.Holding.{storable, state-held}
use Rattle.archiving.proofs.put_back.Goals as goal

pub gather-requires : goal.gather-requires
gather-requires c =
    let p = c.requires in
    let q = p in
    record {
      characters_len = p.characters_len;
      toggles_len = p.toggles_len;
      n_in_bounds = p.n_in_bounds;
      n_le_character_slots = q.n_le_character_slots;
      leads = λ k l. (let w = q.leads k l in (w.0, omega (arith, w.1, q.n_le_character_slots)));
      moved_value = sym no-characters;
      moved_toggles_value = sym (pad-none 1024 0);
    }

pub returns-then-not-has_form : goal.returns-then-not-has_form
returns-then-not-has_form c s held ranged =
    let p = c.requires in
    let g = c.gather.ensures in
    let moved = gathered-held held p.n_le_character_slots p.n_in_bounds p.leads (record { characters-led = g.moved_after; toggles-led = g.moved_toggles_after }) in
    record {
      unformed = λ f. (refl, refl);
      written = λ f. clash f (failed (c.has_form.ensures.value _ moved ranged) c.if-not-has_form.true-raw);
    }

pub put_replica-requires : goal.put_replica-requires
put_replica-requires c =
    let p = c.requires in
    let f = c.has_form in
    let g = c.gather in
    let true-so = passed refl c.if-not-has_form.false-raw in
    record {
      characters_len = g.auto.moved;
      n_le_character_slots = p.n_le_character_slots;
      n_in_bounds = omega (arith, g.auto.moved_toggles, p.n_le_character_slots);
      pending_len = p.pending_len;
      w_le_pending_slots = f.ensures.w_le_pending_slots true-so;
      w_value = second-says _;
    }

pub returns : goal.returns
returns c s held ranged =
    let p = c.requires in
    let g = c.gather.ensures in
    let f = c.has_form.ensures in
    let r = c.put_replica.ensures in
    let true-so = passed refl c.if-not-has_form.false-raw in
    let moved = gathered-held held p.n_le_character_slots p.n_in_bounds p.leads (record { characters-led = g.moved_after; toggles-led = g.moved_toggles_after }) in
    let e = state-held moved p.n_le_character_slots (f.w_le_pending_slots true-so) (storable (led s (take c.args.n c.args.order.now)) ranged) in
    record {
      unformed = λ h. clash true-so (f.value _ moved ranged ∙ h);
      written = λ h. (
        r.value ∙ ap (λ (x : State). written_as [] (saved_bytes x) c.args.out.now) e,
        r.out_after ∙ ap (λ (x : State). output_after [] (saved_bytes x) c.args.out.now) e,
      );
    }
