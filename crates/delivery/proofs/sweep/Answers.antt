-- `delivery::sweep` clears each column behind what is in use, so that the slots hold the lists that they stand for.
use Rattle.std.proofs.Common.{refl, ◌∙◌}
use Rattle.delivery.proofs.Works.{cleared}
use Rattle.delivery.proofs.sweep.Goals as goal

pub returns-clause-lengths : goal.returns-clause-lengths
returns-clause-lengths c =
    record {
      characters = c.clear.auto.characters;
      toggles = c.clear.auto.toggles;
      pending = c.clear-2.auto.pending;
      heads = refl;
      links = refl;
    }

pub returns-clause-full_after : goal.returns-clause-full_after
returns-clause-full_after c full =
    record {
      characters = c.clear.auto.characters ∙ full.characters;
      toggles = c.clear.auto.toggles ∙ full.toggles;
      pending = c.clear-2.auto.pending ∙ full.pending;
      heads = full.heads;
      links = full.links;
    }

pub returns-clause-any_table : goal.returns-clause-any_table
returns-clause-any_table c hs ls lent =
    let e = c.clear.ensures in
    let f = c.clear-2.ensures in
    cleared _ lent e.characters_after e.characters_after_2 e.characters_after_3 e.characters_after_4 e.toggles_after f.pending_after f.pending_after_2 f.pending_after_3 f.pending_after_4

pub returns-clause-value : goal.returns-clause-value
returns-clause-value c lent =
    let e = c.clear.ensures in
    let f = c.clear-2.ensures in
    cleared _ lent e.characters_after e.characters_after_2 e.characters_after_3 e.characters_after_4 e.toggles_after f.pending_after f.pending_after_2 f.pending_after_3 f.pending_after_4
