-- `delivery::place` puts each number of the character into its column, so that the slots hold the list with it.
use Rattle.std.proofs.Common.{◌∙◌, sym, subst}
use Rattle.chains.specs.Sizes.{Sized}
use Rattle.chains.proofs.Tables.{table_sized}
use Rattle.memory.proofs.Stored.{document-path}
use Rattle.delivery.proofs.Changes.{placed-parts}
use Rattle.delivery.proofs.place.Goals as goal

pub returns-clause-full_after : goal.returns-clause-full_after
returns-clause-full_after c =
    let full = c.requires.full in
    let p = c.put_in in
    let made = subst Sized (sym p.ensures.table_after) (table_sized _) in
    record {
      characters = p.auto.characters ∙ full.characters;
      toggles = p.auto.toggles ∙ full.toggles;
      pending = full.pending;
      heads = made.heads;
      links = made.links;
    }

pub returns-clause-value : goal.returns-clause-value
returns-clause-value c cs ps s =
    let e = c.put_in.ensures in
    document-path (placed-parts s _ _ c.requires.length_lt_character_slots e.characters_after e.characters_after_2 e.characters_after_3 e.characters_after_4 e.toggles_after e.table_after)
