-- `archiving::has_form` meets its contract: the table is made of what the arrays hold, and so the form is the state's.
use Prim.Native.Nat.{ℕ}
use mathlib.Core.Path.{sym, subst, ap, ◌∙◌}
use lib.ListN.{take}
use Rattle.woot.specs.Table.{table_of}
use Rattle.chains.specs.Sizes.{Sized}
use Rattle.chains.proofs.Tables.{table_sized}
use Rattle.memory.proofs.Stored.{counts, form_counted}
use Rattle.archiving.proofs.Holding.{form_held}
use Rattle.archiving.proofs.has_form.Goals as goal

pub check-requires : goal.check-requires
check-requires c =
    let z = c.requires in
    let made = subst Sized (sym c.enter_all.ensures) (table_sized _) in
    record {
      characters = z.characters_len;
      toggles = z.toggles_len;
      pending = z.pending_len;
      heads = made.heads;
      links = made.links;
    }

pub returns : goal.returns
returns c =
    let characters = c.args.characters.now in
    let table = c.enter_all.ensures ∙ ap (λ (k : ℕ). table_of (take k characters)) c.lesser.ensures in
    record {
      value = λ s held ranged. c.check.ensures ∙ form_held held table ranged;
      n_le_character_slots = λ h. (counts _ (form_counted _ (sym c.check.ensures ∙ h))).characters;
      w_le_pending_slots = λ h. (counts _ (form_counted _ (sym c.check.ensures ∙ h))).pending;
    }
