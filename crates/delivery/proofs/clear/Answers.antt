-- `delivery::clear` sweeps the slots, and makes the table of the keys that are in use.
use Rattle.std.proofs.Common.{ℕ, ◌≤◌, ◌∙◌, List, ap, sym, subst}
use native.Mathlib.Omega.{arith}
use lib.Seq.{take-take}
use Rattle.woot.specs.Table.{table_of}
use Rattle.chains.specs.Sizes.{Sized}
use Rattle.chains.proofs.Tables.{table_sized}
use Rattle.index.specs.Tabled.{Tabled}
use Rattle.delivery.proofs.Works.{swept-keys, swept_tabled, swept_document}
use Rattle.delivery.proofs.clear.Goals.{After-sweep}
use Rattle.delivery.proofs.clear.Goals as goal

-- no more characters than slots
few : (c : After-sweep) → c.sweep.new.document.length ≤ 1024
few c = omega (arith, c.sweep.ensures.length_after, c.requires.lent.few)

pub sweep-requires : goal.sweep-requires
sweep-requires c =
    let full = c.requires.full in
    let l = c.requires.lent in
    record {
      characters_len = full.characters;
      toggles_len = full.toggles;
      pending_len = full.pending;
      length_le_character_slots = l.few;
      waiting_le_pending_slots = l.few-pending;
    }

pub renew-requires-clause-n_in_bounds : goal.renew-requires-clause-n_in_bounds
renew-requires-clause-n_in_bounds c =
    omega (arith, few (goal.at.renew-requires-clause-n_in_bounds c).After-sweep, (c.sweep.ensures.full_after c.requires.full).characters)

pub renew-requires-clause-tabled : goal.renew-requires-clause-tabled
renew-requires-clause-tabled c =
    let s = c.sweep.ensures in
    subst (λ (ks : List ℕ). Tabled c.sweep.new.document.table ks)
    (take-take _ 1024 _ (few (goal.at.renew-requires-clause-tabled c).After-sweep))
    (swept_tabled c.requires.lent (s.value c.requires.lent) s.table_after)

pub returns-clause-full_after : goal.returns-clause-full_after
returns-clause-full_after c =
    let full = c.sweep.ensures.full_after c.requires.full in
    let made = subst Sized (sym c.renew.ensures) (table_sized _) in
    record {
      characters = full.characters;
      toggles = full.toggles;
      pending = full.pending;
      heads = made.heads;
      links = made.links;
    }

pub returns-clause-value : goal.returns-clause-value
returns-clause-value c =
    let s = c.sweep.ensures.value c.requires.lent in
    swept_document s (c.renew.ensures ∙ ap table_of (sym (take-take _ 1024 _ (few (goal.at.returns-clause-value c).After-sweep)) ∙ swept-keys s))
