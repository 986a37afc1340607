-- `seen_by` meets its contract: the one that has the identifier decides.
use native.Mathlib.Omega.{arith}
use mathlib.Core.Path.{◌≡◌, ◌∙◌}
use mathlib.Core.Bool.{true}
use borrow.Author.Rules.{rules}
use Rattle.woot.specs.Ranges.{character_id}
use Rattle.convergence.proofs.Ranges.{in-range}
use Rattle.well_formed.proofs.Examining.{few, fits, examined_tabled}
use Rattle.holder.specs.declared.Holder.{Holder}
use Rattle.holder.proofs.Having.{Has, has, character-within, pending-within}
use Rattle.holder.proofs.Seeing.{seen-character, seen-pending, seen_nobody}
use Rattle.holder.proofs.seen_by.Goals.{After-holder_of, Start}
use Rattle.holder.proofs.seen_by.Goals as goal

id_ranged : (s : Start) → character_id s.args.insert.id ≡ true
id_ranged s = (in-range s.args.insert s.requires.insert_value).id

-- who has the identifier
held : (c : After-holder_of) (h : Holder) → c.holder_of.result ≡ h → Has _ c.requires.examined _ ((in-range c.args.insert c.requires.insert_value).id) h
held c h e = has _ c.requires.examined _ ((in-range c.args.insert c.requires.insert_value).id) (rw c.key.ensures.value at c.holder_of.ensures) e

pub holder_of-requires : goal.holder_of-requires
holder_of-requires c =
    let x = c.requires.examined in
    record {
      n_in_bounds = (fits _ x).ids;
      w_in_bounds = (fits _ x).own;
      tabled = examined_tabled _ x;
    }

pub compared-requires : goal.compared-requires
compared-requires c =
    let x = c.requires.examined in
    let n = few _ x in
    let h = character-within _ x _ (id_ranged (goal.at.compared-requires c).Start) _ (held (goal.at.compared-requires c).After-holder_of _ c.in-Character.is) in
    record {
      numbers_len = c.requires.full.characters;
      k_lt_slots = omega arith;
    }

pub compared-requires-in-Pending : goal.compared-requires-in-Pending
compared-requires-in-Pending c =
    let x = c.requires.examined in
    let n = few _ x in
    let h = pending-within _ x _ (id_ranged (goal.at.compared-requires-in-Pending c).Start) _ (held (goal.at.compared-requires-in-Pending c).After-holder_of _ c.in-Pending.is) in
    record {
      numbers_len = c.requires.full.pending;
      k_lt_slots = omega arith;
    }

pub returns-in-Character : goal.returns-in-Character
returns-in-Character c =
    c.compared.ensures ∙ seen-character _ c.requires.examined _ c.requires.insert_value _ (held (goal.at.returns-in-Character c).After-holder_of _ c.in-Character.is)

pub returns-in-Pending : goal.returns-in-Pending
returns-in-Pending c =
    c.compared-in-Pending.ensures ∙ seen-pending _ c.requires.examined _ c.requires.insert_value _ (held (goal.at.returns-in-Pending c).After-holder_of _ c.in-Pending.is)

pub returns-in-Nobody : goal.returns-in-Nobody
returns-in-Nobody c =
    seen_nobody _ c.requires.examined _ c.requires.insert_value (held (goal.at.returns-in-Nobody c).After-holder_of _ c.in-Nobody.is)
