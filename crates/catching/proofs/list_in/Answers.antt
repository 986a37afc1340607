-- `list_in` meets its contract: the check of the form, and then the room alone.
use mathlib.Core.Path.{◌≡◌, sym, ap, ◌∙◌}
use mathlib.Core.Bool.{true}
use mathlib.Core.List.{[]}
use Rattle.lists.proofs.Tests.{failed, passed}
use Rattle.woot.specs.Memory.{replica_well_formed}
use Rattle.woot.specs.Writing.{written_as, output_after}
use Rattle.bulk.specs.Catching.{Listing}
use Rattle.memory.specs.Lent.{viewed}
use Rattle.memory.proofs.Views.{form_view}
use Rattle.well_formed.proofs.Examining.{few}
use Rattle.listing.specs.Format.{list_bytes}
use Rattle.catching.specs.Calls.{list_bytes_of}
use Rattle.catching.proofs.Deciding.{list_unformed, list-formed}
use Rattle.catching.proofs.Formed.{seen, ids_ranged, list-is}
use borrow.Author.Rules.{rules}
use Rattle.catching.proofs.list_in.Goals.{Else-not-is_well_formed}
use Rattle.catching.proofs.list_in.Goals as goal

formed : (c : Else-not-is_well_formed) → replica_well_formed c.args.replica.now ≡ true
formed c = passed (c.is_well_formed.ensures ∙ sym (form_view c.args.replica.now)) c.if-not-is_well_formed.false-raw

pub returns-then-not-is_well_formed : goal.returns-then-not-is_well_formed
returns-then-not-is_well_formed c =
    let r = c.args.replica.now in
    let all = list_unformed r _ (failed (c.is_well_formed.ensures ∙ sym (form_view r)) c.if-not-is_well_formed.true-raw) in
    record {
      value = all.0;
      out_after = all.1;
    }

pub put_list-requires : goal.put_list-requires
put_list-requires c =
    let r = c.args.replica.now in
    let f = c.requires in
    record {
      characters_len = f.characters;
      n_le_character_slots = (few (viewed r) (seen r f (formed (goal.at.put_list-requires c).Else-not-is_well_formed))).characters;
      characters_value = ids_ranged r f (formed (goal.at.put_list-requires c).Else-not-is_well_formed);
    }

pub returns : goal.returns
unfolding list_bytes_of
returns c =
    let r = c.args.replica.now in
    let out = c.args.out.now in
    let w = c.put_list.ensures in
    let l = list-is r c.requires (formed (goal.at.returns c).Else-not-is_well_formed) in
    let v = list-formed r out (formed (goal.at.returns c).Else-not-is_well_formed) in
    record {
      value = w.value ∙ ap (λ (k : Listing). written_as [] (list_bytes k) out) l ∙ v.0;
      out_after = w.out_after ∙ ap (λ (k : Listing). output_after [] (list_bytes k) out) l ∙ v.1;
    }
