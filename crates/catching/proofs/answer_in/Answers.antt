-- `answer_in` meets its contract: the list is read, the form is checked, and then the room alone counts.
use Prim.Native.Nat.{ℕ}
use native.Mathlib.Omega.{arith}
use mathlib.Core.Path.{◌≡◌, sym, ap, ◌∙◌}
use mathlib.Core.Bool.{true}
use mathlib.Core.List.{List, []}
use Rattle.lists.proofs.Tests.{failed, passed}
use Rattle.woot.specs.Memory.{replica_well_formed}
use Rattle.woot.specs.Writing.{written_as, output_after}
use Rattle.bulk.specs.Catching.{in_sequence}
use Rattle.memory.specs.Lent.{viewed}
use Rattle.memory.proofs.Views.{form_view}
use Rattle.well_formed.proofs.Examining.{few, examined_tabled}
use Rattle.catching.specs.Sending.{rows_in, answer_lines}
use Rattle.catching.proofs.Deciding.{ReadSo, was_read, read-sequence, answer-refused, answer_unformed}
use Rattle.catching.proofs.Deciding.{answer-formed}
use Rattle.catching.proofs.Formed.{seen, rows_stand, rows-low, answer-lines}
use borrow.Author.Rules.{rules}
use Rattle.catching.proofs.answer_in.Goals.{After-is_well_formed, Else-not-is_well_formed}
use Rattle.catching.proofs.answer_in.Goals as goal

formed : (c : Else-not-is_well_formed) → replica_well_formed c.args.replica.now ≡ true
formed c = passed (c.is_well_formed.ensures ∙ sym (form_view c.args.replica.now)) c.if-not-is_well_formed.false-raw

-- the list was read
read_so : (c : After-is_well_formed) → ReadSo c.args.list.now
read_so c = was_read c.args.list.now (sym c.read-read.ensures.value ∙ c.in-Ok.is)

pub returns-then-not-is_well_formed : goal.returns-then-not-is_well_formed
returns-then-not-is_well_formed c =
    let r = c.args.replica.now in
    let all = answer_unformed r c.args.list.now _ (read_so (goal.at.returns-then-not-is_well_formed c).After-is_well_formed)
    (failed (c.is_well_formed.ensures ∙ sym (form_view r)) c.if-not-is_well_formed.true-raw) in
    record {
      value = all.0;
      out_after = all.1;
    }

pub put_answer-requires : goal.put_answer-requires
put_answer-requires c =
    let r = c.args.replica.now in
    let f = c.requires in
    let x = seen r f (formed (goal.at.put_answer-requires c).Else-not-is_well_formed) in
    let n = few (viewed r) x in
    let q = c.read-read.ensures.by_index _ c.in-Ok.is in
    record {
      characters_len = f.characters;
      n_le_character_slots = n.characters;
      n_in_bounds = omega (arith, f.toggles, n.characters);
      tabled = examined_tabled (viewed r) x;
      keys_low = rows-low r f (formed (goal.at.put_answer-requires c).Else-not-is_well_formed);
      standing = rows_stand r f (formed (goal.at.put_answer-requires c).Else-not-is_well_formed);
      count_in_bounds = omega (arith, q.0, c.firsts-2-1.given);
      count_in_bounds_2 = omega (arith, q.0, c.words-2-1.given);
      count_value = ap in_sequence q.1 ∙ read-sequence c.args.list.now (read_so (goal.at.put_answer-requires c).After-is_well_formed);
    }

pub returns-in-Err : goal.returns-in-Err
returns-in-Err c =
    let all = answer-refused c.args.replica.now c.args.list.now c.args.out.now
    (sym c.read-read.ensures.value ∙ c.in-Err.is) in
    record {
      value = all.0;
      out_after = all.1;
    }

pub returns-else-not-is_well_formed : goal.returns-else-not-is_well_formed
returns-else-not-is_well_formed c =
    let r = c.args.replica.now in
    let a = c.args in
    let rows = rows_in r.document.characters r.document.toggles r.document.length in
    let q = c.read-read.ensures.by_index _ c.in-Ok.is in
    let w = c.put_answer.ensures in
    let l = ap (answer_lines r.site.number rows) q.1 ∙ answer-lines r a.list.now in
    let v = answer-formed r a.list.now a.out.now (read_so (goal.at.returns-else-not-is_well_formed c).After-is_well_formed) (formed (goal.at.returns-else-not-is_well_formed c).Else-not-is_well_formed) in
    record {
      value = w.value ∙ ap (λ (bytes : List ℕ). written_as [] bytes a.out.now) l ∙ v.0;
      out_after = w.out_after ∙ ap (λ (bytes : List ℕ). output_after [] bytes a.out.now) l ∙ v.1;
    }
