-- `answering::put_answer` meets its contract: the inserts that are sent and the toggles are put, and then written.
use native.Mathlib.Omega.{arith}
use Prim.Native.Nat.{ℕ}
use mathlib.Core.Path.{sym, ap, ◌∙◌}
use mathlib.Core.List.{List, []}
use borrow.Author.Rules.{rules}
use lib.ListN.{length-replicate}
use Rattle.woot.specs.Writing.{written_as, output_after}
use Rattle.memory.proofs.Fullness.{column-length}
use Rattle.catching.proofs.Both.{both-lines}
use Rattle.catching.proofs.answering.put_answer.Goals as goal

pub put_sent-sent-requires : goal.put_sent-sent-requires
put_sent-sent-requires c =
    let p = c.requires in
    let q = p in
    record {
      characters_len = p.characters_len;
      n_le_character_slots = p.n_le_character_slots;
      tabled = q.tabled;
      keys_low = q.keys_low;
      count_in_bounds = q.count_in_bounds;
      count_in_bounds_2 = q.count_in_bounds_2;
      count_value = q.count_value;
      numbers_len = length-replicate {A = ℕ}
          4096 0;
    }

pub slice_bounds-put_toggles-end : goal.slice_bounds-put_toggles-end
slice_bounds-put_toggles-end c =
    sym (column-length 1024 0 c.args.characters.now (omega (arith, c.requires.characters_len)))

pub put_toggles-turns-requires : goal.put_toggles-turns-requires
put_toggles-turns-requires c =
    let wide = column-length 1024 0 c.args.characters.now (omega (arith, c.requires.characters_len)) in
    record {
      n_le_character_slots = c.requires.n_le_character_slots;
      n_in_bounds = omega (arith, wide, c.requires.n_le_character_slots);
      n_in_bounds_2 = c.requires.n_in_bounds;
      numbers_len = length-replicate {A = ℕ} 4096 0;
    }

pub put_both-requires : goal.put_both-requires
put_both-requires c =
    let p = c.put_sent-sent.ensures in
    let q = c.put_toggles-turns.ensures in
    record {
      inserts_len = p.size;
      sent_le_character_slots = omega (arith, p.few, c.requires.n_le_character_slots);
      toggles_len = q.size;
      count_le_character_slots = omega (arith, q.few, c.requires.n_le_character_slots);
    }

pub returns : goal.returns
returns c =
    let w = c.put_both.ensures in
    let e = both-lines c.requires.standing c.put_sent-sent.ensures c.put_toggles-turns.ensures in
    record {
      value = w.value ∙ ap (λ (bytes : List ℕ). written_as [] bytes c.args.out.now) e;
      out_after = w.out_after ∙ ap (λ (bytes : List ℕ). output_after [] bytes c.args.out.now) e;
    }
