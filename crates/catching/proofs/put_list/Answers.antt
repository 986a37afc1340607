-- `put_list` meets its contract: the chunks of the rows are collected, and then written.
use Prim.Native.Nat.{ℕ}
use native.Mathlib.Omega.{arith}
use mathlib.Core.Path.{sym, ap, ◌∙◌}
use mathlib.Core.List.{List, []}
use borrow.Author.Rules.{rules}
use lib.ListN.{length-replicate}
use Rattle.woot.specs.Writing.{written_as, output_after}
use Rattle.bulk.specs.Catching.{Chunk}
use Rattle.memory.proofs.Fullness.{column-length}
use Rattle.listing.specs.Format.{list_bytes}
use Rattle.catching.proofs.put_list.Goals as goal

pub slice_bounds-collect-end : goal.slice_bounds-collect-end
slice_bounds-collect-end c =
    sym (column-length 1024 0 c.args.characters.now (omega (arith, c.requires.characters_len)))

pub collect-count-requires : goal.collect-count-requires
collect-count-requires c =
    let wide = column-length 1024 0 c.args.characters.now (omega (arith, c.requires.characters_len)) in
    record {
      n_in_bounds = omega (arith, wide, c.requires.n_le_character_slots);
      n_le_capacity = c.requires.n_le_character_slots;
      heads_len = length-replicate {A = ℕ} 1024 0;
      words_len = length-replicate {A = ℕ} 1024 0;
      keys_value = c.requires.characters_value;
    }

pub put-requires : goal.put-requires
put-requires c =
    let e = c.collect-count.ensures.upper_bound in
    record {
      n_in_bounds = omega (arith, e, c.heads-2-1.given);
      n_in_bounds_2 = omega (
        arith,
        e,
        c.words-2-1.given,
      );
    }

pub returns : goal.returns
returns c =
    let w = c.put.ensures in
    let e = c.collect-count.ensures.result_after in
    record {
      value = w.value
          ∙ ap (λ (ks : List Chunk). written_as [] (list_bytes (record {
            site = c.args.number;
            total = c.args.n;
            chunks = ks;
          })) c.args.out.now) e;
      out_after = w.out_after
          ∙ ap (λ (ks : List Chunk). output_after [] (list_bytes (record {
            site = c.args.number;
            total = c.args.n;
            chunks = ks;
          })) c.args.out.now) e;
    }
