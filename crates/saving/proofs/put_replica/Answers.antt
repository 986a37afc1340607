-- `saving::put_replica` meets its contract: a row without its place is its character's line.
use native.Mathlib.Omega.{arith}
use mathlib.Core.Path.{ap, ◌∙◌}
use mathlib.Core.List.{[]}
use Rattle.woot.specs.Writing.{written_as, output_after}
use Rattle.saving.proofs.Documents.{saved_file}
use borrow.Author.Rules.{rules}
use Rattle.saving.proofs.put_replica.Goals as goal

pub put_columns_with-requires : goal.put_columns_with-requires
put_columns_with-requires c =
    let p = c.requires in
    record {
      places-hold = omega (arith, p.characters_len, p.n_le_character_slots);
      characters-full = p.characters_len;
      characters-hold = p.n_le_character_slots;
      toggles-hold = p.n_in_bounds;
      pending-full = p.pending_len;
      columns-few = omega arith;
      pending-hold = p.w_le_pending_slots;
    }

pub returns : goal.returns
returns c =
    let a = c.args in
    let p = c.put_columns_with.ensures in
    let e = saved_file a.characters.now a.characters.now a.toggles.now a.n a.site a.pending.now a.w a.version in
    record {
      value = p.value ∙ ap (λ b. written_as [] b a.out.now) e;
      out_after = p.out_after ∙ ap (λ b. output_after [] b a.out.now) e;
    }
