-- `characters::put_in` puts each number of the character into its column; the table is made of the keys as they are then.
use native.Mathlib.Omega.{arith}
use Prim.Native.Nat.{◌+◌}
use mathlib.Core.Path.{ap, sym, ◌∙◌}
use lib.Seq.{take-take}
use Rattle.woot.specs.Table.{table_of}
use borrow.Author.Rules.{rules}
use Rattle.characters.proofs.put_in.Goals as goal

pub returns : goal.returns
returns c =
    let e = c.put_numbers.ensures in
    record {
      characters_after = rw (← c.key.ensures.value) e.characters_after;
      characters_after_2 = rw (← c.key-2.ensures.value) e.characters_after_2;
      characters_after_3 = rw (← c.key-3.ensures.value) e.characters_after_3;
      characters_after_4 = e.characters_after_4;
      toggles_after = c.put.ensures;
      table_after = c.enter_all.ensures ∙ ap table_of (sym (take-take (c.args.n + 1) 1024 c.put_numbers.new.characters (omega (arith, c.requires.n_lt_character_slots))));
    }
