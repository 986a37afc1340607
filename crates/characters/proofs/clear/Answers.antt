-- `characters::clear` clears each array behind the first n.
use Prim.Native.Nat.{ℕ}
use mathlib.Core.Path.{ap, ◌∙◌}
use lib.ListN.{take}
use Rattle.lists.specs.Padding.{pad}
use borrow.Author.Rules.{rules}
use Rattle.characters.proofs.clear.Goals as goal

pub returns : goal.returns
returns c =
    let e = c.clear_columns.ensures in
    record {
      characters_after = e.characters_after;
      characters_after_2 = e.characters_after_2;
      characters_after_3 = e.characters_after_3;
      characters_after_4 = e.characters_after_4;
      toggles_after = c.clear.ensures ∙ ap (λ (m : ℕ). pad m 0 (take c.args.n c.args.toggles.now)) c.requires.toggles_len;
    }
