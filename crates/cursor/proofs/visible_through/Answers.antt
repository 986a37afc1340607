-- `cursor::visible_through` meets its contract: the visible ones are counted among the characters through the key.
use mathlib.Core.Path.{◌∙◌}
use Rattle.cursor.proofs.Slots.{count-few, first_counts, first-through}
use borrow.Author.Rules.{rules}
use native.Mathlib.Omega.{arith}
use Rattle.cursor.proofs.visible_through.Goals as goal

pub count-shown-requires : goal.count-shown-requires
count-shown-requires c = omega (arith, c.through-last.ensures)

pub returns : goal.returns
returns c =
    let a = c.args in
    let e = c.through-last.ensures in
    let few = count-few a.toggles.now c.through-last.result (omega (arith, e)) c.count-shown.ensures in
    record {
      value = λ cs k t small. c.count-shown.ensures _ (first_counts cs a.ids.now a.toggles.now a.n a.key e t)
          ∙ first-through cs a.ids.now a.toggles.now a.n a.key e c.requires.n_in_bounds k small;
      upper_bound = omega (arith, few, e);
    }
