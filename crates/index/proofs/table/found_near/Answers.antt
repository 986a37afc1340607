-- `index::table::found_near` looks at the head of the key's chain and at the link from there.
use mathlib.Core.Path.{◌∙◌}
use Rattle.index.proofs.Near.{near_found}
use Rattle.index.proofs.table.found_near.Goals as goal

pub returns : goal.returns
returns c e =
    let a = c.args in
    let b = c.believed-at.ensures in
    near_found a.table.now a.keys.now a.i c.requires.i_in_bounds c.place-head.result c.believed-at.result c.place-next.result
    (c.place-head.ensures.value ∙ rw c.chain.ensures.value) b.result_nonzero b.upper_bound
    (c.place-next.ensures.value ∙ rw c.slot.ensures.value)
    e
