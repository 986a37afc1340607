-- `delivery::toggle` gives the target the larger count, and nothing else changes.
use native.Mathlib.Omega.{arith}
use Rattle.memory.proofs.Stored.{document-path, document-parts}
use Rattle.delivery.proofs.Changes.{toggled-parts, targeted_within}
use Rattle.delivery.proofs.toggle.Goals as goal

pub toggle-requires : goal.toggle-requires
toggle-requires c =
    let t = c.requires.targeted in
    omega (arith, targeted_within _ _ _ t, t.lent.few, c.clear.ensures.full_after.toggles)

pub returns-clause-value : goal.returns-clause-value
returns-clause-value c =
    let t = c.requires.targeted in
    document-path (toggled-parts (document-parts c.clear.ensures.value) _ _ t.place t.apart c.toggle.ensures)
