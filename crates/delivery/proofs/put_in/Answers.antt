-- `delivery::put_in` puts the character in, and drains what waits for it.
use Rattle.std.proofs.Common.{refl, ◌∙◌}
use Rattle.memory.proofs.Stored.{document-parts}
use Rattle.delivery.proofs.Carrying.{carried_workable, carried_finished}
use Rattle.delivery.proofs.put_in.Goals as goal

pub drain-requires-clause-workable : goal.drain-requires-clause-workable
drain-requires-clause-workable c =
    let q = c.requires.insertable.placed in
    carried_workable (document-parts (c.place.ensures.value _ _ q.swept)) q.result refl refl q.sound

pub returns-clause-value : goal.returns-clause-value
returns-clause-value c cs ps q =
    c.drain.ensures.value ∙ carried_finished (document-parts (c.place.ensures.value _ _ q.swept)) q.result refl refl q.sound
