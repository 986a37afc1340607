-- `cursor::judge_at` overrules what was decided by what was taken down of the replica, which tells it where the form was
-- checked.
use Rattle.std.proofs.Common.{refl}
use Rattle.memory.specs.Lent.{viewed}
use Rattle.memory.proofs.Fullness.{full-view}
use Rattle.well_formed.proofs.Examining.{examined}
use Rattle.cursor.proofs.Receiving.{judged-at, anchor_told}
use Rattle.cursor.proofs.judge_at.Goals as goal

pub returns : goal.returns
returns c =
    let a = c.args in
    let r = viewed a.replica.now in
    judged-at r a.operation a.point _ _ c.anchored-anchor.result c.decide-judged.ensures
    (λ f. anchor_told r _ a.point _ _ (examined r (full-view a.replica.now.document c.requires) f) refl c.lesser-n.ensures c.anchored-anchor.ensures)
    c.overrule.ensures
