-- `slots::clear` meets its contract: with one slot more the blank ones are one more, and in the end all behind the list are.
use Rattle.std.proofs.Common.{ap, ◌∙◌, arith}
use Rattle.std.proofs.Math.ListN.{set}
use Rattle.slots.proofs.Moves.{filled-more, cleared}
use Rattle.slots.proofs.clear.Goals as goal

pub loop-slot-preserved : goal.loop-slot-preserved
loop-slot-preserved g c =
    let l = c.loop-slot in
    ap (λ s. set s l.slot-index c.args.blank) l.invariant ∙ filled-more l.slot-index c.args.blank _ (omega arith)

pub returns : goal.returns
returns g c = cleared _ _ _ _ _ _ (omega arith) c.requires (omega arith) c.loop-slot.invariant
