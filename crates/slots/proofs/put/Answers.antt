-- `slots::put` meets its contract: the part from k on has moved up by one, and x is set at k.
use Rattle.std.proofs.Common.{ap, ◌∙◌}
use Rattle.std.proofs.Math.ListN.{set}
use Rattle.slots.proofs.Moves.{moved-up}
use Rattle.slots.proofs.put.Goals as goal

pub returns : goal.returns
returns g c =
    c.set.ensures ∙ ap (λ l. set l c.args.k c.args.x) c.copy_within.ensures.after
    ∙ moved-up c.args.n c.args.k c.args.x c.args.a.now c.requires.k_le_n c.requires.n_in_bounds
