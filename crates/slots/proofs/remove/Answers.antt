-- `slots::remove` meets its contract: the part behind j has moved down by one, and the slot left over is set.
use Rattle.std.proofs.Common.{ap, ◌-◌, ◌∙◌}
use Rattle.std.proofs.Math.ListN.{set}
use Rattle.slots.proofs.Moves.{moved-down}
use Rattle.slots.proofs.remove.Goals as goal

pub returns : goal.returns
returns g c =
    ap (λ l. set l (c.args.n - 1) c.args.blank) c.copy_within.ensures.after
    ∙ moved-down c.args.n c.args.j c.args.blank c.args.a.now c.requires.j_lt_n c.requires.n_in_bounds
