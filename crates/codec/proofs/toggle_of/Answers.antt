-- `codec::toggle_of` meets its contract: each number fits its field, since its limit does.
use native.Mathlib.Omega.{arith}
use lib.ListN.{get_or}
use Rattle.codec.specs.Operations.{identifier_at}
use Rattle.codec.specs.Kinds.{toggles_of}
use Rattle.codec.proofs.Fitting.{fits_whole}
use Rattle.codec.proofs.toggle_of.Goals as goal

pub returns : goal.returns
unfolding toggles_of identifier_at
returns c =
    let target = fits_whole c.identifier.ensures (omega arith) (omega arith) in
    λ j. record { sender = get_or c.args.values 0 0; target = target j; toggles = c.args.toggles }
