-- `serving::exchange::first_beside` meets its contract, variant by variant.
use Rattle.c_calls.specs.Inputs.{first_beside}
use Rattle.serving.proofs.exchange.first_beside.Goals as goal

pub returns-in-Ok : goal.returns-in-Ok
unfolding first_beside
returns-in-Ok c = rw (← c.in-Ok.ensures)

pub returns-in-Err : goal.returns-in-Err
unfolding first_beside
returns-in-Err c = rw (← c.in-Err.ensures) c.earlier.ensures
