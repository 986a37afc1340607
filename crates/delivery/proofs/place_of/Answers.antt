-- `delivery::place_of` goes by the placement.
use Rattle.delivery.proofs.place_of.Goals as goal

pub returns-in-Below : goal.returns-in-Below
returns-in-Below c = rw c.in-Below.is
