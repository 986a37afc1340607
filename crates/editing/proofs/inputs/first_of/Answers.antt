-- `editing::inputs::first_of` meets its contract, variant by variant.
use Rattle.c_calls.specs.Inputs.{first_of}
use borrow.Author.Rules.{rules}
use Rattle.editing.proofs.inputs.first_of.Goals as goal

pub returns-in-Ok : goal.returns-in-Ok
unfolding first_of
returns-in-Ok c = rw c.in-Ok.is

pub returns-in-Err : goal.returns-in-Err
unfolding first_of
returns-in-Err c = rw c.in-Err.is c.earlier.ensures
