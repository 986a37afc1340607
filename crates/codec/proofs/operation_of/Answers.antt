-- `codec::operation_of` meets its contract: the arm knows the kind, and the limits of the kind have room in the fields.
use mathlib.Core.Path.{ap}
use native.Mathlib.Omega.{arith}
use Rattle.woot.specs.declared.Operation.TheVariants.{Insert as insert, Toggle as toggle}
use Rattle.codec.specs.Operations.{toggle_limits, delete_limits, toggle_of, delete_of}
use Rattle.codec.specs.Kinds.{toggles_of}
use Rattle.lines.proofs.Values.{at_most_at}
use Rattle.codec.proofs.operation_of.Goals as goal

pub overflow_cast-values : goal.overflow_cast-values
overflow_cast-values c =
    let b = at_most_at toggle_limits c.args.values (rw c.in-Toggle.is at c.requires) in
    omega (arith, b 3 (omega arith))

pub toggle_of-requires : goal.toggle_of-requires
toggle_of-requires c =
    let b = at_most_at toggle_limits c.args.values (rw c.in-Toggle.is at c.requires) in
    omega (arith, b 0 (omega arith), b 1 (omega arith), b 2 (omega arith))

pub toggle_of-requires-in-Delete : goal.toggle_of-requires-in-Delete
toggle_of-requires-in-Delete c =
    let b = at_most_at delete_limits c.args.values (rw c.in-Delete.is at c.requires) in
    omega (arith, b 0 (omega arith), b 1 (omega arith), b 2 (omega arith))

pub returns-in-Insert : goal.returns-in-Insert
returns-in-Insert c = rw c.in-Insert.is (ap insert c.insert_of.ensures)

pub returns-in-Toggle : goal.returns-in-Toggle
unfolding toggles_of toggle_of
returns-in-Toggle c = rw c.in-Toggle.is (ap toggle c.toggle_of.ensures)

pub returns-in-Delete : goal.returns-in-Delete
unfolding toggles_of delete_of
returns-in-Delete c = rw c.in-Delete.is (ap toggle c.toggle_of-in-Delete.ensures)
