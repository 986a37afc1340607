-- `splicing::room` meets its contract.
use mathlib.Core.Path.{refl, sym, ◌∙◌}
use Prim.Native.Nat.{◌+◌, ◌≤◌}
use native.Mathlib.Omega.{arith}
use lib.ListN.{length}
use borrow.Author.Rules.{rules}
use borrow.Author.Tests.{not-true, not-false}
use Rattle.output.proofs.Laws.{has_room_lem, lacks-room}
use Rattle.lines.proofs.Rooms.{until, short}
use Rattle.splicing.proofs.room.Goals.{Else-not-has_room}
use Rattle.splicing.proofs.room.Goals as goal

pub returns-then-not-has_room : goal.returns-then-not-has_room
returns-then-not-has_room c =
    let a = c.args in
    short a.size a.at a.bytes.now (lacks-room a.size a.at (length a.bytes.now) (sym c.has_room.ensures ∙ c.if-not-has_room.true))

-- they end in the slice
fits : (c : Else-not-has_room) → c.args.at + length c.args.bytes.now ≤ c.args.size
fits c =
    let a = c.args in
    has_room_lem a.size a.at (length a.bytes.now) (sym c.has_room.ensures ∙ c.if-not-has_room.false)

pub returns : goal.returns
returns c =
    let a = c.args in until a.size a.at a.bytes.now refl (fits (goal.at.returns c).Else-not-has_room)

pub overflow_add-result : goal.overflow_add-result
overflow_add-result c = omega (arith, fits (goal.at.overflow_add-result c).Else-not-has_room, c.well_formed)
