-- `lines::writing::measure` meets its contract. The loop's invariant: with the columns that are left, the end is the line's.
use mathlib.Core.Path.{◌≡◌, sym, ap, ◌∙◌}
use mathlib.Core.List.{List, []}
use Prim.Native.Nat.{ℕ, ◌+◌, ◌≤◌}
use native.Mathlib.Omega.{arith}
use lib.ListN.{length, drop, get_or, drop_of_length-le}
use Rattle.output.proofs.Laws.{has_room_lem, lacks-room}
use Rattle.decimal.proofs.Laws.{width-le}
use Rattle.lines.specs.Fields.{columns, line_of}
use Rattle.lines.proofs.Sizes.{columns-length, line_length}
use Rattle.lines.proofs.Rooms.{until, short}
use Rattle.lines.proofs.writing.measure.Goals.{After-width-count, Else-not-has_room, Else-not-has_room-2}
use Rattle.lines.proofs.writing.measure.Goals as goal

-- past the last number the line feed is left
ended : (head ns : List ℕ) (at end i : ℕ) → end + length (columns (drop i ns)) ≡ at + (length head + length (columns ns)) → length ns ≤ i
    → end + 1 ≡ at + length (line_of head ns)
ended head ns at end i e h =
    let none : drop i ns ≡ [] = drop_of_length-le ns h in
    omega (arith, ap (λ (l : List ℕ). length (columns l)) none, line_length head ns)

pub returns-then-not-has_room : goal.returns-then-not-has_room
returns-then-not-has_room c =
    let a = c.args in
    let low = lacks-room _ _ _ (sym c.has_room.ensures ∙ c.if-not-has_room.true) in
    short _ _ (line_of a.head.now a.numbers.now) (omega (arith, low, line_length a.head.now a.numbers.now))

-- there is room for the head word
fits : (c : Else-not-has_room) → c.args.at + length c.args.head.now ≤ c.args.size
fits c = has_room_lem _ _ _ (sym c.has_room.ensures ∙ c.if-not-has_room.false)

pub overflow_add-end : goal.overflow_add-end
overflow_add-end c = omega (arith, fits (goal.at.overflow_add-end c).Else-not-has_room)

pub loop-number-init : goal.loop-number-init
loop-number-init c = omega (arith, fits (goal.at.loop-number-init c).Else-not-has_room)

-- a number of 64 bits has few digits
few : (c : After-width-count) → c.width-count.result ≤ 20
few c =
    let l = c.loop-number in
    let n : ℕ = get_or c.args.numbers.now l.number-index 0 in
    omega (arith, c.width-count.ensures, width-le n (omega (arith, c.type_inv.numbers l.number-index)))

pub overflow_add-count : goal.overflow_add-count
overflow_add-count c = omega (arith, few (goal.at.overflow_add-count c).After-width-count)

pub returns-then-not-has_room-2 : goal.returns-then-not-has_room-2
returns-then-not-has_room-2 c =
    let l = c.loop-number in
    let a = c.args in
    let low = lacks-room _ _ _ (sym c.has_room-in-loop-number.ensures ∙ c.if-not-has_room-2.true) in
    short _ _ (line_of a.head.now a.numbers.now)
    (omega (arith, low, l.invariant.2, c.width-count.ensures, columns-length a.numbers.now l.number-index (omega arith), line_length a.head.now a.numbers.now))

-- there is room for the number
fits_2 : (c : Else-not-has_room-2)
    → c.loop-number.end + (c.width-count.result + 1) ≤ c.args.size
fits_2 c = has_room_lem _ _ _ (sym c.has_room-in-loop-number.ensures ∙ c.if-not-has_room-2.false)

pub overflow_add-end-in-loop-number : goal.overflow_add-end-in-loop-number
overflow_add-end-in-loop-number c = omega (arith, fits_2 (goal.at.overflow_add-end-in-loop-number c).Else-not-has_room-2)

pub loop-number-preserved : goal.loop-number-preserved
loop-number-preserved c =
    let l = c.loop-number in
    let ns = c.args.numbers.now in
    omega (arith, fits_2 (goal.at.loop-number-preserved c).Else-not-has_room-2, c.width-count.ensures, l.invariant.2, columns-length ns l.number-index (omega arith))

pub returns-then-end-size : goal.returns-then-end-size
returns-then-end-size c =
    let l = c.loop-number in
    let a = c.args in
    until _ _ (line_of a.head.now a.numbers.now) (ended a.head.now a.numbers.now a.at l.end l.number-index l.invariant.2 (omega arith)) (omega arith)

pub returns : goal.returns
returns c =
    let l = c.loop-number in
    let a = c.args in
    short _ _ (line_of a.head.now a.numbers.now) (omega (arith, ended a.head.now a.numbers.now a.at l.end l.number-index l.invariant.2 (omega arith)))
