-- `output::put_all` meets its contract. The loop's invariant: the slice is what it was with the first i bytes pasted in at the offset.
use mathlib.Core.Path.{◌≡◌, refl, sym, ◌∙◌}
use Prim.Native.Nat.{◌+◌, ◌<◌, zero-le}
use native.Mathlib.Numerals.{add-one}
use native.Mathlib.Omega.{arith}
use lib.ListN.{length, set, get_or, length-set}
use lib.Seq.{paste, paste-zero, paste-suc, take-length}
use Rattle.output.specs.Output.{placed}
use Rattle.output.proofs.Laws.{placed-room, past_room, placed-short, past-short, has_room_lem, lacks-room}
use Rattle.output.proofs.put_all.Goals as goal

pub returns-then-not-has_room : goal.returns-then-not-has_room
returns-then-not-has_room c =
    let a = c.args in
    let short : length a.out.now < a.at + length a.bytes.now =
    omega (arith, lacks-room _ _ _ (sym c.has_room.ensures ∙ c.if-not-has_room.true)) in
    (sym (past-short _ _ _ short), sym (placed-short _ _ _ short))

pub loop-i-init : goal.loop-i-init
loop-i-init c =
    let a = c.args in
    (omega (arith, has_room_lem _ _ _ (sym c.has_room.ensures ∙ c.if-not-has_room.false)), zero-le, paste-zero a.out.now a.at a.bytes.now, refl)

pub loop-i-preserved : goal.loop-i-preserved
loop-i-preserved c =
    let a = c.args in
    let l = c.loop-i in
    let stored : set l.out (a.at + l.i) (get_or a.bytes.now l.i 0) ≡ paste a.out.now a.at a.bytes.now (l.i + 1) =
    rw (l.invariant.2, add-one l.i) (paste-suc a.out.now a.at a.bytes.now l.i 0 (omega arith) (omega arith)) in
    (l.invariant.0, omega arith, stored, simp length-set l.invariant.3)

pub returns : goal.returns
returns c =
    let a = c.args in
    let l = c.loop-i in
    let all : l.i ≡ length a.bytes.now = omega arith in
    let done : paste a.out.now a.at a.bytes.now (length a.bytes.now) ≡ placed a.out.now a.at a.bytes.now =
    rw (placed-room a.out.now a.at a.bytes.now l.invariant.0, take-length) in
    (sym (past_room a.out.now a.at a.bytes.now l.invariant.0), l.invariant.2 ∙ rw all done)
