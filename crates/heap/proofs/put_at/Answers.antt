-- `heap::put_at` meets its contract: a store leaves the number of slots as it is.
use lib.ListN.{length-set, set}
use native.Mathlib.Omega.{arith}
use Prim.Native.Nat.{◌+◌}
use borrow.Author.Rules.{rules}
use Rattle.heap.proofs.Columns.{put-at}
use Rattle.heap.proofs.put_at.Goals as goal

pub bounds-inserts-i-2 : goal.bounds-inserts-i-2
bounds-inserts-i-2 c =
    let a = c.args in
    omega (arith, length-set a.inserts.now a.i a.w)

pub bounds-inserts-i-3 : goal.bounds-inserts-i-3
bounds-inserts-i-3 c =
    let a = c.args in
    let once = set a.inserts.now a.i a.w in
    omega (arith, length-set a.inserts.now a.i a.w, length-set once (1024 + a.i) a.x)

pub bounds-inserts-i-4 : goal.bounds-inserts-i-4
bounds-inserts-i-4 c =
    let a = c.args in
    let once = set a.inserts.now a.i a.w in
    let twice = set once (1024 + a.i) a.x in
    omega (
      arith,
      length-set a.inserts.now a.i a.w,
      length-set once (1024 + a.i) a.x,
      length-set twice (2048 + a.i) a.y,
    )

pub returns : goal.returns
returns c = let a = c.args in put-at a.inserts.now a.i a.w a.x a.y a.z c.requires.i_lt_character_slots
