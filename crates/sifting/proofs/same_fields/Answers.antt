-- `sifting::same_fields` meets its contract: what it reads of the array are the slots of the columns.
use mathlib.Core.Path.{ap, ◌∙◌}
use mathlib.Core.Bool.{Bool, ◌&&◌}
use Prim.Native.Nat.{◌+◌}
use lib.Dec.{eqb}
use lib.ListN.{get_or}
use Rattle.memory.proofs.Views.{column-at}
use Rattle.sifting.specs.Keeping.{same_fields}
use Rattle.sifting.proofs.same_fields.Goals as goal

pub returns : goal.returns
unfolding same_fields
returns c =
    let xs = c.args.inserts.now in
    let i = c.args.i in
    let j = c.args.j in
    let h = c.requires.i_lt_character_slots in
    let g = c.requires.j_lt_character_slots in
    rw (
      column-at 1024 1 xs i h,
      column-at 1024 1 xs j g,
      column-at 1024 2 xs i h,
      column-at 1024 2 xs j g,
      column-at 1024 3 xs i h,
      column-at 1024 3 xs j g,
    )
    (c.both-2.ensures
    ∙ ap (λ (b : Bool). b && eqb (get_or xs (3072 + i) 0) (get_or xs (3072 + j) 0)) c.both.ensures)
