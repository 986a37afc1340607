-- `pending_slots::operation_at` reads the slot of each column.
use Prim.Native.Nat.{ℕ, ◌+◌, ◌<◌}
use mathlib.Core.Path.{◌≡◌, ◌∙◌}
use mathlib.Core.List.{List}
use lib.ListN.{get_or}
use lib.Seq.{get_or-take}
use Rattle.woot.specs.Memory.{column, operation_of, operation_at}
use Rattle.memory.proofs.Views.{column-at}
use borrow.Author.Rules.{rules}
use Rattle.pending_slots.proofs.operation_at.Goals as goal

slotted : (xs : List ℕ) (j : ℕ) → j < 512
    → operation_of (get_or xs j 0) (get_or xs (512 + j) 0) (get_or xs (1024 + j) 0) (get_or xs (1536 + j) 0)
    ≡ operation_at (column 512 0 xs) (column 512 1 xs) (column 512 2 xs) (column 512 3 xs) j
slotted xs j h = rw (get_or-take 512 xs j 0 h, column-at 512 1 xs j h, column-at 512 2 xs j h, column-at 512 3 xs j h)

pub operation-requires : goal.operation-requires
operation-requires c = rw (slotted c.args.pending.now c.args.j c.requires.j_lt_pending_slots) c.requires.j_value

pub returns : goal.returns
returns c = c.operation.ensures ∙ slotted c.args.pending.now c.args.j c.requires.j_lt_pending_slots
