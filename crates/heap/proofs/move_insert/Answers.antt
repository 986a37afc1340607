-- `heap::move_insert` meets its contract: an insert put into its own slot changes nothing, and what is read of the array
-- are the slots of the columns.
use Prim.Native.Nat.{ℕ}
use mathlib.Core.List.{List}
use mathlib.Core.Path.{refl, sym, subst}
use lib.Seq.{get_or-take, set-get_or}
use Rattle.memory.proofs.Views.{column-at}
use Rattle.woot.specs.Memory.{key_column, previous_column, next_column, code_point_column}
use Rattle.heap.specs.Keeping.{Moved}
use borrow.Author.Rules.{rules}
use Rattle.heap.proofs.move_insert.Goals as goal

stays : (xs : List ℕ) (i : ℕ) → Moved xs i i xs
stays xs i =
    record {
      size = refl;
      ids = sym (set-get_or (key_column xs) i 0);
      previous = sym (set-get_or (previous_column xs) i 0);
      next = sym (set-get_or (next_column xs) i 0);
      points = sym (set-get_or (code_point_column xs) i 0);
    }

pub returns-then-from-to : goal.returns-then-from-to
returns-then-from-to c =
    let xs = c.args.inserts.now in
    subst (λ (k : ℕ). Moved xs c.args.from k xs) c.if-from-to.true (stays xs c.args.from)

pub returns : goal.returns
returns c =
    let xs = c.args.inserts.now in
    let i = c.args.from in
    let h = c.requires.from_lt_character_slots in
    rw (get_or-take 1024 xs i 0 h, column-at 1024 1 xs i h, column-at 1024 2 xs i h, column-at 1024 3 xs i h)
    c.put_at.ensures
