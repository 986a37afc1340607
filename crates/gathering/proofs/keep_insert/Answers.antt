-- `gathering::keep_insert` meets its contract: where there is a slot, the insert is behind the others.
use mathlib.Core.Path.{refl}
use Rattle.heap.proofs.Columns.{insert-full, insert-kept}
use borrow.Author.Rules.{rules}
use Rattle.gathering.proofs.keep_insert.Goals as goal

pub returns-then-n-ge-CHARACTERS : goal.returns-then-n-ge-CHARACTERS
returns-then-n-ge-CHARACTERS c = λ is a e. insert-full is _ _ a e c.if-n-ge-CHARACTERS.true

pub returns : goal.returns
returns c =
    let few = c.if-n-ge-CHARACTERS.false in
    λ is a e.
    insert-kept is _ _ a e few
    (record {
      id = c.key.ensures.value;
      previous = c.key-2.ensures.value;
      next = c.key-3.ensures.value;
      point = refl;
    })
    c.put_at.ensures
