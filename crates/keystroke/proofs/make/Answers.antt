-- `keystroke::make` reads the keys on both sides of the insertion point, and makes the insert between them.
use Rattle.generation.proofs.Neighbours.{left_bits, right_bits, insert_made}
use Rattle.keystroke.proofs.make.Goals as goal

pub next_insert-requires-clause-left_bound : goal.next_insert-requires-clause-left_bound
next_insert-requires-clause-left_bound c =
    let b = c.requires.neighboured in
    left_bits b.state _ _ b.ranged _ _ (c.left-left.ensures _ b.keyed b.toggled) (c.right-right.ensures _ b.keyed b.toggled)

pub next_insert-requires-clause-right_bound : goal.next_insert-requires-clause-right_bound
next_insert-requires-clause-right_bound c =
    let b = c.requires.neighboured in
    right_bits b.state _ _ b.ranged _ _ (c.left-left.ensures _ b.keyed b.toggled) (c.right-right.ensures _ b.keyed b.toggled)

pub returns : goal.returns
returns c s site ks ts ranged =
    let left = c.left-left.ensures _ ks ts in
    let right = c.right-right.ensures _ ks ts in
    insert_made s _ _ ranged _ _ left right _ site c.next_insert.ensures
