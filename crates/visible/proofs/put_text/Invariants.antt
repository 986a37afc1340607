-- `visible::put_text` meets its contract. The loop's invariant: what is left of the text, put at the offset,
-- makes the slice what the whole text makes it.
use Rattle.visible.proofs.Shown.{text_left, Going}
use Rattle.visible.proofs.put_text.Given as goal

abbrev pub invariant-loop-i : goal.invariant-loop-i
invariant-loop-i l = Going (text_left l.code_points l.toggles l.n 0) l.initial.out l.out l.at (text_left l.code_points l.toggles l.n l.i)
