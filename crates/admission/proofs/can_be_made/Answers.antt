-- `can_be_made` lends the parts in use of the columns.
use Prim.Native.Nat.{◌≤◌}
use native.Mathlib.Omega.{arith}
use borrow.Author.Rules.{rules}
use lib.ListN.{length, take, length-take, length-drop}
use Rattle.memory.proofs.Fullness.{begins, Ends, ends}
use Rattle.admission.proofs.can_be_made.Goals.{Start}
use Rattle.admission.proofs.can_be_made.Goals as goal

-- the columns that are lent
columns : (s : Start) → Ends 1024 s.args.characters.now
columns s = ends 1024 s.requires.characters_len

pub is_loadable-requires : goal.is_loadable-requires
is_loadable-requires c =
    record {
      tabled = c.requires.tabled;
      ids_in_bounds = simp (length-take, length-drop) (omega arith);
      ids_in_bounds_2 = simp (length-take, length-drop) (omega arith);
    }

pub returns : goal.returns
returns c cs s small e f g = c.is_loadable.ensures cs s small e f g

pub slice_bounds-ids-count : goal.slice_bounds-ids-count
slice_bounds-ids-count c = begins 1024 0

pub slice_bounds-ids-start : goal.slice_bounds-ids-start
slice_bounds-ids-start c = begins 1024 0

pub slice_bounds-ids-end : goal.slice_bounds-ids-end
slice_bounds-ids-end c = (columns (goal.at.slice_bounds-ids-end c).Start).first

pub slice_bounds-previous-count : goal.slice_bounds-previous-count
slice_bounds-previous-count c = begins 1024 1

pub slice_bounds-previous-start : goal.slice_bounds-previous-start
slice_bounds-previous-start c = begins 1024 1

pub slice_bounds-previous-end : goal.slice_bounds-previous-end
slice_bounds-previous-end c = (columns (goal.at.slice_bounds-previous-end c).Start).second

pub slice_bounds-next-count : goal.slice_bounds-next-count
slice_bounds-next-count c = begins 1024 2

pub slice_bounds-next-start : goal.slice_bounds-next-start
slice_bounds-next-start c = begins 1024 2

pub slice_bounds-next-end : goal.slice_bounds-next-end
slice_bounds-next-end c = (columns (goal.at.slice_bounds-next-end c).Start).third

pub slice_bounds-is_loadable-end : goal.slice_bounds-is_loadable-end
slice_bounds-is_loadable-end c = simp (length-take, length-drop) (omega arith)

pub slice_bounds-is_loadable-end-2 : goal.slice_bounds-is_loadable-end-2
slice_bounds-is_loadable-end-2 c = simp (length-take, length-drop) (omega arith)

pub slice_bounds-is_loadable-end-3 : goal.slice_bounds-is_loadable-end-3
slice_bounds-is_loadable-end-3 c = simp (length-take, length-drop) (omega arith)
