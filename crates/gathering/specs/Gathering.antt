-- For the proofs of the code alone: what reading the lines of a heap answers, and what one line adds to it.
use Rattle.std.specs.Prelude.{ℕ, ◌+◌, List, Bool, true, false, ◌&&◌, cond, length, take}
use Rattle.lists.specs.Lists.{every}
use Rattle.woot.specs.declared.Operation.{Operation}
use Rattle.woot.specs.declared.Operation.TheVariants.{Insert as insert, Toggle as toggle}
use Rattle.woot.specs.Operations.{inserts, toggles_among}
use Rattle.woot.specs.Ranges.{in_range}
use Rattle.woot.specs.Memory.{character_slots}
use Rattle.codec.specs.Calls.{line_laid_out}
use Rattle.gathering.specs.declared.Gathered.{Gathered}
use Rattle.heap.specs.Format.{heap_laid_out, line_said, heap_said}
use Rattle.heap.specs.Columns.{InsertsIn, TogglesIn}

-- ---- the answer

-- with a line that lacks the layout nothing is told
unfoldable pub ungathered : Gathered
ungathered = record { laid_out = false; in_range = false; inserts = 0; toggles = 0 }

-- whether all are in range, and how many there are of either kind, "repeats counted"
unfoldable pub gathered_of : List Operation → Gathered
gathered_of os =
    record {
      laid_out = true;
      in_range = every in_range os;
      inserts = length (inserts os);
      toggles = length (toggles_among os);
    }

unfoldable pub gathered : List ℕ → Gathered
gathered s = cond (heap_laid_out s) (gathered_of (heap_said s)) ungathered

-- ---- the arrays

-- the first 1,024 of either kind, each in its array
pub record Held (xs ts : List ℕ) (os : List Operation) : Type 0 where
  pub inserted : InsertsIn xs (take character_slots (inserts os))
  pub toggled : TogglesIn ts (take character_slots (toggles_among os))

-- ---- a line

-- an insert more, or a toggle
unfoldable pub counted_one : Gathered → Bool → Bool → Gathered
counted_one g isInsert passes =
    record {
      laid_out = true;
      in_range = g.in_range && passes;
      inserts = cond isInsert (g.inserts + 1) g.inserts;
      toggles = cond isInsert g.toggles (g.toggles + 1);
    }

unfoldable pub and_one : Gathered → Operation → Gathered
and_one g (insert i) = counted_one g true (in_range (insert i))
and_one g (toggle t) = counted_one g false (in_range (toggle t))

unfoldable pub and_line : Gathered → List ℕ → Gathered
and_line g line = cond (line_laid_out line) (and_one g (line_said line)) ungathered
