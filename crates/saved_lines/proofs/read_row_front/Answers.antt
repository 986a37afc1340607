-- `saved_lines::read_row_front` meets its contract, kind by kind.
use Rattle.saved_lines.proofs.read_row_front.Goals as goal

pub returns-in-Saved : goal.returns-in-Saved
returns-in-Saved c =
    record {
      line_value = rw c.in-Saved.is c.read_character_front.ensures.line_value;
      next_value = c.read_character_front.ensures.next_value;
      next_in_bounds = c.read_character_front.ensures.next_in_bounds;
    }

pub returns-in-Archived : goal.returns-in-Archived
returns-in-Archived c =
    record {
      line_value = rw c.in-Archived.is c.read_placed_front.ensures.line_value;
      next_value = c.read_placed_front.ensures.next_value;
      next_in_bounds = c.read_placed_front.ensures.next_in_bounds;
    }
