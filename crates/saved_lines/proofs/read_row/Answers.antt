-- `saved_lines::read_row` meets its contract, kind by kind.
use Rattle.saved_lines.proofs.read_row.Goals as goal

pub returns-in-Saved : goal.returns-in-Saved
returns-in-Saved c = rw c.in-Saved.is c.read_character.ensures

pub returns-in-Archived : goal.returns-in-Archived
returns-in-Archived c = rw c.in-Archived.is c.read_placed.ensures
