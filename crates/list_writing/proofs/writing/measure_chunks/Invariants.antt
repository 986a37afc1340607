-- `list_writing::writing::measure_chunks` meets its contract, by the invariant of the loop over lines.
use mathlib.Core.Path.{ap, ◌∙◌}
use mathlib.Core.List.{List}
use native.Mathlib.Omega.{arith}
use borrow.Author.Rules.{rules}
use Rattle.lines.specs.Room.{room_for}
use Rattle.lines.proofs.Sequences.{Measuring, measuring_begun, measuring_more, measuring_short, measuring_end}
use Rattle.bulk.specs.Catching.{Chunk}
use Rattle.chunks.specs.Columns.{chunks_in}
use Rattle.listing.specs.Format.{chunk_line}
use Rattle.list_writing.proofs.Columns.{no_chunk, many_chunks, all-chunks, line_at}
use Rattle.list_writing.proofs.writing.measure_chunks.Given as goal

abbrev pub invariant-loop-i : goal.invariant-loop-i
invariant-loop-i l = Measuring chunk_line (chunks_in l.heads l.words l.n) l.n l.size l.at l.end l.i
