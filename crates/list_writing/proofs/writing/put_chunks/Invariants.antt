-- `list_writing::writing::put_chunks` meets its contract, by the invariant of the loop over lines.
use mathlib.Core.Path.{ap, ◌∙◌}
use mathlib.Core.List.{List}
use native.Mathlib.Omega.{arith}
use lib.ListN.{length}
use borrow.Author.Rules.{rules}
use Rattle.output.specs.Output.{placed, past}
use Rattle.output.proofs.Laws.{length-placed}
use Rattle.lines.proofs.Sequences.{Putting, putting_begun, putting_more, putting_end}
use Rattle.bulk.specs.Catching.{Chunk}
use Rattle.chunks.specs.Columns.{chunks_in}
use Rattle.listing.specs.Format.{chunk_line}
use Rattle.list_writing.proofs.Columns.{no_chunk, many_chunks, all-chunks, line_at}
use Rattle.list_writing.proofs.writing.put_chunks.Given as goal

abbrev pub invariant-loop-i : goal.invariant-loop-i
invariant-loop-i l = Putting chunk_line (chunks_in l.heads l.words l.n) l.n l.initial.out l.at l.out l.end l.i
